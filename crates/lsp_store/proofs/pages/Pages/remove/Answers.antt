use Rattle.std.proofs.Common.{length, sym, subst, ap, arith}
use Rattle.isis_base.specs.Identifiers.{lsp_number}
use Rattle.lsp_store.specs.Maps.{RisesFrom}
use Rattle.lsp_store.specs.Places.{flatten}
use Rattle.lsp_store.proofs.MapLemmas.{erase-rises}
use Rattle.lsp_store.proofs.EditLemmas.{length-taken, absent, left-alone}
use Rattle.lsp_store.proofs.IdLemmas.{HaveIds, erase-ids}
use Rattle.lsp_store.proofs.pages.Pages.remove.Goals as goal

pub invariant_of-self : goal.invariant_of-self
invariant_of-self g c =
    let old = c.self.invariant in
    let out = c.take_out-value.ensures in
    let less = length-taken (flatten c.self.inside.pages.items) c.to_number-n.result c.take_out-value.result out.old in
    let len = ap length out.all in
    let count = old.size in
    let fits = old.fits in
    record {
      filled = out.filled;
      dense = out.dense;
      empty = out.empty;
      rises = subst (RisesFrom 0) (sym out.all) (erase-rises (flatten c.self.inside.pages.items) 0 c.to_number-n.result old.rises);
      ids = subst HaveIds (sym out.all) (erase-ids c.to_number-n.result (flatten c.self.inside.pages.items) old.ids);
      size = omega (arith, less, len, count);
      enough = out.enough c.self.inside.spare old.enough;
      fits = omega (arith, fits);
      room = out.room;
    }

pub returns-in-Err-clause-before : goal.returns-in-Err-clause-before
returns-in-Err-clause-before g c = sym (absent c.deref.result.now c.self.inside.pages.items c.self.inside.spare c.args.self.now c.self.view_is c.to_number-n.result (lsp_number c.args.id) c.to_number-n.ensures c.in-Err.field-0 c.in-Err.ensures c.deref.ensures.value)

pub returns-in-Err-clause-removed : goal.returns-in-Err-clause-removed
returns-in-Err-clause-removed g c = left-alone c.deref.result.now c.self.inside.pages.items c.self.inside.spare c.args.self.now c.self.view_is c.to_number-n.result (lsp_number c.args.id) c.to_number-n.ensures c.in-Err.field-0 c.in-Err.ensures c.deref.ensures.value
