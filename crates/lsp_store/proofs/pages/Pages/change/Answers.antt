use Rattle.std.proofs.Common.{length, sym, subst, ap, arith}
use Rattle.std.specs.Prelude.{vec_len}
use Rattle.isis_base.specs.Identifiers.{lsp_number}
use Rattle.lsp_store.specs.Maps.{RisesFrom}
use Rattle.lsp_store.specs.Places.{flatten}
use Rattle.lsp_store.proofs.EditLemmas.{absent}
use Rattle.lsp_store.proofs.RoomLemmas.{enough-stays}
use Rattle.lsp_store.proofs.ChangeLemmas.{change-absent, change-rises, length-change_at}
use Rattle.lsp_store.proofs.IdLemmas.{HaveIds, change-ids}
use Rattle.lsp_store.proofs.pages.Pages.change.Goals as goal

pub invariant_of-self : goal.invariant_of-self
invariant_of-self g c =
    let f = g.C.Change.changed c.args.change.now in
    let old = c.self.invariant in
    let out = c.change_held.ensures in
    let all = flatten c.self.inside.pages.items in
    let same = length-change_at f c.to_number-n.result all in
    let len = ap length out.all in
    let size = old.size in
    record {
      filled = out.filled;
      dense = out.dense;
      empty = old.empty;
      rises = subst (RisesFrom 0) (sym out.all) (change-rises f c.to_number-n.result 0 all old.rises);
      ids = subst HaveIds (sym out.all) (change-ids f c.to_number-n.result all old.ids);
      size = omega (arith, same, len, size);
      enough = enough-stays c.self.inside.pages.items c.change_held.new.pages.items (vec_len c.self.inside.pool) (vec_len c.self.inside.pool) c.self.inside.spare c.self.inside.spare (omega arith) (omega arith) (let le = out.strain in omega (arith, le)) old.enough;
      fits = old.fits;
      room = (let a = old.room.0 in let l = out.len in let k = out.capacity in omega (arith, a, l, k), let a = old.room.1 in let l = out.len in omega (arith, a, l));
    }

pub returns-in-Err-clause-entries : goal.returns-in-Err-clause-entries
returns-in-Err-clause-entries g c =
    sym (change-absent (g.C.Change.changed c.args.change.now) (lsp_number c.args.id) c.args.self.now.entries (absent c.deref.result.now c.self.inside.pages.items c.self.inside.spare c.args.self.now c.self.view_is c.to_number-n.result (lsp_number c.args.id) c.to_number-n.ensures c.in-Err.field-0 c.in-Err.ensures c.deref.ensures.value))
