use Rattle.std.proofs.Common.{List, length, sym, subst, ap, ◌∙◌, arith, zero-le}
use Rattle.isis_base.specs.Identifiers.{lsp_number}
use Rattle.lsp_store.specs.Maps.{RisesFrom, put}
use Rattle.lsp_store.specs.Places.{flatten}
use Rattle.lsp_store.proofs.MapLemmas.{put-rises}
use Rattle.lsp_store.proofs.EditLemmas.{length-new, length-held, absent, absent-inside, put-kept}
use Rattle.std.specs.Prelude.{vec_len}
use Rattle.lsp_store.proofs.RoomLemmas.{enough-stays}
use Rattle.lsp_store.proofs.IdLemmas.{HaveIds, put-ids}
use Rattle.lsp_store.proofs.pages.Pages.put.Goals as goal

pub invariant_of-self : goal.invariant_of-self
invariant_of-self g c =
    let old = c.self.invariant in
    let out = c.put_held.ensures in
    let same = length-held (flatten c.self.inside.pages.items) c.args.id c.args.value c.put_held.result old.rises out.old in
    let len = ap length out.all in
    let count = old.size in
    record {
      filled = out.filled;
      dense = out.dense;
      empty = old.empty;
      rises = subst (RisesFrom 0) (sym out.all) (put-rises (flatten c.self.inside.pages.items) 0 c.args.id c.args.value zero-le old.rises);
      ids = subst HaveIds (sym out.all) (put-ids c.args.id c.args.value (flatten c.self.inside.pages.items) c.lsp_id_law.ensures old.ids);
      size = omega (arith, same, len, count);
      enough = enough-stays c.self.inside.pages.items c.put_held.new.pages.items (vec_len c.self.inside.pool) (vec_len c.self.inside.pool) c.self.inside.spare c.self.inside.spare (omega arith) (omega arith) (let le = out.strain in omega (arith, le)) old.enough;
      fits = old.fits;
      room = (let a = old.room.0 in let l = out.len in let k = out.capacity in omega (arith, a, l, k), let a = old.room.1 in let l = out.len in omega (arith, a, l));
    }

pub returns-in-Err-claim-clause-held : goal.returns-in-Err-claim-clause-held
returns-in-Err-claim-clause-held g c some = absurd (let e = absent c.deref.result.now c.self.inside.pages.items c.self.inside.spare c.args.self.now c.self.view_is c.to_number.result (lsp_number c.args.id) c.to_number.ensures c.in-Err.at c.in-Err.ensures c.deref.ensures.value in let f = rw e at some in grind arith)

pub invariant_of-self-in-Err : goal.invariant_of-self-in-Err
invariant_of-self-in-Err g c =
    let old = c.self.invariant in
    let out = c.put_new.ensures in
    let claim = c.in-Ok-claim.ensures in
    let all = out.all ∙ ap (λ (ps : List (List _)). put (flatten ps) c.args.id c.args.value) claim.pages in
    let more = length-new (flatten c.self.inside.pages.items) c.args.id c.args.value old.rises (absent-inside c.deref.result.now c.self.inside.pages.items c.self.inside.spare c.args.self.now c.self.view_is c.to_number.result (lsp_number c.args.id) c.to_number.ensures c.in-Err.at c.in-Err.ensures c.deref.ensures.value) in
    let len = ap length all in
    let count = old.size in
    let some = claim.some in
    let fits = claim.fits in
    record {
      filled = out.filled;
      dense = out.dense;
      empty = out.empty;
      rises = subst (RisesFrom 0) (sym all) (put-rises (flatten c.self.inside.pages.items) 0 c.args.id c.args.value zero-le old.rises);
      ids = subst HaveIds (sym all) (put-ids c.args.id c.args.value (flatten c.self.inside.pages.items) c.lsp_id_law.ensures old.ids);
      size = omega (arith, more, len, count);
      enough = out.enough c.in-Ok-claim.left some;
      fits = omega (arith, fits);
      room = out.room;
    }

pub returns-clause-before : goal.returns-clause-before
returns-clause-before g c = sym (absent c.deref.result.now c.self.inside.pages.items c.self.inside.spare c.args.self.now c.self.view_is c.to_number.result (lsp_number c.args.id) c.to_number.ensures c.in-Err.at c.in-Err.ensures c.deref.ensures.value)

pub returns-clause-ok : goal.returns-clause-ok
returns-clause-ok g c =
    let claim = c.in-Ok-claim.ensures in
    put-kept c.self.inside.pages.items c.claim.new.pages.items c.put_new.new.pages.items c.self.inside.spare c.in-Ok-claim.left c.args.self.now c.args.id c.args.value c.self.view_is (absent-inside c.deref.result.now c.self.inside.pages.items c.self.inside.spare c.args.self.now c.self.view_is c.to_number.result (lsp_number c.args.id) c.to_number.ensures c.in-Err.at c.in-Err.ensures c.deref.ensures.value) claim.pages c.put_new.ensures.all claim.left
