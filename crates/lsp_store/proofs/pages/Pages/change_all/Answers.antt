use Rattle.std.proofs.Common.{length, sym, subst, ap, ◌∙◌, arith}
use Rattle.std.specs.Prelude.{vec_len}
use Rattle.lsp_store.specs.Maps.{RisesFrom, change_all}
use Rattle.lsp_store.specs.Places.{flatten, AllFilled}
use Rattle.lsp_store.specs.Rooms.{strain, AreDense}
use Rattle.lsp_store.specs.PageMaps.{PageMap}
use Rattle.lsp_store.proofs.RoomLemmas.{enough-stays}
use Rattle.lsp_store.proofs.ChangeLemmas.{all-rises, length-change_all, pages-flat, pages-filled, pages-strain}
use Rattle.lsp_store.proofs.DenseLemmas.{dense-change}
use Rattle.lsp_store.proofs.IdLemmas.{HaveIds, all-ids}
use Rattle.lsp_store.proofs.pages.Pages.change_all.Goals as goal

pub invariant_of-self : goal.invariant_of-self
invariant_of-self g c =
    let f = g.C.Change.changed c.args.change.now in
    let old = c.self.invariant in
    let out = c.change_each.ensures in
    let pages = c.self.inside.pages.items in
    let all = flatten pages in
    let flat = ap flatten out.all ∙ pages-flat f pages in
    let same = length-change_all f all in
    let len = ap length flat in
    let size = old.size in
    let few = ap strain out.all ∙ pages-strain f pages in
    record {
      filled = subst AllFilled (sym out.all) (pages-filled f pages old.filled);
      empty = old.empty;
      dense = subst AreDense (sym out.all) (dense-change f pages old.dense);
      rises = subst (RisesFrom 0) (sym flat) (all-rises f 0 all old.rises);
      ids = subst HaveIds (sym flat) (all-ids f all old.ids);
      size = omega (arith, same, len, size);
      enough = enough-stays pages c.change_each.new.pages.items (vec_len c.self.inside.pool) (vec_len c.self.inside.pool) c.self.inside.spare c.self.inside.spare (omega arith) (omega arith) (omega (arith, few)) old.enough;
      fits = old.fits;
      room = (let a = old.room.0 in let l = out.len in let k = out.capacity in omega (arith, a, l, k), let a = old.room.1 in let l = out.len in omega (arith, a, l));
    }

pub returns-clause-entries : goal.returns-clause-entries
returns-clause-entries g c =
    let f = g.C.Change.changed c.args.change.now in
    ap flatten c.change_each.ensures.all ∙ pages-flat f c.self.inside.pages.items ∙ ap (λ (kept : PageMap _). change_all f kept.entries) c.self.view_is
