use Rattle.std.proofs.Common.{suc, ◌<◌, length, refl, sym, subst, arith}
use Rattle.lsp_store.specs.Rooms.{AreDense}
use Rattle.lsp_store.proofs.DenseLemmas.{thick, dense-joined, dense-back, dense-both}
use Rattle.lsp_store.proofs.edits.join_beside.Goals as goal

pub returns-then-is_thin-clause-dense : goal.returns-then-is_thin-clause-dense
returns-then-is_thin-clause-dense g c =
    let next = c.if-is_thin.ensures.next refl in
    let inside = rw c.deref.ensures.value at next in
    let lt : suc c.args.k < length c.args.pages.now.items = omega (arith, inside) in
    subst AreDense (sym c.join.ensures.pages) (dense-joined c.args.pages.now.items c.args.k lt c.requires.filled c.requires.nearly)

pub returns-then-is_thin-2-clause-dense : goal.returns-then-is_thin-2-clause-dense
returns-then-is_thin-2-clause-dense g c =
    let some = c.if-k-eq0.false in
    let next = thick c.deref.result.now c.args.pages.now.items c.args.k c.deref.ensures.value (c.if-is_thin.ensures.no refl) in
    subst AreDense (sym c.join-then-is_thin-2.ensures.pages) (dense-back c.args.pages.now.items c.args.k (omega (arith, some)) c.requires.inside next c.requires.nearly)

pub returns-else-is_thin-2-clause-dense : goal.returns-else-is_thin-2-clause-dense
returns-else-is_thin-2-clause-dense g c =
    let some = c.if-k-eq0.false in
    let next = thick c.deref.result.now c.args.pages.now.items c.args.k c.deref.ensures.value (c.if-is_thin.ensures.no refl) in
    dense-both c.deref-2.result.now c.args.pages.now.items c.args.k c.deref-2.ensures.value (omega (arith, some)) c.requires.inside next (c.if-is_thin-2.ensures.no refl) c.requires.nearly
