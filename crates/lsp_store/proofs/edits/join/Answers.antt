use Rattle.std.proofs.Common.{ℕ, suc, ◌<◌, ◌≤◌, ◌+◌, ◌∙◌, [], length, get_or, sym, subst, ap, arith}
use Rattle.std.specs.Prelude.{vec_len}
use Rattle.lsp_store.specs.Places.{flatten, AllFilled, AllEmpty}
use Rattle.lsp_store.specs.Rooms.{strain}
use Rattle.lsp_store.proofs.PageLemmas.{empty-push}
use Rattle.lsp_store.proofs.RoomLemmas.{enough-stays}
use Rattle.lsp_store.proofs.JoinLemmas.{is-joined, joined-flat, joined-filled, joined-strain}
use Rattle.lsp_store.proofs.edits.join.Goals as goal

pub returns-clause-all : goal.returns-clause-all
returns-clause-all g c =
    let pages = c.args.pages.now.items in
    let lt : suc c.args.k < length pages = let i = c.requires.inside in omega (arith, i) in
    ap flatten (is-joined pages c.remove-upper.new.self.items c.args.k (c.args.k + 1) c.index_mut.result.now c.remove-upper.result c.append.new.self lt (omega arith) c.remove-upper.ensures.items c.remove-upper.ensures.value c.index_mut.ensures.value c.append.ensures.all)
    ∙ joined-flat pages c.args.k lt

pub returns-clause-filled : goal.returns-clause-filled
returns-clause-filled g c =
    let pages = c.args.pages.now.items in
    let lt : suc c.args.k < length pages = let i = c.requires.inside in omega (arith, i) in
    let few : length (get_or pages c.args.k []) + length (get_or pages (suc c.args.k) []) ≤ 32 = subst (λ (m : ℕ). length (get_or pages c.args.k []) + length (get_or pages m []) ≤ 32) {x = c.args.k + 1} (omega arith) c.requires.few in
    subst AllFilled (sym (is-joined pages c.remove-upper.new.self.items c.args.k (c.args.k + 1) c.index_mut.result.now c.remove-upper.result c.append.new.self lt (omega arith) c.remove-upper.ensures.items c.remove-upper.ensures.value c.index_mut.ensures.value c.append.ensures.all)) (joined-filled pages c.args.k lt few c.requires.filled)

pub returns-clause-empty : goal.returns-clause-empty
returns-clause-empty g c =
    subst AllEmpty (sym c.push_reserved.ensures.items) (empty-push c.args.pool.now.items c.append.new.upper c.requires.empty c.append.ensures.none)

pub returns-clause-enough : goal.returns-clause-enough
returns-clause-enough g c spare enough =
    let pages = c.args.pages.now.items in
    let lt : suc c.args.k < length pages = let i = c.requires.inside in omega (arith, i) in
    let few : length (get_or pages c.args.k []) + length (get_or pages (suc c.args.k) []) ≤ 32 = subst (λ (m : ℕ). length (get_or pages c.args.k []) + length (get_or pages m []) ≤ 32) {x = c.args.k + 1} (omega arith) c.requires.few in
    let new = ap strain (is-joined pages c.remove-upper.new.self.items c.args.k (c.args.k + 1) c.index_mut.result.now c.remove-upper.result c.append.new.self lt (omega arith) c.remove-upper.ensures.items c.remove-upper.ensures.value c.index_mut.ensures.value c.append.ensures.all) in
    let le = joined-strain pages c.args.k lt few in
    let more = c.push_reserved.ensures.len in
    enough-stays pages _ (vec_len c.args.pool.now) (vec_len c.push_reserved.new.self) spare spare (omega arith) (omega (arith, more)) (omega (arith, le, new, more)) enough

pub returns-clause-pages : goal.returns-clause-pages
returns-clause-pages g c =
    let pages = c.args.pages.now.items in
    let lt : suc c.args.k < length pages = let i = c.requires.inside in omega (arith, i) in
    is-joined pages c.remove-upper.new.self.items c.args.k (c.args.k + 1) c.index_mut.result.now c.remove-upper.result c.append.new.self lt (omega arith) c.remove-upper.ensures.items c.remove-upper.ensures.value c.index_mut.ensures.value c.append.ensures.all
