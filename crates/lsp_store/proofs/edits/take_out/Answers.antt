use Rattle.std.proofs.Common.{length, sym, subst, ap, ◌∙◌, set, arith, get_or-set_same}
use Rattle.std.specs.Prelude.{vec_len}
use Rattle.std.proofs.lemmas.List.Edits.{length-remove}
use Rattle.lsp_store.specs.Places.{flatten, AllFilled, AllEmpty}
use Rattle.lsp_store.specs.Rooms.{strain}
use Rattle.lsp_store.proofs.RoomLemmas.{strain-set, strain-given_up, enough-stays}
use Rattle.lsp_store.proofs.PageLemmas.{empty-push}
use Rattle.lsp_store.proofs.EditLemmas.{is-page, held-taken, held-erased, held-left, flat-given_up, filled-given_up, none-left}
use Rattle.lsp_store.specs.Rooms.{AreDense}
use Rattle.lsp_store.proofs.DenseLemmas.{nearly-set, dense-given_up}
use Rattle.lsp_store.proofs.edits.take_out.Goals as goal

pub returns-then-left-gt0-clause-old : goal.returns-then-left-gt0-clause-old
returns-then-left-gt0-clause-old g c = held-taken c.args.pages.now.items c.args.n c.args.at c.requires.at c.index_mut.result.now c.index_mut.ensures.value c.remove-value.result c.remove-value.ensures.old

pub join_beside-requires-clause-filled : goal.join_beside-requires-clause-filled
join_beside-requires-clause-filled g c =
    let read = c.index.ensures ∙ get_or-set_same c.args.pages.now.items c.args.at.0 c.remove-value.new.self c.index.result.now c.requires.at.home.inside in
    let len = c.len-left.ensures.same ∙ ap length read in
    held-left c.args.pages.now.items c.args.n c.args.at c.requires.at c.index_mut.result.now c.index_mut.ensures.value c.remove-value.new.self c.remove-value.ensures.new c.requires.filled (let h = c.if-left-gt0.true in omega (arith, len, h))

pub returns-then-left-gt0-clause-all : goal.returns-then-left-gt0-clause-all
returns-then-left-gt0-clause-all g c =
    c.join_beside.ensures.all ∙ held-erased c.args.pages.now.items c.args.n c.args.at c.requires.at c.index_mut.result.now c.index_mut.ensures.value c.remove-value.new.self c.remove-value.ensures.new

pub returns-clause-old : goal.returns-clause-old
returns-clause-old g c = held-taken c.args.pages.now.items c.args.n c.args.at c.requires.at c.index_mut.result.now c.index_mut.ensures.value c.remove-value.result c.remove-value.ensures.old

pub returns-clause-all : goal.returns-clause-all
returns-clause-all g c =
    let read = c.index.ensures ∙ get_or-set_same c.args.pages.now.items c.args.at.0 c.remove-value.new.self c.index.result.now c.requires.at.home.inside in
    let len = c.len-left.ensures.same ∙ ap length read in
    let none = none-left c.remove-value.new.self (λ some. let h = c.if-left-gt0.false in omega (arith, len, h, some)) in
    ap flatten c.remove-page.ensures.items ∙ flat-given_up c.args.pages.now.items c.args.at.0 c.remove-value.new.self c.requires.at.home.inside none ∙ held-erased c.args.pages.now.items c.args.n c.args.at c.requires.at c.index_mut.result.now c.index_mut.ensures.value c.remove-value.new.self c.remove-value.ensures.new

pub returns-clause-filled : goal.returns-clause-filled
returns-clause-filled g c = subst AllFilled (sym c.remove-page.ensures.items) (filled-given_up c.args.pages.now.items c.args.at.0 c.remove-value.new.self c.requires.filled)

pub returns-clause-empty : goal.returns-clause-empty
returns-clause-empty g c =
    let read = c.index.ensures ∙ get_or-set_same c.args.pages.now.items c.args.at.0 c.remove-value.new.self c.index.result.now c.requires.at.home.inside in
    let len = c.len-left.ensures.same ∙ ap length read in
    let none = none-left c.remove-value.new.self (λ some. let h = c.if-left-gt0.false in omega (arith, len, h, some)) in
    let page = c.remove-page.ensures.value ∙ get_or-set_same c.args.pages.now.items c.args.at.0 c.remove-value.new.self c.remove-page.result c.requires.at.home.inside in
    subst AllEmpty (sym c.push_reserved.ensures.items) (empty-push c.args.pool.now.items c.remove-page.result c.requires.empty (page ∙ none))

pub returns-then-left-gt0-clause-enough : goal.returns-then-left-gt0-clause-enough
returns-then-left-gt0-clause-enough g c spare enough =
    let same = ap length (is-page c.args.pages.now.items c.args.at.0 c.index_mut.result.now c.requires.at.home.inside c.index_mut.ensures.value) in
    let less = length-remove c.index_mut.result.now c.args.at.1 (let h = c.requires.at.place.inside in omega (arith, h, same)) in
    let len = ap length c.remove-value.ensures.new in
    let le = strain-set c.args.pages.now.items c.args.at.0 0 c.remove-value.new.self c.requires.at.home.inside (omega (arith, same, len, less)) in
    c.join_beside.ensures.enough spare (enough-stays c.args.pages.now.items (set c.args.pages.now.items c.args.at.0 c.remove-value.new.self) (vec_len c.args.pool.now) (vec_len c.args.pool.now) spare spare (omega arith) (omega arith) (omega (arith, le)) enough)

pub returns-clause-enough : goal.returns-clause-enough
returns-clause-enough g c spare enough =
    let le = strain-given_up c.args.pages.now.items c.args.at.0 c.remove-value.new.self c.requires.at.home.inside in
    let items = ap strain c.remove-page.ensures.items in
    let more = c.push_reserved.ensures.len in
    enough-stays c.args.pages.now.items c.remove-page.new.self.items (vec_len c.args.pool.now) (vec_len c.push_reserved.new.self) spare spare (omega arith) (omega (arith, more)) (omega (arith, le, items, more)) enough

pub join_beside-requires-clause-nearly : goal.join_beside-requires-clause-nearly
join_beside-requires-clause-nearly g c =
    let same = ap length (is-page c.args.pages.now.items c.args.at.0 c.index_mut.result.now c.requires.at.home.inside c.index_mut.ensures.value) in
    let less = length-remove c.index_mut.result.now c.args.at.1 (let h = c.requires.at.place.inside in omega (arith, h, same)) in
    let len = ap length c.remove-value.ensures.new in
    nearly-set c.args.pages.now.items c.args.at.0 c.remove-value.new.self c.requires.at.home.inside (omega (arith, same, len, less)) c.requires.dense

pub returns-clause-dense : goal.returns-clause-dense
returns-clause-dense g c =
    let read = c.index.ensures ∙ get_or-set_same c.args.pages.now.items c.args.at.0 c.remove-value.new.self c.index.result.now c.requires.at.home.inside in
    let left = c.len-left.ensures.same ∙ ap length read in
    let none = c.if-left-gt0.false in
    let same = ap length (is-page c.args.pages.now.items c.args.at.0 c.index_mut.result.now c.requires.at.home.inside c.index_mut.ensures.value) in
    let less = length-remove c.index_mut.result.now c.args.at.1 (let h = c.requires.at.place.inside in omega (arith, h, same)) in
    let len = ap length c.remove-value.ensures.new in
    subst AreDense (sym c.remove-page.ensures.items) (dense-given_up c.args.pages.now.items c.args.at.0 c.remove-value.new.self c.requires.at.home.inside (omega (arith, same, len, less, left, none)) c.requires.dense)
