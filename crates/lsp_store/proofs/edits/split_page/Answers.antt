use Rattle.std.proofs.Common.{ℕ, suc, ◌+◌, ◌<◌, ◌≤◌, ◌≡◌, [], List, length, drop, get_or, sym, subst, ap, ◌∙◌, arith, inl, inr, ◌⊎◌}
use Rattle.lsp_store.specs.Places.{flatten, AllFilled, IsHome}
use Rattle.lsp_store.specs.PageFacts.{first_number}
use Rattle.lsp_store.specs.Rooms.{strain}
use Rattle.lsp_store.proofs.RoomLemmas.{strain-halves}
use Rattle.lsp_store.proofs.PageLemmas.{is-halves, flat-halves, halves-filled, halves-lower, halves-upper, lower-room, upper-room}
use Rattle.std.proofs.lemmas.List.{get_or_default}
use Rattle.lsp_store.specs.Rooms.{AreDense}
use Rattle.lsp_store.proofs.DenseLemmas.{dense-halves}
use Rattle.lsp_store.proofs.edits.split_page.Goals as goal

pub returns-then-n-first-clause-all : goal.returns-then-n-first-clause-all
returns-then-n-first-clause-all g c =
    let items = rw c.unwrap.ensures at c.insert.ensures.items in
    let new = is-halves c.args.pages.now.items c.insert.new.self.items c.args.k c.cut_of-cut.result c.index_mut.result.now c.split.new.self c.split.new.upper c.requires.home.inside c.index_mut.ensures.value c.split.ensures.lower c.split.ensures.upper items in
    let some : 0 < c.cut_of-cut.result = elim c.cut_of-cut.ensures [ inl e ↦ omega (arith, e) | inr e ↦ let h = e.0 in omega (arith, h) ] in
    let few : c.cut_of-cut.result < 64 = elim c.cut_of-cut.ensures [ inl e ↦ omega (arith, e) | inr e ↦ let h = e.0 in omega (arith, h) ] in
    ap flatten new ∙ flat-halves c.args.pages.now.items c.args.k c.cut_of-cut.result [] c.requires.home.inside

pub returns-then-n-first-clause-filled : goal.returns-then-n-first-clause-filled
returns-then-n-first-clause-filled g c =
    let items = rw c.unwrap.ensures at c.insert.ensures.items in
    let new = is-halves c.args.pages.now.items c.insert.new.self.items c.args.k c.cut_of-cut.result c.index_mut.result.now c.split.new.self c.split.new.upper c.requires.home.inside c.index_mut.ensures.value c.split.ensures.lower c.split.ensures.upper items in
    let some : 0 < c.cut_of-cut.result = elim c.cut_of-cut.ensures [ inl e ↦ omega (arith, e) | inr e ↦ let h = e.0 in omega (arith, h) ] in
    let few : c.cut_of-cut.result < 64 = elim c.cut_of-cut.ensures [ inl e ↦ omega (arith, e) | inr e ↦ let h = e.0 in omega (arith, h) ] in
    subst AllFilled (sym new) (halves-filled c.args.pages.now.items c.args.n c.args.k c.cut_of-cut.result c.requires.home c.requires.full some few c.requires.filled)

pub returns-then-n-first-clause-home : goal.returns-then-n-first-clause-home
returns-then-n-first-clause-home g c =
    let items = rw c.unwrap.ensures at c.insert.ensures.items in
    let new = is-halves c.args.pages.now.items c.insert.new.self.items c.args.k c.cut_of-cut.result c.index_mut.result.now c.split.new.self c.split.new.upper c.requires.home.inside c.index_mut.ensures.value c.split.ensures.lower c.split.ensures.upper items in
    let some : 0 < c.cut_of-cut.result = elim c.cut_of-cut.ensures [ inl e ↦ omega (arith, e) | inr e ↦ let h = e.0 in omega (arith, h) ] in
    let few : c.cut_of-cut.result < 64 = elim c.cut_of-cut.ensures [ inl e ↦ omega (arith, e) | inr e ↦ let h = e.0 in omega (arith, h) ] in
    let same = c.first-first.ensures ∙ ap first_number (c.split.ensures.upper ∙ ap (drop c.cut_of-cut.result) (c.index_mut.ensures.value ∙ get_or_default c.args.pages.now.items c.args.k c.index_mut.result.now [] c.requires.home.inside)) in
    subst (λ (ps : List (List _)). IsHome ps c.args.n c.args.k) (sym new) (halves-lower c.args.pages.now.items c.args.n c.args.k c.cut_of-cut.result c.requires.home c.requires.full some few c.requires.rises (let t = c.if-n-first.true in omega (arith, same, t)))

pub returns-then-n-first-clause-room : goal.returns-then-n-first-clause-room
returns-then-n-first-clause-room g c =
    let items = rw c.unwrap.ensures at c.insert.ensures.items in
    let new = is-halves c.args.pages.now.items c.insert.new.self.items c.args.k c.cut_of-cut.result c.index_mut.result.now c.split.new.self c.split.new.upper c.requires.home.inside c.index_mut.ensures.value c.split.ensures.lower c.split.ensures.upper items in
    let some : 0 < c.cut_of-cut.result = elim c.cut_of-cut.ensures [ inl e ↦ omega (arith, e) | inr e ↦ let h = e.0 in omega (arith, h) ] in
    let few : c.cut_of-cut.result < 64 = elim c.cut_of-cut.ensures [ inl e ↦ omega (arith, e) | inr e ↦ let h = e.0 in omega (arith, h) ] in
    subst (λ (ps : List (List _)). length (get_or ps c.args.k []) < 64) (sym new) (lower-room c.args.pages.now.items c.args.n c.args.k c.cut_of-cut.result c.requires.home c.requires.full some few)

pub returns-clause-all : goal.returns-clause-all
returns-clause-all g c =
    let items = rw c.unwrap.ensures at c.insert.ensures.items in
    let new = is-halves c.args.pages.now.items c.insert.new.self.items c.args.k c.cut_of-cut.result c.index_mut.result.now c.split.new.self c.split.new.upper c.requires.home.inside c.index_mut.ensures.value c.split.ensures.lower c.split.ensures.upper items in
    let some : 0 < c.cut_of-cut.result = elim c.cut_of-cut.ensures [ inl e ↦ omega (arith, e) | inr e ↦ let h = e.0 in omega (arith, h) ] in
    let few : c.cut_of-cut.result < 64 = elim c.cut_of-cut.ensures [ inl e ↦ omega (arith, e) | inr e ↦ let h = e.0 in omega (arith, h) ] in
    ap flatten new ∙ flat-halves c.args.pages.now.items c.args.k c.cut_of-cut.result [] c.requires.home.inside

pub returns-clause-filled : goal.returns-clause-filled
returns-clause-filled g c =
    let items = rw c.unwrap.ensures at c.insert.ensures.items in
    let new = is-halves c.args.pages.now.items c.insert.new.self.items c.args.k c.cut_of-cut.result c.index_mut.result.now c.split.new.self c.split.new.upper c.requires.home.inside c.index_mut.ensures.value c.split.ensures.lower c.split.ensures.upper items in
    let some : 0 < c.cut_of-cut.result = elim c.cut_of-cut.ensures [ inl e ↦ omega (arith, e) | inr e ↦ let h = e.0 in omega (arith, h) ] in
    let few : c.cut_of-cut.result < 64 = elim c.cut_of-cut.ensures [ inl e ↦ omega (arith, e) | inr e ↦ let h = e.0 in omega (arith, h) ] in
    subst AllFilled (sym new) (halves-filled c.args.pages.now.items c.args.n c.args.k c.cut_of-cut.result c.requires.home c.requires.full some few c.requires.filled)

pub returns-clause-home : goal.returns-clause-home
returns-clause-home g c =
    let items = rw c.unwrap.ensures at c.insert.ensures.items in
    let new = is-halves c.args.pages.now.items c.insert.new.self.items c.args.k c.cut_of-cut.result c.index_mut.result.now c.split.new.self c.split.new.upper c.requires.home.inside c.index_mut.ensures.value c.split.ensures.lower c.split.ensures.upper items in
    let some : 0 < c.cut_of-cut.result = elim c.cut_of-cut.ensures [ inl e ↦ omega (arith, e) | inr e ↦ let h = e.0 in omega (arith, h) ] in
    let few : c.cut_of-cut.result < 64 = elim c.cut_of-cut.ensures [ inl e ↦ omega (arith, e) | inr e ↦ let h = e.0 in omega (arith, h) ] in
    let same = c.first-first.ensures ∙ ap first_number (c.split.ensures.upper ∙ ap (drop c.cut_of-cut.result) (c.index_mut.ensures.value ∙ get_or_default c.args.pages.now.items c.args.k c.index_mut.result.now [] c.requires.home.inside)) in
    subst (IsHome c.insert.new.self.items c.args.n) {x = suc c.args.k} (omega arith) (subst (λ (ps : List (List _)). IsHome ps c.args.n (suc c.args.k)) (sym new) (halves-upper c.args.pages.now.items c.args.n c.args.k c.cut_of-cut.result c.requires.home c.requires.full some few c.requires.rises (let t = c.if-n-first.false in omega (arith, same, t))))

pub returns-clause-room : goal.returns-clause-room
returns-clause-room g c =
    let items = rw c.unwrap.ensures at c.insert.ensures.items in
    let new = is-halves c.args.pages.now.items c.insert.new.self.items c.args.k c.cut_of-cut.result c.index_mut.result.now c.split.new.self c.split.new.upper c.requires.home.inside c.index_mut.ensures.value c.split.ensures.lower c.split.ensures.upper items in
    let some : 0 < c.cut_of-cut.result = elim c.cut_of-cut.ensures [ inl e ↦ omega (arith, e) | inr e ↦ let h = e.0 in omega (arith, h) ] in
    let few : c.cut_of-cut.result < 64 = elim c.cut_of-cut.ensures [ inl e ↦ omega (arith, e) | inr e ↦ let h = e.0 in omega (arith, h) ] in
    subst (λ (m : ℕ). length (get_or c.insert.new.self.items m []) < 64) {x = suc c.args.k} (omega arith) (subst (λ (ps : List (List _)). length (get_or ps (suc c.args.k) []) < 64) (sym new) (upper-room c.args.pages.now.items c.args.n c.args.k c.cut_of-cut.result c.requires.home c.requires.full some few))

pub returns-then-n-first-clause-strain : goal.returns-then-n-first-clause-strain
returns-then-n-first-clause-strain g c =
    let items = rw c.unwrap.ensures at c.insert.ensures.items in
    let new = is-halves c.args.pages.now.items c.insert.new.self.items c.args.k c.cut_of-cut.result c.index_mut.result.now c.split.new.self c.split.new.upper c.requires.home.inside c.index_mut.ensures.value c.split.ensures.lower c.split.ensures.upper items in
    let cut : (c.cut_of-cut.result ≡ 32) ⊎ ((c.cut_of-cut.result ≡ 63) × (c.args.k + 1 ≡ length c.args.pages.now.items)) = elim c.cut_of-cut.ensures [ inl e ↦ inl e | inr e ↦ inr (e.0, let h = e.1 in rw c.deref.ensures.value at h) ] in
    subst (λ (ps : List (List _)). strain ps + 32 ≤ strain c.args.pages.now.items) (sym new) (strain-halves c.args.pages.now.items c.args.k c.cut_of-cut.result c.requires.home.inside c.requires.full cut)

pub returns-clause-strain : goal.returns-clause-strain
returns-clause-strain g c =
    let items = rw c.unwrap.ensures at c.insert.ensures.items in
    let new = is-halves c.args.pages.now.items c.insert.new.self.items c.args.k c.cut_of-cut.result c.index_mut.result.now c.split.new.self c.split.new.upper c.requires.home.inside c.index_mut.ensures.value c.split.ensures.lower c.split.ensures.upper items in
    let cut : (c.cut_of-cut.result ≡ 32) ⊎ ((c.cut_of-cut.result ≡ 63) × (c.args.k + 1 ≡ length c.args.pages.now.items)) = elim c.cut_of-cut.ensures [ inl e ↦ inl e | inr e ↦ inr (e.0, let h = e.1 in rw c.deref.ensures.value at h) ] in
    subst (λ (ps : List (List _)). strain ps + 32 ≤ strain c.args.pages.now.items) (sym new) (strain-halves c.args.pages.now.items c.args.k c.cut_of-cut.result c.requires.home.inside c.requires.full cut)

pub returns-then-n-first-clause-dense : goal.returns-then-n-first-clause-dense
returns-then-n-first-clause-dense g c =
    let items = rw c.unwrap.ensures at c.insert.ensures.items in
    let new = is-halves c.args.pages.now.items c.insert.new.self.items c.args.k c.cut_of-cut.result c.index_mut.result.now c.split.new.self c.split.new.upper c.requires.home.inside c.index_mut.ensures.value c.split.ensures.lower c.split.ensures.upper items in
    let cut : (c.cut_of-cut.result ≡ 32) ⊎ ((c.cut_of-cut.result ≡ 63) × (c.args.k + 1 ≡ length c.args.pages.now.items)) = elim c.cut_of-cut.ensures [ inl e ↦ inl e | inr e ↦ inr (e.0, let h = e.1 in rw c.deref.ensures.value at h) ] in
    subst AreDense (sym new) (dense-halves c.args.pages.now.items c.args.k c.cut_of-cut.result c.requires.home.inside c.requires.full cut c.requires.filled c.requires.dense)

pub returns-clause-dense : goal.returns-clause-dense
returns-clause-dense g c =
    let items = rw c.unwrap.ensures at c.insert.ensures.items in
    let new = is-halves c.args.pages.now.items c.insert.new.self.items c.args.k c.cut_of-cut.result c.index_mut.result.now c.split.new.self c.split.new.upper c.requires.home.inside c.index_mut.ensures.value c.split.ensures.lower c.split.ensures.upper items in
    let cut : (c.cut_of-cut.result ≡ 32) ⊎ ((c.cut_of-cut.result ≡ 63) × (c.args.k + 1 ≡ length c.args.pages.now.items)) = elim c.cut_of-cut.ensures [ inl e ↦ inl e | inr e ↦ inr (e.0, let h = e.1 in rw c.deref.ensures.value at h) ] in
    subst AreDense (sym new) (dense-halves c.args.pages.now.items c.args.k c.cut_of-cut.result c.requires.home.inside c.requires.full cut c.requires.filled c.requires.dense)
