-- Labels of which each that others have otherwise is among some nodes.
use Rattle.std.proofs.Common.{◌≡◌, ◌∙◌, ℕ, ◌+◌, ◌<◌, ◌≤◌, List, length, get_or, Option, Some, None, refl, sym, ap, subst, arith, inl, inr}
use Rattle.std.specs.List.{Contains}
use Rattle.std.proofs.lemmas.Bool.{cases_lt}
use Rattle.std.proofs.lemmas.List.{get_or_default, get_or-map, length-map}
use Rattle.spf_tree.specs.declared.label.Label.{Label}
use Rattle.spf_tree.specs.Labels.{at, names, IsRising}
use Rattle.spf_tree.proofs.LabelLemmas.{at_place, named_at}

-- each of the first so many labels is among these nodes, or others have its cost
abbrev pub AreApart : List Label → List Label → List ℕ → ℕ → Type 0
AreApart self other nodes many = (k : ℕ) (d : Label) → k < many → (Contains nodes (get_or self k d).node → ⊥) → at other (get_or self k d).node ≡ (get_or self k d).cost

-- one more, which is among them then or is the same
pub apart-more : (self other : List Label) (nodes more : List ℕ) (place : ℕ) (l : Label) → place < length self → l ≡ get_or self place l → ((n : ℕ) → Contains nodes n → Contains more n) → ((Contains more l.node → ⊥) → at other l.node ≡ l.cost) → AreApart self other nodes place → AreApart self other more (place + 1)
apart-more self other nodes more place l in' is kept here apart k d less none =
    elim (cases_lt k place) [
      | inl before ↦ apart k d before (λ there. none (kept (get_or self k d).node there))
      | inr not_before ↦
          let k_is : k ≡ place = omega (arith, less, not_before) in
          let one : get_or self k d ≡ l = ap (λ (i : ℕ). get_or self i d) k_is ∙ get_or_default self place d l in' ∙ sym is in
          subst (λ (x : Label). at other x.node ≡ x.cost) (sym one) (here (λ there. none (subst (λ (x : Label). Contains more x.node) (sym one) there)))
    ]

-- nodes that are named in neither have no cost in either, and of others one of both lists says what differs
pub apart-all : (old new : List Label) (nodes more : List ℕ) → ((n : ℕ) → Contains (names old) n → (Contains nodes n → ⊥) → at new n ≡ at old n) → ((n : ℕ) → Contains nodes n → Contains more n)
    → ((n : ℕ) → Contains (names new) n → (Contains more n → ⊥) → at old n ≡ at new n) → (n : ℕ) → (Contains more n → ⊥) → at old n ≡ at new n
apart-all old new nodes more first kept second n none = of (at old n) refl (at new n) refl
  where
    of : (a : Option ℕ) → at old n ≡ a → (b : Option ℕ) → at new n ≡ b → at old n ≡ at new n
    of (Some c) is b to = sym (first n (named_at old n c is) (λ there. none (kept n there)))
    of None is (Some c) to = second n (named_at new n c to) none
    of None is None to = is ∙ sym to

named-place : (labels : List Label) (n : ℕ) (d : Label) → IsRising labels → (k : ℕ) → k < length labels → (get_or labels k d).node ≡ n → at labels n ≡ (get_or labels k d).cost
named-place labels n d rising k in' is = at_place labels k n d in' (λ j e less. let up = rising.below j k e less in' in let same = ap (λ (l : Label). l.node) (get_or_default labels k e d in') in omega (arith, up, same, is)) is

-- all labels were looked at
pub apart-end : (self other : List Label) (nodes : List ℕ) (many : ℕ) → IsRising self → length self ≤ many → AreApart self other nodes many → (n : ℕ) → Contains (names self) n → (Contains nodes n → ⊥) → at other n ≡ at self n
apart-end self other nodes many rising all apart n named none =
    let k = named.0 in
    let in' : k < length self = let l = named.1 in let same : length (names self) ≡ length self = length-map self (λ (l : Label). l.node) in omega (arith, l, same) in
    let d : Label = record { node = n; cost = None } in
    let is : (get_or self k d).node ≡ n = sym (get_or-map (λ (l : Label). l.node) self k d n in') ∙ named.2 in
    let one = apart k d (omega (arith, in', all)) (λ there. none (subst (Contains nodes) is there)) in
    sym (ap (at other) is) ∙ one ∙ sym (named-place self n d rising k in' is)
