-- A patch put into routes in order.

use Rattle.std.proofs.Common.{◌≡◌, ◌∙◌, ◌≢◌, ℕ, ◌+◌, ◌-◌, ◌≤◌, ◌<◌, Bool, true, false, nat_eq, List, Option, Some, None, length, get_or, refl, sym, ap, subst, arith, inl, inr}
use Rattle.std.specs.List.{insert, remove}
use Rattle.std.specs.Prelude.{slice_set}
use Rattle.std.specs.Bool.{MatchBool}
use Rattle.std.proofs.lemmas.Bool.{cases_lt, cases_eq, eqb-true, eq-eqb}
use Rattle.std.proofs.lemmas.List.{get_or_default, get_or-set_same, get_or-set_other, length-set}
use Rattle.std.proofs.lemmas.List.Edits.{get_or-insert_at, get_or-insert_below, get_or-insert_above, length-insert, get_or-remove_below, get_or-remove_above, length-remove}
use Rattle.route_table.specs.declared.route.Route.{Route}
use Rattle.route_table.specs.Ranks.{prefix_number}
use Rattle.route_table.specs.Routes.{AreRising}
use Rattle.route_table.specs.Putting.{IsFree, IsHeld, IsPlaceOf, IsPutIn}

abbrev pn : Route → ℕ
pn r = prefix_number r.prefix

abbrev route_or : Route → Option Route → Route
route_or other None = other
route_or other (Some route) = route

module _ (old : List Route) (n place : ℕ) (rising : AreRising old) (at : IsPlaceOf old n place) where
  -- where the prefix has a route
  module _ (inside : place < length old) (held : (d : Route) → pn (get_or old place d) ≡ n) where
    other-place : (k : ℕ) (r : Route) → get_or old k r ≡ r → (pn r ≡ n → ⊥) → k ≢ place
    other-place k r is other e = other (ap pn (sym is ∙ ap (λ (m : ℕ). get_or old m r) e) ∙ held r)

    other-prefix : (k : ℕ) (r : Route) → k < length old → get_or old k r ≡ r → k ≢ place → pn r ≡ n → ⊥
    other-prefix k r l is apart same =
        let e = held r in
        let here : pn (get_or old k r) ≡ pn r = ap pn is in
        elim (cases_lt k place) [
          | inl before ↦ let low = at.below k r before in absurd (omega arith)
          | inr not-before ↦
              elim (cases_lt place k) [
                | inl past ↦ let up = rising.below place k r past l in absurd (omega arith)
                | inr not-past ↦ apart (omega arith)
              ]
        ]

    pub set-in : (x : Route) → pn x ≡ n → IsPutIn old n (Some x) (slice_set old place x)
    set-in x own =
        let long = length-set old place x in
        let number-at : (k : ℕ) (d : Route) → pn (get_or (slice_set old place x) k d) ≡ pn (get_or old k d) = λ k d.
        elim (cases_eq k place) [
          | inl here ↦
              subst (λ (m : ℕ). pn (get_or (slice_set old place x) m d) ≡ pn (get_or old m d)) (sym here)
              (ap pn (get_or-set_same old place x d inside) ∙ own ∙ sym (held d))
          | inr other ↦ ap pn (get_or-set_other old place k x d other)
        ] in
        record {
          rising = record {
            below = λ i j d less l.
                let up = rising.below i j d less (omega arith) in
                let a = number-at i d in
                let b = number-at j d in
                omega arith;
          };
          each = λ r h.
              let l = h.1 in
              elim (cases_eq h.0 place) [
                | inl here ↦ inl (ap Some (sym (get_or-set_same old place x r inside) ∙ ap (λ (m : ℕ). get_or (slice_set old place x) m r) (sym here) ∙ h.2))
                | inr other ↦
                    let is = sym (get_or-set_other old place h.0 x r other) ∙ h.2 in
                    inr ((h.0, omega arith, is), other-prefix h.0 r (omega arith) is other)
              ];
          brought = λ r e. (place, omega arith, get_or-set_same old place x r inside ∙ ap (route_or x) e);
          kept = λ r h other.
              let l = h.1 in
              (h.0, omega arith, get_or-set_other old place h.0 x r (other-place h.0 r h.2 other) ∙ h.2);
        }

    pub remove-from : IsPutIn old n None (remove old place)
    remove-from =
        let long = length-remove old place inside in
        record {
          rising = record {
            below = λ i j d less l.
                elim (cases_lt j place) [
                  | inl before ↦
                      let up = rising.below i j d less (omega arith) in
                      let a = ap pn (get_or-remove_below old place d i (omega arith) inside) in
                      let b = ap pn (get_or-remove_below old place d j before inside) in
                      omega arith
                  | inr not-before ↦
                      let b = ap pn (get_or-remove_above old place d j (omega arith) inside) in
                      elim (cases_lt i place) [
                        | inl i-before ↦
                            let up = rising.below i (j + 1) d (omega arith) (omega arith) in
                            let a = ap pn (get_or-remove_below old place d i i-before inside) in
                            omega arith
                        | inr i-past ↦
                            let up = rising.below (i + 1) (j + 1) d (omega arith) (omega arith) in
                            let a = ap pn (get_or-remove_above old place d i (omega arith) inside) in
                            omega arith
                      ]
                ];
          };
          each = λ r h.
              let l = h.1 in
              elim (cases_lt h.0 place) [
                | inl before ↦
                    let is = sym (get_or-remove_below old place r h.0 before inside) ∙ h.2 in
                    inr ((h.0, omega arith, is), other-prefix h.0 r (omega arith) is (λ e. omega (arith, e)))
                | inr past ↦
                    let is = sym (get_or-remove_above old place r h.0 (omega arith) inside) ∙ h.2 in
                    inr ((h.0 + 1, omega arith, is), other-prefix (h.0 + 1) r (omega arith) is (λ e. omega (arith, e)))
              ];
          brought = λ r e. absurd (let f : None ≡ Some r = e in cc);
          kept = λ r h other.
              let l = h.1 in
              let apart = other-place h.0 r h.2 other in
              elim (cases_lt h.0 place) [
                | inl before ↦ (h.0, omega arith, get_or-remove_below old place r h.0 before inside ∙ h.2)
                | inr not-before ↦
                    let past : place < h.0 = elim (cases_lt place h.0) [
                      | inl less ↦ less
                      | inr not-less ↦ absurd (apart (omega arith))
                    ] in
                    let one : h.0 - 1 + 1 ≡ h.0 = omega arith in
                    (h.0 - 1, omega arith, get_or-remove_above old place r (h.0 - 1) (omega arith) inside ∙ ap (λ (m : ℕ). get_or old m r) one ∙ h.2)
              ];
        }

  -- where it has none
  module _ (free : (k : ℕ) (d : Route) → k < length old → pn (get_or old k d) ≡ n → ⊥) where
    free-of : (k : ℕ) (r : Route) → k < length old → get_or old k r ≡ r → pn r ≡ n → ⊥
    free-of k r l is same = free k r l (ap pn is ∙ same)

    pub stays-out : IsPutIn old n None old
    stays-out =
        record {
          rising = rising;
          each = λ r h. inr (h, free-of h.0 r h.1 h.2);
          brought = λ r e. absurd (let f : None ≡ Some r = e in cc);
          kept = λ r h other. h;
        }

    pub insert-in : (x : Route) → pn x ≡ n → IsPutIn old n (Some x) (insert old place x)
    insert-in x own =
        let most = at.within in
        let long = length-insert old place x most in
        record {
          rising = record {
            below = λ i j d less l.
                elim (cases_lt j place) [
                  | inl before ↦
                      let up = rising.below i j d less (omega arith) in
                      let a = ap pn (get_or-insert_below old place x d i (omega arith) most) in
                      let b = ap pn (get_or-insert_below old place x d j before most) in
                      omega arith
                  | inr not-before ↦
                      elim (cases_eq j place) [
                        | inl here ↦
                            let low = at.below i d (omega arith) in
                            let a = ap pn (get_or-insert_below old place x d i (omega arith) most) in
                            let b : pn (get_or (insert old place x) j d) ≡ pn x = subst (λ (m : ℕ). pn (get_or (insert old place x) m d) ≡ pn x) (sym here) (ap pn (get_or-insert_at old place x d most)) in
                            omega arith
                        | inr other ↦
                            let past : place < j = elim (cases_lt place j) [
                              | inl yes-less ↦ yes-less
                              | inr not-less ↦ absurd (other (omega arith))
                            ] in
                            let one : j - 1 + 1 ≡ j = omega arith in
                            let b : pn (get_or (insert old place x) j d) ≡ pn (get_or old (j - 1) d) = subst (λ (m : ℕ). pn (get_or (insert old place x) m d) ≡ pn (get_or old (j - 1) d)) one (ap pn (get_or-insert_above old place x d (j - 1) (omega arith) most)) in
                            elim (cases_lt i place) [
                              | inl i-before ↦
                                  let up = rising.below i (j - 1) d (omega arith) (omega arith) in
                                  let a = ap pn (get_or-insert_below old place x d i i-before most) in
                                  omega arith
                              | inr i-not-before ↦
                                  elim (cases_eq i place) [
                                    | inl i-here ↦
                                        let high = at.above (j - 1) d (omega arith) (omega arith) in
                                        let apart = free (j - 1) d (omega arith) in
                                        let a : pn (get_or (insert old place x) i d) ≡ pn x = subst (λ (m : ℕ). pn (get_or (insert old place x) m d) ≡ pn x) (sym i-here) (ap pn (get_or-insert_at old place x d most)) in
                                        let up : n < pn (get_or old (j - 1) d) = elim (cases_lt n (pn (get_or old (j - 1) d))) [
                                          | inl yes-less ↦ yes-less
                                          | inr not-less ↦ absurd (apart (omega arith))
                                        ] in
                                        omega arith
                                    | inr i-other ↦
                                        let i-past : place < i = elim (cases_lt place i) [
                                          | inl yes-less ↦ yes-less
                                          | inr not-less ↦ absurd (i-other (omega arith))
                                        ] in
                                        let i-one : i - 1 + 1 ≡ i = omega arith in
                                        let a : pn (get_or (insert old place x) i d) ≡ pn (get_or old (i - 1) d) = subst (λ (m : ℕ). pn (get_or (insert old place x) m d) ≡ pn (get_or old (i - 1) d)) i-one (ap pn (get_or-insert_above old place x d (i - 1) (omega arith) most)) in
                                        let up = rising.below (i - 1) (j - 1) d (omega arith) (omega arith) in
                                        omega arith
                                  ]
                            ]
                      ]
                ];
          };
          each = λ r h.
              let l = h.1 in
              elim (cases_lt h.0 place) [
                | inl before ↦
                    let is = sym (get_or-insert_below old place x r h.0 before most) ∙ h.2 in
                    inr ((h.0, omega arith, is), free-of h.0 r (omega arith) is)
                | inr not-before ↦
                    elim (cases_eq h.0 place) [
                      | inl here ↦ inl (ap Some (sym (get_or-insert_at old place x r most) ∙ ap (λ (m : ℕ). get_or (insert old place x) m r) (sym here) ∙ h.2))
                      | inr other ↦
                          let past : place < h.0 = elim (cases_lt place h.0) [
                            | inl yes-less ↦ yes-less
                            | inr not-less ↦ absurd (other (omega arith))
                          ] in
                          let one : h.0 - 1 + 1 ≡ h.0 = omega arith in
                          let is = sym (get_or-insert_above old place x r (h.0 - 1) (omega arith) most) ∙ ap (λ (m : ℕ). get_or (insert old place x) m r) one ∙ h.2 in
                          inr ((h.0 - 1, omega arith, is), free-of (h.0 - 1) r (omega arith) is)
                    ]
              ];
          brought = λ r e. (place, omega arith, get_or-insert_at old place x r most ∙ ap (route_or x) e);
          kept = λ r h other.
              let l = h.1 in
              elim (cases_lt h.0 place) [
                | inl before ↦ (h.0, omega arith, get_or-insert_below old place x r h.0 before most ∙ h.2)
                | inr not-before ↦ (h.0 + 1, omega arith, get_or-insert_above old place x r h.0 (omega arith) most ∙ h.2)
              ];
        }

-- a prefix that the place doesn't have is nowhere
pub free-all : (old : List Route) (n place : ℕ) → AreRising old → IsPlaceOf old n place → ((d : Route) → place < length old → pn (get_or old place d) ≡ n → ⊥) → (k : ℕ) (d : Route) → k < length old → pn (get_or old k d) ≡ n → ⊥
free-all old n place rising at none k d l same =
    elim (cases_lt k place) [
      | inl before ↦ let low = at.below k d before in absurd (omega arith)
      | inr not-before ↦
          elim (cases_lt place k) [
            | inl past ↦
                let low = at.above place d (omega arith) (omega arith) in
                let up = rising.below place k d past l in
                absurd (omega arith)
            | inr not-past ↦
                let here : k ≡ place = omega arith in
                none d (omega arith) (subst (λ (m : ℕ). pn (get_or old m d) ≡ n) here same)
          ]
    ]

-- a step of the search for the place
pub search-left : (old : List Route) (n middle : ℕ) (e : Route) → AreRising old → middle < length old → pn (get_or old middle e) < n → (k : ℕ) (d : Route) → k < middle + 1 → pn (get_or old k d) < n
search-left old n middle e rising inside low k d less =
    let same : pn (get_or old middle e) ≡ pn (get_or old middle d) = ap pn (get_or_default old middle e d inside) in
    elim (cases_lt k middle) [
      | inl before ↦ let up = rising.below k middle d before inside in omega arith
      | inr not-before ↦ let here : middle ≡ k = omega arith in subst (λ (m : ℕ). pn (get_or old m d) < n) here (omega arith)
    ]

pub search-right : (old : List Route) (n middle : ℕ) (e : Route) → AreRising old → middle < length old → n ≤ pn (get_or old middle e) → (k : ℕ) (d : Route) → middle ≤ k → k < length old → n ≤ pn (get_or old k d)
search-right old n middle e rising inside high k d from l =
    let same : pn (get_or old middle e) ≡ pn (get_or old middle d) = ap pn (get_or_default old middle e d inside) in
    elim (cases_lt middle k) [
      | inl past ↦ let up = rising.below middle k d past l in omega arith
      | inr not-past ↦ let here : middle ≡ k = omega arith in subst (λ (m : ℕ). n ≤ pn (get_or old m d)) here (omega arith)
    ]

held-step : (old : List Route) (n place value : ℕ) (e : Route) → AreRising old → IsPlaceOf old n place → place < length old → value ≡ pn (get_or old place e) → (t : Bool) → nat_eq value n ≡ t → MatchBool t (IsHeld old n place) (IsFree old n)
held-step old n place value e rising at inside is true same = (inside, λ d. ap pn (get_or_default old place d e inside) ∙ sym is ∙ eqb-true value n same)
held-step old n place value e rising at inside is false same =
    free-all old n place rising at (λ d l here. (let f : true ≡ false = sym (eq-eqb value n (is ∙ ap pn (get_or_default old place e d inside) ∙ here)) ∙ same in cc))

-- whether the prefix has a route, as the code tests it
pub held-by : (old : List Route) (n place value : ℕ) (e : Route) → AreRising old → IsPlaceOf old n place → place < length old → value ≡ pn (get_or old place e) → MatchBool (nat_eq value n) (IsHeld old n place) (IsFree old n)
held-by old n place value e rising at inside is = held-step old n place value e rising at inside is (nat_eq value n) refl

-- past the end there is none
pub free-past : (old : List Route) (n place : ℕ) → AreRising old → IsPlaceOf old n place → length old ≤ place → IsFree old n
free-past old n place rising at past = free-all old n place rising at (λ d l same. omega arith)
