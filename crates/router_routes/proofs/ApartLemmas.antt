-- What two lists of candidates begin or end with alike.
use Rattle.std.proofs.Common.{◌≡◌, ℕ, ◌+◌, ◌-◌, ◌<◌, ◌≤◌, List, [], ◌∷◌, ◌++◌, length, take, drop, get_or, sym, subst, arith, inl, inr}
use Rattle.std.specs.List.{Contains}
use Rattle.std.proofs.lemmas.List.{drop_more, take_more}
use Rattle.std.proofs.lemmas.List.Elements.{Contains-append_left, Contains-append_right, Contains-append_cases}
use Rattle.route_table.specs.declared.candidate.Candidate.{Candidate}
use Rattle.router_routes.specs.Ways.{AreApart, AreBut}

-- a candidate that both begin with
but-past : (some others left : List Candidate) (k : ℕ) (d e : Candidate) → k < length some → k < length others → get_or some k d ≡ get_or others k e → AreBut (drop (k + 1) some) (drop (k + 1) others) left → AreBut (drop k some) (drop k others) left
but-past some others left k d e in-some in-others same but c is =
    let x = get_or some k d in
    let y = get_or others k e in
    let split : Contains ((x ∷ []) ++ drop (k + 1) some) c = subst (λ (l : List Candidate). Contains l c) (drop_more some k d in-some) is in
    let whole : Contains ((y ∷ []) ++ drop (k + 1) others) c → Contains (drop k others) c = subst (λ (l : List Candidate). Contains l c) (sym (drop_more others k e in-others)) in
    elim (Contains-append_cases (x ∷ []) (drop (k + 1) some) c split) [
      | inl first ↦ inl (whole (Contains-append_left (y ∷ []) (drop (k + 1) others) c (subst (λ (z : Candidate). Contains (z ∷ []) c) same first)))
      | inr rest ↦
          elim (but c rest) [
            | inl there ↦ inl (whole (Contains-append_right (y ∷ []) (drop (k + 1) others) c there))
            | inr out ↦ inr out
          ]
    ]

-- a candidate that both end with
but-before : (some others left : List Candidate) (i j : ℕ) (d e : Candidate) → i < length some → j < length others → get_or some i d ≡ get_or others j e → AreBut (take i some) (take j others) left → AreBut (take (i + 1) some) (take (j + 1) others) left
but-before some others left i j d e in-some in-others same but c is =
    let x = get_or some i d in
    let y = get_or others j e in
    let split : Contains (take i some ++ x ∷ []) c = subst (λ (l : List Candidate). Contains l c) (take_more some i d in-some) is in
    let whole : Contains (take j others ++ y ∷ []) c → Contains (take (j + 1) others) c = subst (λ (l : List Candidate). Contains l c) (sym (take_more others j e in-others)) in
    elim (Contains-append_cases (take i some) (x ∷ []) c split) [
      | inl rest ↦
          elim (but c rest) [
            | inl there ↦ inl (whole (Contains-append_left (take j others) (y ∷ []) c there))
            | inr out ↦ inr out
          ]
      | inr last ↦ inl (whole (Contains-append_right (take j others) (y ∷ []) c (subst (λ (z : Candidate). Contains (z ∷ []) c) same last)))
    ]

pub apart-past : (old new : List Candidate) (k : ℕ) (d e : Candidate) → k < length old → k < length new → get_or old k d ≡ get_or new k e → ((left right : List Candidate) → AreApart (drop k old) (drop k new) left right → AreApart old new left right)
    → (left right : List Candidate) → AreApart (drop (k + 1) old) (drop (k + 1) new) left right → AreApart old new left right
apart-past old new k d e in-old in-new same so-far left right are =
    so-far left right (record {
      gone = but-past old new left k d e in-old in-new same are.gone;
      come = but-past new old right k e d in-new in-old (sym same) are.come;
    })

pub apart-before : (old new : List Candidate) (i j : ℕ) (d e : Candidate) → 0 < i → 0 < j → i ≤ length old → j ≤ length new → get_or old (i - 1) d ≡ get_or new (j - 1) e → ((left right : List Candidate) → AreApart (take i old) (take j new) left right → AreApart old new left right)
    → (left right : List Candidate) → AreApart (take (i - 1) old) (take (j - 1) new) left right → AreApart old new left right
apart-before old new i j d e some-old some-new in-old in-new same so-far left right are =
    let a : i - 1 < length old = omega (arith, some-old, in-old) in
    let b : j - 1 < length new = omega (arith, some-new, in-new) in
    let p : i - 1 + 1 ≡ i = omega (arith, some-old) in
    let q : j - 1 + 1 ≡ j = omega (arith, some-new) in
    let next : AreApart (take (i - 1 + 1) old) (take (j - 1 + 1) new) left right = record {
      gone = but-before old new left (i - 1) (j - 1) d e a b same are.gone;
      come = but-before new old right (j - 1) (i - 1) e d b a (sym same) are.come;
    } in
    so-far left right (subst (λ (m : ℕ). AreApart (take m old) (take j new) left right) p (subst (λ (n : ℕ). AreApart (take (i - 1 + 1) old) (take n new) left right) q next))

pub apart-all : (old new : List Candidate) → AreApart old new old new
apart-all old new = record { gone = λ c there. inr there; come = λ c there. inr there }
