-- The best of a list is on it, and no one on the list stands before it.
use Rattle.std.proofs.Common.{◌≡◌, ℕ, map, ◌⊎◌, inl, inr, zero, suc, Bool, true, false, List, [], ◌∷◌, if◌then◌else◌, refl, sym, ap, subst, ◌∙◌, arith}
use Rattle.std.specs.Prelude.{Contains}
use Rattle.std.proofs.lemmas.Bool.Decides.{nat_tests}
use Rattle.isis_base.specs.declared.identifiers.SystemId.{SystemId}
use Rattle.model_router.specs.Routers.{LanNeighbour}
use Rattle.model_router.specs.Elections as model
use Rattle.model_router.specs.Numbers.{system_number}
use Rattle.designated_is.specs.declared.candidate.Candidate.{Candidate}
use Rattle.designated_is.specs.Numbers.{candidate_of}
use Rattle.designated_is.specs.Greatest.{beats, best_of, IsUnbeaten, IsElected, plain, up_candidates}

-- ---- the order of candidates

model_trans : (a b c : model.Candidate) → model.beats a b ≡ false → model.beats b c ≡ false → model.beats a c ≡ false
model_trans a b c e f = grind (arith, nat_tests)

model_turn : (a b : model.Candidate) → model.beats a b ≡ true → model.beats b a ≡ false
model_turn a b e = grind (arith, nat_tests)

model_self : (a : model.Candidate) → model.beats a a ≡ false
model_self a = grind (arith, nat_tests)

-- ---- the best of a candidate and others

next_first : (b c : Candidate) (t : Bool) → beats c b ≡ t → beats b (if t then c else b) ≡ false
next_first b c true e = model_turn (candidate_of c) (candidate_of b) e
next_first b c false e = model_self (candidate_of b)

next_second : (b c : Candidate) (t : Bool) → beats c b ≡ t → beats c (if t then c else b) ≡ false
next_second b c true e = model_self (candidate_of c)
next_second b c false e = e

first_unbeaten : (b : Candidate) (cs : List Candidate) → beats b (best_of b cs) ≡ false
unfolding best_of
first_unbeaten b [] = model_self (candidate_of b)
first_unbeaten b (c ∷ cs) =
    let next = if beats c b then c else b in
    model_trans (candidate_of b) (candidate_of next) (candidate_of (best_of next cs)) (next_first b c (beats c b) refl) (first_unbeaten next cs)

others_unbeaten : (b : Candidate) (cs : List Candidate) → IsUnbeaten cs (best_of b cs)
unfolding best_of
others_unbeaten b [] = tt
others_unbeaten b (c ∷ cs) =
    let next = if beats c b then c else b in (
      model_trans (candidate_of c) (candidate_of next) (candidate_of (best_of next cs)) (next_second b c (beats c b) refl) (first_unbeaten next cs),
      others_unbeaten next cs,
    )

one_of : (b c : Candidate) (t : Bool) → ((if t then c else b) ≡ b) ⊎ ((if t then c else b) ≡ c)
one_of b c true = inr refl
one_of b c false = inl refl

on_longer : (b c next r : Candidate) (cs : List Candidate) → (next ≡ b) ⊎ (next ≡ c) → Contains (next ∷ cs) r → Contains (b ∷ c ∷ cs) r
on_longer b c next r cs (inl e) (zero, h, k) = (0, omega arith, sym e ∙ k)
on_longer b c next r cs (inr e) (zero, h, k) = (1, omega arith, sym e ∙ k)
on_longer b c next r cs which (suc i, h, k) = (suc (suc i), omega (arith, h), k)

best_on : (b : Candidate) (cs : List Candidate) → Contains (b ∷ cs) (best_of b cs)
unfolding best_of
best_on b [] = (0, omega arith, refl)
best_on b (c ∷ cs) =
    let next = if beats c b then c else b in
    on_longer b c next (best_of next cs) cs (one_of b c (beats c b)) (best_on next cs)

-- the best of a list's first candidate and the others is elected
pub best_elected : (list : List Candidate) (b r : Candidate) (cs : List Candidate) → list ≡ b ∷ cs → r ≡ best_of b cs → IsElected list r.system
best_elected list b r cs e f =
    subst (λ (xs : List Candidate). IsElected xs r.system) (sym e)
    (best_of b cs, best_on b cs, sym (ap (λ (c : Candidate). c.system) f), (first_unbeaten b cs, others_unbeaten b cs))

-- ---- one system alone is elected

model_same : (a b : model.Candidate) → model.beats a b ≡ false → model.beats b a ≡ false → a.system ≡ b.system
model_same a b e f = grind (arith, nat_tests, e, f)

unbeaten_at : (list : List Candidate) (a b : Candidate) → IsUnbeaten list a → Contains list b → beats b a ≡ false
unbeaten_at [] a b u (i, lt, e) = absurd (omega (arith, lt))
unbeaten_at (c ∷ list) a b u (zero, lt, e) = subst (λ (x : Candidate). beats x a ≡ false) e u.0
unbeaten_at (c ∷ list) a b u (suc i, lt, e) = unbeaten_at list a b u.1 (i, omega (arith, lt), e)

pub elected_one : (list : List Candidate) (s t : SystemId) → IsElected list s → IsElected list t → system_number s ≡ system_number t
elected_one list s t p q =
    let same = model_same (candidate_of p.0) (candidate_of q.0) (unbeaten_at list q.0 p.0 q.3 p.1) (unbeaten_at list p.0 q.0 p.3 q.1) in
    sym (ap system_number p.2) ∙ same ∙ ap system_number q.2

-- ---- whom the model elects

abbrev among : model.Candidate → List model.Candidate → model.Candidate
among best [] = best
among best (c ∷ cs) = among (if model.beats c best then c else best) cs

best_among : (b : Candidate) (cs : List Candidate) → candidate_of (best_of b cs) ≡ among (candidate_of b) (map candidate_of cs)
unfolding best_of
best_among b [] = refl
best_among b (c ∷ cs) =
    best_among (if beats c b then c else b) cs
    ∙ ap (λ (m : model.Candidate). among m (map candidate_of cs)) (next_of (beats c b))
  where
    next_of : (t : Bool) → candidate_of (if t then c else b) ≡ (if t then candidate_of c else candidate_of b)
    next_of true = refl
    next_of false = refl

elect_among : (best : model.Candidate) (heard : List (ℕ × LanNeighbour)) → plain (model.elect best heard) ≡ among (plain best) (up_candidates heard)
elect_among best [] = refl
elect_among best (p ∷ heard) = grind (arith, nat_tests, elect_among (model.better best p.1) heard)

pub elected_model : (mine : Candidate) (others : List Candidate) (system : SystemId) (best : model.Candidate) (heard : List (ℕ × LanNeighbour)) → candidate_of mine ≡ plain best → map candidate_of others ≡ up_candidates heard → IsElected (mine ∷ others) system → (model.elect best heard).system ≡ system_number system
elected_model mine others system best heard e f elected =
    ap (λ (c : model.Candidate). c.system)
    (elect_among best heard ∙ sym (ap (λ (m : model.Candidate). among m (up_candidates heard)) e) ∙ sym (ap (λ (m : List model.Candidate). among (candidate_of mine) m) f) ∙ sym (best_among mine others))
    ∙ elected_one (mine ∷ others) (best_of mine others).system system (best_elected (mine ∷ others) mine (best_of mine others) others refl refl) elected
