-- Who is elected is the greatest.
use Rattle.std.proofs.Common.{◌≡◌, ℕ, Bool, true, false, ◌&&◌, ◌⊎◌, inl, inr, ⊎_elim, List, [], ◌∷◌, Option, Some, None, if◌then◌else◌, refl, subst, arith}
use Rattle.std.proofs.lemmas.Bool.Decides.{nat_tests}
use Rattle.isis_base.specs.declared.level.Level.{Level}
use Rattle.model_router.specs.Both.{at}
use Rattle.model_router.specs.Configs.{Config}
use Rattle.model_router.specs.Routers.{LanNeighbour, Circuit, some_up}
use Rattle.model_router.specs.Elections.{Candidate, beats, candidate, better, elect, oneself, designated}
use Rattle.model_router.specs.ElectionLaws.{IsOneOf, IsUnbeaten, IsElected, SameRank}
use Rattle.model_router.proofs.BookLemmas.{choose, test}

not-itself : (a : Candidate) → beats a a ≡ false
not-itself a = grind (arith, nat_tests)

not-later : (a b c : Candidate) → beats a b ≡ false → beats b c ≡ false → beats a c ≡ false
not-later a b c h k = grind (arith, nat_tests, h, k)

not-back : (a b : Candidate) → beats a b ≡ true → beats b a ≡ false
not-back a b h = grind (arith, nat_tests, h)

pub same-rank : (a b : Candidate) → beats a b ≡ false → beats b a ≡ false → SameRank a b
same-rank a b h k = record {
  priority = grind (arith, nat_tests, h, k);
  snpa = grind (arith, nat_tests, h, k);
  system = grind (arith, nat_tests, h, k);
}

-- the better of two is beaten by neither
better-best : (best : Candidate) (n : LanNeighbour) → beats best (better best n) ≡ false
better-best best n = choose (λ (x : Candidate). beats best x ≡ false) (n.up && beats (candidate n.neighbour) best) (candidate n.neighbour) best
    (λ e. not-back (candidate n.neighbour) best (second n.up _ e)) (λ _. not-itself best)
  where
    second : (a b : Bool) → (a && b) ≡ true → b ≡ true
    second true b e = e
    second false b e = absurd (cc)

better-it : (best : Candidate) (n : LanNeighbour) → n.up ≡ true → beats (candidate n.neighbour) (better best n) ≡ false
better-it best n up = choose (λ (x : Candidate). beats (candidate n.neighbour) x ≡ false) (n.up && beats (candidate n.neighbour) best) (candidate n.neighbour) best
    (λ _. not-itself (candidate n.neighbour)) (λ e. other n.up _ up e)
  where
    other : (a b : Bool) → a ≡ true → (a && b) ≡ false → b ≡ false
    other true b e k = k
    other false b e k = absurd (cc)

elect-greatest : (best : Candidate) (heard : List (ℕ × LanNeighbour)) → (beats best (elect best heard) ≡ false) × IsUnbeaten (elect best heard) heard
elect-greatest best [] = (not-itself best, tt)
elect-greatest best (pair ∷ heard) =
    let next = better best pair.1 in
    let rest = elect-greatest next heard in
    (not-later best next (elect next heard) (better-best best pair.1) rest.0, (λ up. not-later (candidate pair.1.neighbour) next (elect next heard) (better-it best pair.1 up) rest.0, rest.1))

other-own : (x a b : Candidate) (heard : List (ℕ × LanNeighbour)) → IsOneOf x a heard → (x ≡ a) ⊎ IsOneOf x b heard
other-own x a b [] h = inl h
other-own x a b (pair ∷ heard) (inl h) = inr (inl h)
other-own x a b (pair ∷ heard) (inr h) = ⊎_elim (λ e. inl e) (λ k. inr (inr k)) (other-own x a b heard h)

elect-one : (best : Candidate) (heard : List (ℕ × LanNeighbour)) → IsOneOf (elect best heard) best heard
elect-one best [] = refl
elect-one best (pair ∷ heard) = test (λ (t : Bool). (pair.1.up && beats (candidate pair.1.neighbour) best) ≡ t → IsOneOf (elect (if t then candidate pair.1.neighbour else best) heard) best (pair ∷ heard)) (pair.1.up && beats (candidate pair.1.neighbour) best)
    (λ _ e. ⊎_elim (λ same. inl (first pair.1.up _ e, same)) (λ k. inr k) (other-own (elect (candidate pair.1.neighbour) heard) (candidate pair.1.neighbour) best heard (elect-one (candidate pair.1.neighbour) heard)))
    (λ _ _. inr (elect-one best heard)) refl
  where
    first : (a b : Bool) → (a && b) ≡ true → a ≡ true
    first true b e = refl
    first false b e = e

pub elected : (config : Config) (place : ℕ) (c : Circuit) (level : Level) (x : Candidate) → designated config place c level ≡ Some x → IsElected config place c level x
elected config place c level x e = choose (λ (o : Option Candidate). o ≡ Some x → IsElected config place c level x) (c.lan && some_up (at c.levels level).heard) _ None
    (λ _ k. of-some (some-same k)) (λ _ k. absurd (cc)) e
  where
    best : Candidate
    best = elect (oneself config place c) (at c.levels level).heard

    some-same : Some best ≡ Some x → best ≡ x
    some-same k = cc

    of-some : best ≡ x → IsElected config place c level x
    of-some k = subst (IsElected config place c level) k (record {
      one = elect-one (oneself config place c) (at c.levels level).heard;
      own = (elect-greatest (oneself config place c) (at c.levels level).heard).0;
      others = (elect-greatest (oneself config place c) (at c.levels level).heard).1;
    })

pub somebody : (config : Config) (place : ℕ) (c : Circuit) (level : Level) → (c.lan && some_up (at c.levels level).heard) ≡ false → designated config place c level ≡ None
somebody config place c level e = rw e refl

pub nobody : (config : Config) (place : ℕ) (c : Circuit) (level : Level) → designated config place c level ≡ None → (c.lan && some_up (at c.levels level).heard) ≡ false
nobody config place c level = test (λ (t : Bool). ◌≡◌ {A = Option Candidate} (if t then Some (elect (oneself config place c) (at c.levels level).heard) else None) None → t ≡ false) (c.lan && some_up (at c.levels level).heard) (λ _ k. absurd (cc)) (λ _ _. refl)
