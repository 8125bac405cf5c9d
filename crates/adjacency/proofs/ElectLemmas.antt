-- Who is designated among LAN neighbours.
use Rattle.std.proofs.Common.{◌≡◌, ◌≢◌, ℕ, zero, suc, ◌+◌, ◌<◌, ◌≤◌, ◌⊎◌, inl, inr, true, false, Bool, ◌&&◌, nat_lt, List, [], ◌∷◌, length, map, Some, None, if◌then◌else◌, refl, sym, ap, ◌∙◌, subst, arith}
use Rattle.std.specs.Prelude.{Contains}
use Rattle.std.specs.List.{AllByRecursion}
use Rattle.std.proofs.lemmas.List.{length-map}
use Rattle.std.proofs.lemmas.Bool.Decides.{nat_tests}
use Rattle.isis_base.specs.declared.level.Level.{Level}
use Rattle.model_router.specs.Adjacencies as model
use Rattle.model_router.specs.Both.{at}
use Rattle.model_router.specs.Configs.{Config}
use Rattle.model_router.specs.Sorted.{RisesFrom}
use Rattle.model_router.specs.Routers.{LanNeighbour, Circuit, some_up}
use Rattle.model_router.specs.Elections as elections
use Rattle.designated_is.specs.Numbers.{candidate_of}
use Rattle.designated_is.specs.Greatest.{plain, up_candidates}
use Rattle.adjacency.specs.declared.neighbour.Neighbour.{Neighbour}
use Rattle.adjacency.specs.Views.{neighbour_of}
use Rattle.adjacency.specs.Lans.{AreHeard, ups, candidate_from, some_up_over, lan_less_change}
use Rattle.adjacency.specs.declared.hello.AdjChange.TheVariants as change
use Rattle.model_router.specs.Seconds.{some_over}

-- ---- candidates

plain_of : model.Neighbour → elections.Candidate
plain_of n = plain (elections.candidate n)

ups-candidates : (heard : List (ℕ × LanNeighbour)) → map plain_of (ups heard) ≡ up_candidates heard
unfolding plain_of
ups-candidates [] = refl
ups-candidates (p ∷ heard) = grind (arith, nat_tests, ups-candidates heard)

from-neighbours : (up : List Neighbour) → map candidate_of (map candidate_from up) ≡ map plain_of (map neighbour_of up)
unfolding plain_of
from-neighbours [] = refl
from-neighbours (n ∷ up) = ap (λ (m : List elections.Candidate). candidate_of (candidate_from n) ∷ m) (from-neighbours up)

pub candidates-up : (up : List Neighbour) (heard : List (ℕ × LanNeighbour)) → map neighbour_of up ≡ ups heard → map candidate_of (map candidate_from up) ≡ up_candidates heard
candidates-up up heard e = from-neighbours up ∙ ap (λ (m : List model.Neighbour). map plain_of m) e ∙ ups-candidates heard

pub some_up-ups : (heard : List (ℕ × LanNeighbour)) → some_up heard ≡ nat_lt 0 (length (ups heard))
some_up-ups [] = refl
some_up-ups (p ∷ heard) = grind (arith, nat_tests, some_up-ups heard)

-- the one that the model has designated where it elects on a LAN
pub designated-by : (config : Config) (place : ℕ) (c : Circuit) (level : Level) (up : List Neighbour) → c.lan ≡ true → map neighbour_of up ≡ ups (at c.levels level).heard → 0 < length up → elections.designated config place c level ≡ Some (elections.elect (elections.oneself config place c) (at c.levels level).heard)
designated-by config place c level up lan e some =
    let count : length (ups (at c.levels level).heard) ≡ length up = sym (ap length e) ∙ length-map up neighbour_of in
    let opened : some_up (at c.levels level).heard ≡ true = some_up-ups (at c.levels level).heard ∙ grind (arith, nat_tests, count, some) in
    rw (lan, opened) refl

pub designated-nobody : (config : Config) (place : ℕ) (c : Circuit) (level : Level) → ups (at c.levels level).heard ≡ [] → elections.designated config place c level ≡ None
designated-nobody config place c level e =
    let shut : some_up (at c.levels level).heard ≡ false = some_up-ups (at c.levels level).heard ∙ ap (λ (m : List model.Neighbour). nat_lt 0 (length m)) e in
    grind (arith, nat_tests, shut)

-- ---- where the elected one stands

IsOn : elections.Candidate → List (ℕ × LanNeighbour) → Type 0
IsOn c heard = (pair : ℕ × LanNeighbour) × Contains heard pair × (c ≡ elections.candidate pair.1.neighbour)

on-longer : (c : elections.Candidate) (p : ℕ × LanNeighbour) (heard : List (ℕ × LanNeighbour)) → IsOn c heard → IsOn c (p ∷ heard)
unfolding IsOn
on-longer c p heard (pair, (i, lt, same), e) = (pair, (suc i, omega (arith, lt), same), e)

elect-on : (best : elections.Candidate) (heard : List (ℕ × LanNeighbour)) → (elections.elect best heard ≡ best) ⊎ IsOn (elections.elect best heard) heard
unfolding IsOn
elect-on best [] = inl refl
elect-on best (p ∷ heard) = elim (elect-on (elections.better best p.1) heard) [
  | inl e ↦ first (p.1.up && elections.beats (elections.candidate p.1.neighbour) best) refl e
  | inr on ↦ inr (on-longer _ p heard on)
] where
  first : (t : Bool) → (p.1.up && elections.beats (elections.candidate p.1.neighbour) best) ≡ t → elections.elect (elections.better best p.1) heard ≡ (if t then elections.candidate p.1.neighbour else best) → (elections.elect best (p ∷ heard) ≡ best) ⊎ IsOn (elections.elect best (p ∷ heard)) (p ∷ heard)
  first true t e = inr (p, (0, omega arith, refl), e)
  first false t e = inl e

all-at : {X : Type 0} (P : X → Type 0) (xs : List X) (x : X) → AllByRecursion P xs → Contains xs x → P x
all-at P [] x all (i, lt, e) = absurd (omega (arith, lt))
all-at P (y ∷ xs) x all (zero, lt, e) = subst P e all.0
all-at P (y ∷ xs) x all (suc i, lt, e) = all-at P xs x all.1 (i, omega (arith, lt), e)

least-on : {V : Type 0} (m : List (ℕ × V)) (least : ℕ) (p : ℕ × V) → RisesFrom least m → Contains m p → least ≤ p.0
least-on [] least p r (i, lt, e) = absurd (omega (arith, lt))
least-on {V} (q ∷ m) least p r (zero, lt, e) = subst (λ (x : ℕ × V). least ≤ x.0) e r.0
least-on (q ∷ m) least p r (suc i, lt, e) = let h = least-on m (q.0 + 1) p r.1 (i, omega (arith, lt), e) in let k = r.0 in omega (arith, h, k)

one-on : {V : Type 0} (m : List (ℕ × V)) (least : ℕ) (p q : ℕ × V) → RisesFrom least m → Contains m p → Contains m q → p.0 ≡ q.0 → p ≡ q
one-on [] least p q r (i, lt, e) on same = absurd (omega (arith, lt))
one-on (x ∷ m) least p q r (zero, lt, e) (zero, mt, f) same = sym e ∙ f
one-on (x ∷ m) least p q r (zero, lt, e) (suc j, mt, f) same = absurd (let h = least-on m (x.0 + 1) q r.1 (j, omega (arith, mt), f) in let k = ap (λ (y : ℕ × _). y.0) e in omega (arith, h, k, same))
one-on (x ∷ m) least p q r (suc i, lt, e) (zero, mt, f) same = absurd (let h = least-on m (x.0 + 1) p r.1 (i, omega (arith, lt), e) in let k = ap (λ (y : ℕ × _). y.0) f in omega (arith, h, k, same))
one-on (x ∷ m) least p q r (suc i, lt, e) (suc j, mt, f) same = one-on m (x.0 + 1) p q r.1 (i, omega (arith, lt), e) (j, omega (arith, mt), f) same

abbrev IsKept : List (ℕ × LanNeighbour) → model.Neighbour → Type 0
IsKept heard n = (pair : ℕ × LanNeighbour) × Contains heard pair × (pair.1.neighbour ≡ n)

ups-on : (heard : List (ℕ × LanNeighbour)) (n : model.Neighbour) → Contains (ups heard) n → IsKept heard n
ups-on [] n (i, lt, e) = absurd (omega (arith, lt))
ups-on (p ∷ heard) n on = by p.1.up on (ups-on heard n) where
  longer : IsKept heard n → IsKept (p ∷ heard) n
  longer (pair, (i, lt, same), e) = (pair, (suc i, omega (arith, lt), same), e)

  by : (t : Bool) → Contains (if t then p.1.neighbour ∷ ups heard else ups heard) n → (Contains (ups heard) n → IsKept heard n) → IsKept (p ∷ heard) n
  by true (zero, lt, e) rest = (p, (0, omega arith, refl), e)
  by true (suc i, lt, e) rest = longer (rest (i, omega (arith, lt), e))
  by false on rest = longer (rest on)

pub elect-neighbour : (best : elections.Candidate) (heard : List (ℕ × LanNeighbour)) (n : model.Neighbour) → AreHeard heard → Contains (ups heard) n → n.system ≡ (elections.elect best heard).system → n.system ≢ best.system → elections.elect best heard ≡ elections.candidate n
unfolding IsOn
elect-neighbour best heard n are on same other = elim (elect-on best heard) [
  | inl e ↦ absurd (other (same ∙ ap (λ (c : elections.Candidate). c.system) e))
  | inr found ↦
      let mine = ups-on heard n on in
      let of_found = all-at (λ pair. pair.1.neighbour.system ≡ pair.0) heard found.0 are.systems found.1 in
      let of_mine = all-at (λ pair. pair.1.neighbour.system ≡ pair.0) heard mine.0 are.systems mine.1 in
      let keys : found.0.0 ≡ mine.0.0 = sym of_found ∙ sym (ap (λ (c : elections.Candidate). c.system) found.2) ∙ sym same ∙ sym (ap (λ (m : model.Neighbour). m.system) mine.2) ∙ of_mine in
      let one = one-on heard 0 found.0 mine.0 are.rises found.1 mine.1 keys in
      found.2 ∙ ap (λ (p : ℕ × LanNeighbour). elections.candidate p.1.neighbour) one ∙ ap elections.candidate mine.2
]

pub elect-oneself : (best : elections.Candidate) (heard : List (ℕ × LanNeighbour)) → AllByRecursion (λ pair. pair.1.neighbour.system ≢ best.system) heard → (elections.elect best heard).system ≡ best.system → elections.elect best heard ≡ best
unfolding IsOn
elect-oneself best heard others same = elim (elect-on best heard) [
  | inl e ↦ e
  | inr found ↦ absurd (all-at (λ pair. pair.1.neighbour.system ≢ best.system) heard found.0 others found.1 (sym (ap (λ (c : elections.Candidate). c.system) found.2) ∙ same))
]

-- ---- some time is over

up-over : (heard : List (ℕ × LanNeighbour)) → some_up_over heard ≡ true → some_over heard ≡ true
up-over [] e = e
up-over (p ∷ heard) e = grind (arith, nat_tests, e, up-over heard)

pub less-change : (heard : List (ℕ × LanNeighbour)) → (lan_less_change heard ≡ change.None → some_over heard ≡ false) × (some_over heard ≡ false → lan_less_change heard ≡ change.None)
less-change heard = by (some_up_over heard) (some_over heard) (up-over heard) where
  by : (a b : Bool) → (a ≡ true → b ≡ true) → ((if a then change.LeftUp else (if b then change.Moved else change.None)) ≡ change.None → b ≡ false) × (b ≡ false → (if a then change.LeftUp else (if b then change.Moved else change.None)) ≡ change.None)
  by a b h = grind (arith, h)
