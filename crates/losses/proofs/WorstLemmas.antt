-- The worst of all schedules is the worst of all runs.
use Rattle.std.proofs.Common.{◌≡◌, ℕ, zero, suc, ◌+◌, ◌≤◌, ◌⊎◌, inl, inr, Bool, true, false, List, [], ◌∷◌, ◌++◌, nat_lt, if◌then◌else◌, refl, ap, ◌∙◌, subst, arith}
use Rattle.std.specs.List.{AllByRecursion}
use Rattle.std.proofs.lemmas.Bool.Decides.{nat_tests}
use Rattle.losses.specs.Trees.{Tree, Ends, Comes, behind, quiet_cost, cost_of, losses_in}
use Rattle.losses.specs.Schedules.{Schedule, schedules, with_losses}
use Rattle.losses.specs.Counts.{Count, nothing, with_one, with_all}
use Rattle.losses.specs.Claims.{IsWorst}
use Rattle.losses.proofs.TreeLemmas.{behind-nil, behind-append, none-lost, losses-append}

-- ---- each run's cost is that of a schedule

abbrev Has : ℕ → List Schedule → Type 0
Has cost [] = ⊥
Has cost (s ∷ list) = (s.cost ≡ cost) ⊎ Has cost list

has-left : (cost : ℕ) (xs ys : List Schedule) → Has cost xs → Has cost (xs ++ ys)
has-left cost [] ys h = absurd h
has-left cost (x ∷ xs) ys (inl e) = inl e
has-left cost (x ∷ xs) ys (inr h) = inr (has-left cost xs ys h)

has-right : (cost : ℕ) (xs ys : List Schedule) → Has cost ys → Has cost (xs ++ ys)
has-right cost [] ys h = h
has-right cost (x ∷ xs) ys h = inr (has-right cost xs ys h)

covers : (t : Tree) (most : ℕ) (begun fates : List Bool) → losses_in fates ≤ most → Has (cost_of t fates) (schedules t most begun)
covers (Ends cost) most begun fates h = inl refl
covers (Comes a l) most begun [] h = inl refl
covers (Comes a l) most begun (false ∷ fates) h = arrives most (covers a most (begun ++ (false ∷ [])) fates h)
  where
    arrives : (most : ℕ) → Has (cost_of a fates) (schedules a most (begun ++ (false ∷ []))) → Has (cost_of a fates) (schedules (Comes a l) most begun)
    arrives most (inl e) = inl e
    arrives zero (inr h) = absurd (subst (Has (cost_of a fates)) (none-lost a (begun ++ (false ∷ []))) h)
    arrives (suc most) (inr h) = inr (inr (has-right (cost_of a fates) (with_losses l most (begun ++ (true ∷ []))) (with_losses a (suc most) (begun ++ (false ∷ []))) h))
covers (Comes a l) zero begun (true ∷ fates) h = absurd (omega (arith, h))
covers (Comes a l) (suc most) begun (true ∷ fates) h =
    inr (has-left (cost_of l fates) (schedules l most (begun ++ (true ∷ []))) (with_losses a (suc most) (begun ++ (false ∷ [])))
    (covers l most (begun ++ (true ∷ [])) fates (omega (arith, h))))

-- ---- each schedule is a run with so many losses

record IsOf (whole : Tree) (all : ℕ) (s : Schedule) : Type 0 where
  few : losses_in s.fates ≤ all
  costs : cost_of whole s.fates ≡ s.cost

all-append : (whole : Tree) (all : ℕ) (xs ys : List Schedule) → AllByRecursion (IsOf whole all) xs → AllByRecursion (IsOf whole all) ys → AllByRecursion (IsOf whole all) (xs ++ ys)
all-append whole all [] ys p q = q
all-append whole all (x ∷ xs) ys p q = (p.0, all-append whole all xs ys p.1 q)

are-of : (whole : Tree) (all : ℕ) (t : Tree) (most : ℕ) (begun : List Bool) → behind whole begun ≡ t → losses_in begun + most ≤ all → AllByRecursion (IsOf whole all) (with_losses t most begun)
are-of whole all (Ends cost) most begun e h = tt
are-of whole all (Comes a l) zero begun e h = tt
are-of whole all (Comes a l) (suc most) begun e h = (
  one,
  all-append whole all (with_losses l most (begun ++ (true ∷ []))) (with_losses a (suc most) (begun ++ (false ∷ [])))
      (are-of whole all l most (begun ++ (true ∷ [])) lost (omega (arith, losses-append begun (true ∷ []), h)))
      (are-of whole all a (suc most) (begun ++ (false ∷ [])) arrived (omega (arith, losses-append begun (false ∷ []), h))),
)
  where
    lost : behind whole (begun ++ (true ∷ [])) ≡ l
    lost = behind-append whole begun (true ∷ []) ∙ ap (λ (t : Tree). behind t (true ∷ [])) e ∙ behind-nil l

    arrived : behind whole (begun ++ (false ∷ [])) ≡ a
    arrived = behind-append whole begun (false ∷ []) ∙ ap (λ (t : Tree). behind t (false ∷ [])) e ∙ behind-nil a

    one : IsOf whole all (record { fates = begun ++ (true ∷ []); cost = quiet_cost l })
    one = record { few = omega (arith, losses-append begun (true ∷ []), h); costs = ap quiet_cost lost }

-- ---- the worst of a list

record IsGood (whole : Tree) (all : ℕ) (count : Count) : Type 0 where
  few : losses_in count.named ≤ all
  named : cost_of whole count.named ≡ count.worst

abbrev Both : (whole : Tree) (all : ℕ) (count : Count) (s : Schedule) → Bool → Type 0
Both whole all count s b = (losses_in (if b then s.fates else count.named) ≤ all) × (cost_of whole (if b then s.fates else count.named) ≡ (if b then s.cost else count.worst))

both : (whole : Tree) (all : ℕ) (count : Count) (s : Schedule) → IsGood whole all count → IsOf whole all s → (b : Bool) → Both whole all count s b
both whole all count s g o true = (o.few, o.costs)
both whole all count s g o false = (g.few, g.named)

better : (whole : Tree) (all wanted : ℕ) (count : Count) (s : Schedule) → IsGood whole all count → IsOf whole all s → IsGood whole all (with_one wanted count s)
better whole all wanted count s g o = let x = both whole all count s g o (nat_lt count.worst s.cost) in record { few = x.0; named = x.1 }

good : (whole : Tree) (all wanted : ℕ) (count : Count) (list : List Schedule) → IsGood whole all count → AllByRecursion (IsOf whole all) list → IsGood whole all (with_all wanted count list)
good whole all wanted count [] g o = g
good whole all wanted count (s ∷ list) g o = good whole all wanted (with_one wanted count s) list (better whole all wanted count s g o.0) o.1

up-one : (wanted : ℕ) (count : Count) (s : Schedule) → (count.worst ≤ (with_one wanted count s).worst) × (s.cost ≤ (with_one wanted count s).worst)
up-one wanted count s = by (nat_lt count.worst s.cost) refl
  where
    by : (b : Bool) → nat_lt count.worst s.cost ≡ b → (count.worst ≤ (if b then s.cost else count.worst)) × (s.cost ≤ (if b then s.cost else count.worst))
    by true e = (grind (arith, nat_tests, e), omega arith)
    by false e = (omega arith, grind (arith, nat_tests, e))

up-all : (wanted : ℕ) (count : Count) (list : List Schedule) → count.worst ≤ (with_all wanted count list).worst
up-all wanted count [] = omega arith
up-all wanted count (s ∷ list) = omega (arith, (up-one wanted count s).0, up-all wanted (with_one wanted count s) list)

at-most : (wanted : ℕ) (count : Count) (list : List Schedule) (cost : ℕ) → Has cost list → cost ≤ (with_all wanted count list).worst
at-most wanted count [] cost h = absurd h
at-most wanted count (s ∷ list) cost (inl e) = omega (arith, e, (up-one wanted count s).1, up-all wanted (with_one wanted count s) list)
at-most wanted count (s ∷ list) cost (inr h) = at-most wanted (with_one wanted count s) list cost h

-- ---- all

abbrev AtFirst : Tree → ℕ → Bool → Type 0
AtFirst t most b = (losses_in (if b then [] else []) ≤ most) × (cost_of t (if b then [] else []) ≡ (if b then quiet_cost t else 0))

at-first : (t : Tree) (most : ℕ) (b : Bool) → nat_lt 0 (quiet_cost t) ≡ b → AtFirst t most b
at-first t most true e = (omega arith, ap quiet_cost (behind-nil t))
at-first t most false e = (omega arith, ap quiet_cost (behind-nil t) ∙ grind (arith, nat_tests, e))

first : (t : Tree) (most wanted : ℕ) → IsGood t most (with_one wanted nothing (record { fates = []; cost = quiet_cost t }))
first t most wanted = let x = at-first t most (nat_lt 0 (quiet_cost t)) refl in record { few = x.0; named = x.1 }

pub worst : (t : Tree) (most wanted : ℕ) → IsWorst t most (with_all wanted nothing (schedules t most []))
worst t most wanted = record {
  all = λ fates few. at-most wanted nothing (schedules t most []) (cost_of t fates) (covers t most [] fates few);
  few = told.few;
  named = told.named;
}
  where
    told : IsGood t most (with_all wanted nothing (schedules t most []))
    told = good t most wanted (with_one wanted nothing (record { fates = []; cost = quiet_cost t })) (with_losses t most []) (first t most wanted) (are-of t most t most [] (behind-nil t) (omega arith))
