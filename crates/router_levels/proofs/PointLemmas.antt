-- The set of point-to-point circuits, and circuits that open.
use Rattle.std.proofs.Common.{◌≡◌, ℕ, zero, suc, ◌+◌, ◌/◌, ◌%◌, ◌<◌, ◌≤◌, ◌==◌, Bool, true, false, List, [], ◌∷◌, if◌then◌else◌, refl, ap, sym, ◌∙◌, subst, arith}
use Rattle.std.proofs.lemmas.Bool.Decides.{nat_tests}
use Rattle.std.proofs.lemmas.Nat.Bits.{bit_at-lt, bit_at_lowest, bit_at-suc}
use Rattle.std.specs.Int.{bit_at}
use Rattle.isis_base.specs.declared.level.CircuitKind.{CircuitKind}
use Rattle.isis_base.specs.declared.level.CircuitKind.TheVariants.{PointToPoint, Lan}
use Rattle.model_router.specs.Sets.{has, with_one}
use Rattle.model_router.specs.Places.{nth}
use Rattle.model_router.specs.Maps.{each}
use Rattle.model_router.specs.Cells.{Cell}
use Rattle.model_router.specs.Books.{Book}
use Rattle.model_router.specs.Openings.{marked, open_up}
use Rattle.model_router.specs.Routers.{Circuit}
use Rattle.model_router.specs.Starts.{points_of}
use Rattle.model_router.proofs.SetLemmas.{has-with_one, has-none}
use Rattle.flag_sync.specs.Circuits.{is_point}
use Rattle.router_levels.specs.Views.{AreOfKinds}

-- ---- sets with the same circuits are one

bit-same : (a b i : ℕ) → has a i ≡ has b i → bit_at a i ≡ bit_at b i
unfolding has
bit-same a b i e = let x = bit_at-lt a i in let y = bit_at-lt b i in grind (arith, nat_tests, e, x, y)

has-half : (a i : ℕ) → has (a / 2) i ≡ has a (suc i)
unfolding has
has-half a i = ap (λ (n : ℕ). n == 1) (sym (bit_at-suc a i))

same-within : (fuel a b : ℕ) → a ≤ fuel → b ≤ fuel → ((q : ℕ) → has a q ≡ has b q) → a ≡ b
same-within zero a b x y e = omega (arith, x, y)
same-within (suc fuel) a b x y e =
    let low : a % 2 ≡ b % 2 = sym (bit_at_lowest a) ∙ bit-same a b 0 (e 0) ∙ bit_at_lowest b in
    let half = same-within fuel (a / 2) (b / 2) (omega (arith, x)) (omega (arith, y)) (λ q. has-half a q ∙ e (suc q) ∙ sym (has-half b q)) in
    omega (arith, low, half)

pub same-set : (a b : ℕ) → ((q : ℕ) → has a q ≡ has b q) → a ≡ b
same-set a b e = same-within (a + b) a b (omega arith) (omega arith) e

-- ---- the point-to-point circuits

points-below : (circuits : List Circuit) (place q : ℕ) → q < place → has (points_of place circuits) q ≡ false
points-below [] place q lt = has-none q
points-below (c ∷ circuits) place q lt = cases c.lan (points-below circuits (place + 1) q (omega (arith, lt)))
  where
    cases : (t : Bool) → has (points_of (place + 1) circuits) q ≡ false → has (if t then points_of (place + 1) circuits else with_one (points_of (place + 1) circuits) place) q ≡ false
    cases true h = h
    cases false h = has-with_one (points_of (place + 1) circuits) place q ∙ grind (arith, nat_tests, h, lt)

points-from : (circuits : List Circuit) (kinds : List CircuitKind) (place d : ℕ) → AreOfKinds circuits kinds → has (points_of place circuits) (place + d) ≡ is_point (nth kinds d)
points-from [] [] place d are = has-none (place + d)
points-from [] (kind ∷ kinds) place d are = absurd are
points-from (c ∷ circuits) [] place d are = absurd are
points-from (c ∷ circuits) (Lan ∷ kinds) place zero are =
    let rest = points-below circuits (place + 1) (place + zero) (omega arith) in
    subst (λ (t : Bool). has (if t then points_of (place + 1) circuits else with_one (points_of (place + 1) circuits) place) (place + zero) ≡ false) (sym are.0) rest
points-from (c ∷ circuits) (PointToPoint ∷ kinds) place zero are =
    let rest = points_of (place + 1) circuits in
    subst (λ (t : Bool). has (if t then points_of (place + 1) circuits else with_one (points_of (place + 1) circuits) place) (place + zero) ≡ true) (sym are.0)
    (has-with_one (points_of (place + 1) circuits) place (place + zero) ∙ grind (arith, nat_tests))
points-from (c ∷ circuits) (kind ∷ kinds) place (suc d) are =
    let behind : has (points_of (place + 1) circuits) (place + suc d) ≡ is_point (nth kinds d) = subst (λ (n : ℕ). has (points_of (place + 1) circuits) n ≡ is_point (nth kinds d)) (omega arith) (points-from circuits kinds (place + 1) d are.1) in
    cases c.lan behind
  where
    cases : (t : Bool) → has (points_of (place + 1) circuits) (place + suc d) ≡ is_point (nth kinds d) → has (if t then points_of (place + 1) circuits else with_one (points_of (place + 1) circuits) place) (place + suc d) ≡ is_point (nth kinds d)
    cases true h = h
    cases false h = has-with_one (points_of (place + 1) circuits) place (place + suc d) ∙ grind (arith, nat_tests, h)

pub points-are : (circuits : List Circuit) (kinds : List CircuitKind) (points : ℕ) → ((place : ℕ) → has points place ≡ is_point (nth kinds place)) → AreOfKinds circuits kinds → points ≡ points_of 0 circuits
points-are circuits kinds points e are = same-set points (points_of 0 circuits) (λ q. e q ∙ sym (subst (λ (n : ℕ). has (points_of 0 circuits) n ≡ is_point (nth kinds q)) (let z : 0 + q ≡ q = omega arith in z) (points-from circuits kinds 0 q are)))

-- ---- a LAN that opens

each-same : (cells : List (ℕ × Cell)) → each (λ (_ : ℕ) (cell : Cell). cell) cells ≡ cells
unfolding each
each-same [] = refl
each-same (pair ∷ cells) = ap (λ (cs : List (ℕ × Cell)). pair ∷ cs) (each-same cells)

pub lan-opens : (book : Book) (place : ℕ) → has book.p2p place ≡ false → record book { opened = with_one book.opened place } ≡ open_up book place
unfolding open_up
lan-opens book place lan =
    subst (λ (t : Bool). record book { opened = with_one book.opened place } ≡ record book { opened = with_one book.opened place; cells = each (λ (_ : ℕ) (cell : Cell). if t then marked cell place else cell) book.cells }) (sym lan)
    (ap (λ (cs : List (ℕ × Cell)). let b : Book = record book { opened = with_one book.opened place; cells = cs } in b) (sym (each-same book.cells)))
