-- Walks cut short, and why relaxed labels with walks are the least costs.

use Rattle.std.proofs.Common.{◌≡◌, ◌∙◌, ℕ, ◌+◌, ◌*◌, ◌≤◌, ◌<◌, ◌^◌, true, false, List, [], ◌∷◌, length, map, get_or, Option, Some, None, refl, sym, ap, subst, arith, inl, inr}
use Rattle.std.specs.List.{Contains, list_any, IsDistinct, AllByRecursion}
use Rattle.std.specs.Set.{is_member}
use Rattle.std.specs.Prelude.{nat_eq}
use Rattle.std.proofs.lemmas.Bool.{cases_Bool, or_cases, or_parts, eqb-true}
use Rattle.std.proofs.lemmas.Cmp.{nat_eq_equiv}
use Rattle.std.proofs.lemmas.List.{get_or-map, length-map}
use Rattle.std.proofs.lemmas.List.Folds.{list_any_at}
use Rattle.std.proofs.lemmas.Map.Keys.{IsDistinct-cons, IsDistinct-tail}
use Rattle.std.proofs.lemmas.Map.Made.{length-le_from_is_member}
use Rattle.spf_tree.specs.declared.row.Row.{Row}
use Rattle.spf_tree.specs.declared.label.Label.{Label}
use Rattle.spf_tree.specs.Walks.{start, end, IsWalk, cost, IsWithin, AreLeast}
use Rattle.spf_tree.specs.Labels.{at}
use Rattle.spf_tree.specs.Search.{IsBounded, IsRelaxed, AreUpper}

-- ---- a walk that ends at no node twice

-- the ends of a walk's rows
abbrev pub ends : List Row → List ℕ
ends [] = []
ends (row ∷ walk) = end row ∷ ends walk

length-ends : (walk : List Row) → length (ends walk) ≡ length walk
length-ends [] = refl
length-ends (row ∷ walk) = let e = length-ends walk in omega arith

pub record IsShort (rows : List Row) (root : ℕ) (node most : ℕ) : Type 0 where
  pub walk : List Row
  pub is : IsWalk rows root walk node
  pub cheap : cost walk ≤ most
  pub once : IsDistinct nat_eq (ends walk)

-- the same, where more may be paid
more : (rows : List Row) (root node a b : ℕ) → a ≤ b → IsShort rows root node a → IsShort rows root node b
more rows root node a b h s = let cheap = s.cheap in record { walk = s.walk; is = s.is; cheap = omega arith; once = s.once }

-- a walk cut where it first comes to a node that it ends at
pub cut : (rows : List Row) (root : ℕ) (walk : List Row) (last node : ℕ) → IsWalk rows root walk last → IsDistinct nat_eq (ends walk) → is_member nat_eq (ends walk) node ≡ true → IsShort rows root node (cost walk)
cut rows root [] last node is once found = cc
cut rows root (row ∷ walk) last node is once found =
    elim (or_cases (nat_eq node (end row)) (is_member nat_eq (ends walk) node) found) [
      | inl here ↦
          let e : node ≡ end row = eqb-true node (end row) here in
          record { walk = row ∷ walk; is = (is.0, sym e, (λ h. is.2 (sym is.1 ∙ sym e ∙ h)), is.3); cheap = omega arith; once = once }
      | inr later ↦ more rows root node (cost walk) (cost (row ∷ walk)) (omega arith) (cut rows root walk (start row) node is.3 (IsDistinct-tail nat_eq (end row) (ends walk) once) later)
    ]

none_is : (k : ℕ) (ks : List ℕ) → list_any (nat_eq k) ks ≡ false → AllByRecursion (λ y. nat_eq k y ≡ false) ks
none_is k [] h = tt
none_is k (y ∷ ks) h = let p = or_parts (nat_eq k y) (list_any (nat_eq k) ks) h in (p.0, none_is k ks p.1)

pub shorten : (rows : List Row) (root : ℕ) (walk : List Row) (node : ℕ) → IsWalk rows root walk node → IsShort rows root node (cost walk)
unfolding IsDistinct
shorten rows root [] node is = record { walk = []; is = is; cheap = omega arith; once = tt }
shorten rows root (row ∷ walk) node is =
    let s : IsShort rows root (start row) (cost walk) = shorten rows root walk (start row) is.3 in
    let cheap = s.cheap in
    elim (cases_Bool (is_member nat_eq (ends s.walk) (end row))) [
      | inl found ↦ subst (λ (n : ℕ). IsShort rows root n (row.metric + cost walk)) is.1 (more rows root (end row) (cost s.walk) (row.metric + cost walk) (omega arith) (cut rows root s.walk (start row) (end row) s.is s.once found))
      | inr new ↦ record { walk = row ∷ s.walk; is = (is.0, is.1, is.2, s.is); cheap = omega arith; once = IsDistinct-cons nat_eq (end row) (ends s.walk) (none_is (end row) (ends s.walk) new) s.once }
    ]

-- ---- it has no more rows than there are

row_end : (rows : List Row) (row : Row) (q : ℕ) → Contains rows row → nat_eq q (end row) ≡ true → is_member nat_eq (map end rows) q ≡ true
row_end rows row q h e =
    let n : h.0 < length (map end rows) = simp length-map h.1 in
    let is : get_or (map end rows) h.0 0 ≡ end row = get_or-map end rows h.0 row 0 h.1 ∙ ap end h.2 in
    list_any_at (nat_eq q) (map end rows) h.0 0 n (rw is e)

among : (rows : List Row) (root : ℕ) (walk : List Row) (node : ℕ) → IsWalk rows root walk node → (q : ℕ) → is_member nat_eq (ends walk) q ≡ true → is_member nat_eq (map end rows) q ≡ true
among rows root [] node is q found = cc
among rows root (row ∷ walk) node is q found =
    elim (or_cases (nat_eq q (end row)) (is_member nat_eq (ends walk) q) found) [
      | inl here ↦ row_end rows row q is.0 here
      | inr later ↦ among rows root walk (start row) is.3 q later
    ]

pub few : (rows : List Row) (root node most : ℕ) → (s : IsShort rows root node most) → length s.walk ≤ length rows
few rows root node most s =
    let le : length (ends s.walk) ≤ length (map end rows) = length-le_from_is_member nat_eq_equiv (ends s.walk) (map end rows) s.once (among rows root s.walk node s.is) in
    let e = length-ends s.walk in
    omega (arith, e, length-map rows end)

-- ---- relaxed labels are at most every walk's cost

pub within_more : (o : Option ℕ) (a b : ℕ) → a ≤ b → IsWithin o a → IsWithin o b
within_more None a b h w = w
within_more (Some c) a b h w = omega arith

pub within_some : (o : Option ℕ) (a : ℕ) → IsWithin o a → (c : ℕ) × (o ≡ Some c) × (c ≤ a)
within_some None a w = absurd w
within_some (Some c) a w = (c, refl, w)

pub cost_bound : (rows : List Row) (root : ℕ) (walk : List Row) (node : ℕ) → IsBounded rows → IsWalk rows root walk node → cost walk ≤ 4294967295 * length walk
cost_bound rows root [] node bounded is = omega arith
cost_bound rows root (row ∷ walk) node bounded is =
    let rest = cost_bound rows root walk (start row) bounded is.3 in
    let small = bounded.small row is.0 in
    omega arith

reach : (rows : List Row) (root : ℕ) (labels : List Label) → IsBounded rows → IsWithin (at labels root) 0 → IsRelaxed rows root labels → (walk : List Row) (node : ℕ) → IsWalk rows root walk node → length walk < 2 ^ 32 → IsWithin (at labels node) (cost walk)
reach rows root labels bounded zero relaxed [] node is n = rw is zero
reach rows root labels bounded zero relaxed (row ∷ walk) node is n =
    let before = reach rows root labels bounded zero relaxed walk (start row) is.3 (omega arith) in
    let held = within_some (at labels (start row)) (cost walk) before in
    let least = held.2 in
    let bound = cost_bound rows root walk (start row) bounded is.3 in
    let small = bounded.small row is.0 in
    let step : IsWithin (at labels (end row)) (held.0 + row.metric) = relaxed.row row held.0 is.0 (λ h. is.2 (sym is.1 ∙ h)) held.1 (omega arith) in
    subst (λ (m : ℕ). IsWithin (at labels m) (row.metric + cost walk)) is.1 (within_more (at labels (end row)) (held.0 + row.metric) (row.metric + cost walk) (omega arith) step)

pub least : (rows : List Row) (root : ℕ) (labels : List Label) → IsBounded rows → IsWithin (at labels root) 0 → IsRelaxed rows root labels → AreUpper rows root labels → AreLeast rows root (at labels)
least rows root labels bounded zero relaxed upper =
    let all : (walk : List Row) (node : ℕ) → IsWalk rows root walk node → IsWithin (at labels node) (cost walk) =
    λ walk node is.
    let s : IsShort rows root node (cost walk) = shorten rows root walk node is in
    let n = few rows root node (cost walk) s in
    let most = bounded.few in
    within_more (at labels node) (cost s.walk) (cost walk) s.cheap (reach rows root labels bounded zero relaxed s.walk node s.is (omega arith))
    in
    record {
      walk = λ node c e.
          let u = upper.walk node c e in
          let le : IsWithin (Some c) (cost u.0) = rw e at (all u.0 node u.1) in
          let ge = u.2 in
          (u.0, u.1, omega arith);
      least = all;
    }
