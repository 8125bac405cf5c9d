-- Classes of routers as a forest: each router has a parent, and the root of a class is its least
-- router (own).
use Rattle.std.specs.Prelude.{◌≡◌, ℕ, ◌<◌, ◌≤◌, Bool, List, length, map, max, min, slice_index, if◌then◌else◌, ◌==◌}
use Rattle.lab_facts.specs.Joined.{AreJoined, Leads}

-- each router is its own parent
pub record AreOwn (parents : List ℕ) (count : ℕ) : Type 0 where
  pub size : length parents ≡ count
  pub own : (r : ℕ) → r < count → slice_index parents r ≡ r

-- no router's parent is greater than itself
pub record AreParents (parents : List ℕ) (count : ℕ) : Type 0 where
  pub size : length parents ≡ count
  pub below : (r : ℕ) → r < count → slice_index parents r ≤ r

-- a router and its parent have one root, and whoever is its own parent is its own root
pub record HaveRoots (parents roots : List ℕ) (count : ℕ) : Type 0 where
  pub size : length roots ≡ count
  pub same : (r : ℕ) → r < count
      → slice_index roots (slice_index parents r) ≡ slice_index roots r
  pub own : (r : ℕ) → r < count → slice_index parents r ≡ r → slice_index roots r ≡ r

-- a root, or the one that it is replaced by
abbrev pub replaced : ℕ → ℕ → ℕ → ℕ
replaced old new root = if root == old then new else root

-- roots after the classes of two routers are merged: the lesser one is the root of both
abbrev pub merged : List ℕ → ℕ → ℕ → List ℕ
merged roots near far =
    map (replaced
    (max (slice_index roots near) (slice_index roots far))
    (min (slice_index roots near) (slice_index roots far))) roots

-- labels of routers: joined routers have one, and each router is led to its own, which isn't
-- greater than the router
pub record AreLabels (runs : List Bool) (pairs : List (ℕ × ℕ)) (labels : List ℕ) : Type 0 where
  pub size : length labels ≡ length runs
  pub below : (r : ℕ) → r < length runs → slice_index labels r ≤ r
  pub leads : (r : ℕ) → r < length runs → Leads runs pairs r (slice_index labels r)
  pub same : (a b : ℕ) → AreJoined runs pairs a b → slice_index labels a ≡ slice_index labels b

-- the roots of a forest are labels
pub record AreRooted (runs : List Bool) (pairs : List (ℕ × ℕ)) (parents : List ℕ) : Type 0 where
  pub roots : List ℕ
  pub have : HaveRoots parents roots (length runs)
  pub labels : AreLabels runs pairs roots
