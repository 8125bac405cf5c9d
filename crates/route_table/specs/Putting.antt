-- A patch put into routes. All of it own.

use Rattle.std.specs.Prelude.{◌≡◌, ℕ, ◌≤◌, ◌<◌, ◌⊎◌, List, length, slice_index_or, Option, Some}
use Rattle.std.specs.List.{Contains}
use Rattle.route_table.specs.declared.candidate.Candidate.{Candidate}
use Rattle.route_table.specs.declared.route.Route.{Route}
use Rattle.route_table.specs.Ranks.{prefix_number}
use Rattle.route_table.specs.Routes.{AreRising}

-- routes before the place are of lesser prefixes, those from it on are not
pub record IsPlaceOf (routes : List Route) (n place : ℕ) : Type 0 where
  pub within : place ≤ length routes
  pub below : (k : ℕ) (d : Route) → k < place → prefix_number (slice_index_or routes k d).prefix < n
  pub above : (k : ℕ) (d : Route) → place ≤ k → k < length routes
      → n ≤ prefix_number (slice_index_or routes k d).prefix

-- the same of candidates in order
pub record IsFirstFor (candidates : List Candidate) (n place : ℕ) : Type 0 where
  pub within : place ≤ length candidates
  pub below : (k : ℕ) (d : Candidate) → k < place
      → prefix_number (slice_index_or candidates k d).prefix < n
  pub above : (k : ℕ) (d : Candidate) → place ≤ k → k < length candidates
      → n ≤ prefix_number (slice_index_or candidates k d).prefix

-- the prefix has this route, if there is one, and all others have theirs
pub record IsPutIn (old : List Route) (n : ℕ) (o : Option Route) (new : List Route) : Type 0 where
  pub rising : AreRising new
  pub each : (r : Route) → Contains new r
      → (o ≡ Some r) ⊎ (Contains old r × (prefix_number r.prefix ≡ n → ⊥))
  pub brought : (r : Route) → o ≡ Some r → Contains new r
  pub kept : (r : Route) → Contains old r → (prefix_number r.prefix ≡ n → ⊥) → Contains new r

-- the prefix has a route at the place, or none at all
abbrev pub IsHeld : List Route → ℕ → ℕ → Type 0
IsHeld routes n place =
    (place < length routes)
    × ((d : Route) → prefix_number (slice_index_or routes place d).prefix ≡ n)

abbrev pub IsFree : List Route → ℕ → Type 0
IsFree routes n =
    (k : ℕ) (d : Route) → k < length routes
    → prefix_number (slice_index_or routes k d).prefix ≡ n → ⊥
