-- Candidates in order, and the routes made of the first so many. All of it own.

use Rattle.std.specs.Prelude.{◌≡◌, ℕ, ◌≤◌, ◌<◌, ◌⊎◌, ◌↔◌, List, length, slice_index_or}
use Rattle.std.specs.List.{Contains}
use Rattle.spf_tree.specs.Nodes.{node_number}
use Rattle.route_table.specs.declared.rank.Rank.{Rank}
use Rattle.route_table.specs.declared.rank.Rank.TheVariants.{Own, One, Two, OneDown, Default}
use Rattle.route_table.specs.declared.candidate.Candidate.{Candidate}
use Rattle.route_table.specs.declared.route.Route.{Route}
use Rattle.route_table.specs.Ranks.{rank_number, prefix_number}
use Rattle.route_table.specs.Routes.{IsNoWorse, IsRoute, AreRising}

-- a next hop by rank, where lists of targets beside hops tell it
abbrev pub IsListedBy : List (ℕ × ℕ) → List (ℕ × ℕ) → Rank → ℕ → ℕ → Type 0
IsListedBy one two Own origin hop = ⊥
IsListedBy one two One origin hop = Contains one (origin, hop)
IsListedBy one two Two origin hop = Contains two (origin, hop)
IsListedBy one two OneDown origin hop = Contains one (origin, hop)
IsListedBy one two Default origin hop = Contains one (origin, hop)

-- a next hop to the origin of a candidate, where such lists tell it
abbrev pub IsListedHop : List (ℕ × ℕ) → List (ℕ × ℕ) → Candidate → ℕ → Type 0
IsListedHop one two candidate hop =
    IsListedBy one two candidate.rank (node_number candidate.origin) hop

-- a candidate comes no later than another: by prefix, then by rank and cost
abbrev pub IsNoLater : Candidate → Candidate → Type 0
IsNoLater a b =
    (prefix_number a.prefix < prefix_number b.prefix)
    ⊎ ((prefix_number a.prefix ≡ prefix_number b.prefix)
    × IsNoWorse (rank_number a.rank) a.cost (rank_number b.rank) b.cost)

-- each candidate comes no later than those behind it
pub record AreInOrder (candidates : List Candidate) : Type 0 where
  pub order : (i j : ℕ) (d : Candidate) → i < j → j < length candidates
      → IsNoLater (slice_index_or candidates i d) (slice_index_or candidates j d)

-- a candidate is as good a way to the same prefix as another
abbrev pub IsAsGood : Candidate → Candidate → Type 0
IsAsGood a b =
    (prefix_number a.prefix ≡ prefix_number b.prefix) × (rank_number a.rank ≡ rank_number b.rank)
    × (a.cost ≡ b.cost)

-- the candidates from one place to another have what the first of them has, and the next one hasn't
pub record IsRun (Same : Candidate → Candidate
    → Type 0) (candidates : List Candidate) (first end : ℕ) : Type 0 where
  pub after : first < end
  pub within : end ≤ length candidates
  pub same : (k : ℕ) (d : Candidate) → first ≤ k → k < end
      → Same (slice_index_or candidates k d) (slice_index_or candidates first d)
  pub other : (d : Candidate) → end < length candidates
      → Same (slice_index_or candidates end d) (slice_index_or candidates first d) → ⊥

-- two candidates are for one prefix
abbrev pub IsSamePrefix : Candidate → Candidate → Type 0
IsSamePrefix a b = prefix_number a.prefix ≡ prefix_number b.prefix

-- the hops of the candidates from one place to another
abbrev pub AreHopsIn : (Candidate → ℕ → Type 0) → List Candidate → ℕ → ℕ → List ℕ → Type 0
AreHopsIn HopTo candidates first end hops =
    (hop : ℕ) → Contains hops hop
    ↔ ((k : ℕ) × (c : Candidate) × (first ≤ k) × (k < end) × (slice_index_or candidates k c ≡ c)
    × HopTo c hop)

-- the routes of the first so many candidates, which have all that there are for their prefixes
pub record HaveRoutes (HopTo : Candidate → ℕ
    → Type 0) (candidates : List Candidate) (routes : List Route) (many : ℕ) : Type 0 where
  pub within : many ≤ length candidates
  pub cut : (i j : ℕ) (d : Candidate) → i < many → many ≤ j → j < length candidates
      → prefix_number (slice_index_or candidates i d).prefix < prefix_number
      (slice_index_or candidates j d).prefix
  pub rising : AreRising routes
  pub each : (route : Route) → Contains routes route → IsRoute HopTo candidates route
  pub all : (k : ℕ) (d : Candidate) → k < many
      → (route : Route) × Contains routes route
      × (prefix_number route.prefix ≡ prefix_number (slice_index_or candidates k d).prefix)
  pub below : (route : Route) (k : ℕ) (d : Candidate) → Contains routes route → many ≤ k
      → k < length candidates
      → prefix_number route.prefix < prefix_number (slice_index_or candidates k d).prefix
