-- Prefixes by their places in order, so that the route table of IPv4 does the choosing. All of it own.

use Rattle.std.specs.Prelude.{◌≡◌, ℕ, ◌-◌, ◌≤◌, ◌<◌, List, [], ◌∷◌, ◌++◌, length, slice_index_or}
use Rattle.isis_base.specs.declared.prefix.Prefix.{Prefix}
use Rattle.route_table.specs.declared.rank.Rank.{Rank}
use Rattle.route_table.specs.declared.rank.Rank.TheVariants as rank
use Rattle.route_table.specs.declared.candidate.Candidate.{Candidate}
use Rattle.route_table.specs.declared.route.Route.{Route}
use Rattle.ipv6_reach.specs.declared.prefix6.Prefix6.{Prefix6}
use Rattle.ipv6_reach.specs.declared.rank6.Rank6.{Rank6}
use Rattle.ipv6_reach.specs.declared.rank6.Rank6.TheVariants.{Own, Up, Down}
use Rattle.ipv6_reach.specs.declared.candidate6.Candidate6.{Candidate6}
use Rattle.ipv6_reach.specs.declared.route6.Route6.{Route6}
use Rattle.ipv6_reach.specs.Routes6.{prefix6_number}

-- each prefix comes before those behind it
pub record AreNames (names : List Prefix6) : Type 0 where
  pub below : (i j : ℕ) (d : Prefix6) → i < j → j < length names
      → prefix6_number (slice_index_or names i d) < prefix6_number (slice_index_or names j d)

-- no candidate comes before one that stands before it
pub record AreInOrder6 (candidates : List Candidate6) : Type 0 where
  pub order : (i j : ℕ) (d : Candidate6) → i < j → j < length candidates
      → prefix6_number (slice_index_or candidates i d).prefix
      ≤ prefix6_number (slice_index_or candidates j d).prefix

-- no prefix of the list comes behind this one
pub record AreUpTo (names : List Prefix6) (prefix : Prefix6) : Type 0 where
  pub each : (i : ℕ) (d : Prefix6) → i < length names
      → prefix6_number (slice_index_or names i d) ≤ prefix6_number prefix

-- the rank that stands for one
abbrev pub rank_for : Rank6 → Rank
rank_for Own = rank.Own
rank_for Up = rank.One
rank_for Down = rank.OneDown

-- a prefix is at a place
pub record IsAt (names : List Prefix6) (place : ℕ) (prefix : Prefix6) : Type 0 where
  pub within : place < length names
  pub is : (d : Prefix6) → prefix6_number (slice_index_or names place d) ≡ prefix6_number prefix

-- an IPv4 prefix stands for one: its address is the place, and all are of one length
pub record StandsFor (names : List Prefix6) (prefix : Prefix6) (stand : Prefix) : Type 0 where
  pub at : IsAt names stand.address prefix
  pub long : stand.length ≡ 32

-- a prefix is the last of a list
pub record IsLast (names : List Prefix6) (prefix : Prefix6) : Type 0 where
  pub some : 0 < length names
  pub is : (d : Prefix6) → prefix6_number (slice_index_or names (length names - 1) d) ≡ prefix6_number prefix

-- a list has a further end
abbrev pub IsGrown : List Prefix6 → List Prefix6 → Type 0
IsGrown old new = (more : List Prefix6) × (new ≡ old ++ more)

-- a candidate stands for one
pub record IsNumbered (names : List Prefix6) (candidate : Candidate6) (stand : Candidate) : Type 0 where
  pub prefix : StandsFor names candidate.prefix stand.prefix
  pub rank : stand.rank ≡ rank_for candidate.rank
  pub cost : stand.cost ≡ candidate.cost
  pub origin : stand.origin ≡ candidate.origin

-- candidates stand for others, one for one
abbrev pub AreNumbered : List Prefix6 → List Candidate6 → List Candidate → Type 0
AreNumbered names [] [] = Unit {0}
AreNumbered names [] (stand ∷ stands) = ⊥
AreNumbered names (c ∷ candidates) [] = ⊥
AreNumbered names (c ∷ candidates) (stand ∷ stands) =
    IsNumbered names c stand × AreNumbered names candidates stands

-- a rank stands for one
abbrev pub IsStand : Rank → Type 0
IsStand rank.Own = Unit {0}
IsStand rank.One = Unit {0}
IsStand rank.Two = ⊥
IsStand rank.OneDown = Unit {0}
IsStand rank.Default = ⊥

-- a route stands for one
pub record HasName (names : List Prefix6) (route : Route) : Type 0 where
  pub within : route.prefix.address < length names
  pub long : route.prefix.length ≡ 32
  pub rank : IsStand route.rank

-- a route is that which one stands for
pub record IsNamed (names : List Prefix6) (route : Route) (named : Route6) : Type 0 where
  pub prefix : StandsFor names named.prefix route.prefix
  pub rank : route.rank ≡ rank_for named.rank
  pub cost : named.cost ≡ route.cost
  pub hops : named.hops ≡ route.hops

-- routes are those which others stand for, one for one
abbrev pub AreNamed : List Prefix6 → List Route → List Route6 → Type 0
AreNamed names [] [] = Unit {0}
AreNamed names [] (n ∷ named) = ⊥
AreNamed names (route ∷ routes) [] = ⊥
AreNamed names (route ∷ routes) (n ∷ named) = IsNamed names route n × AreNamed names routes named
