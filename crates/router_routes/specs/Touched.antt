-- The prefixes whose routes are looked at anew once some nodes moved. All of it own.
use Rattle.std.specs.Prelude.{◌≡◌, ◌↔◌, ℕ, ◌⊎◌, ◌++◌, true, false, List, filter}
use Rattle.std.specs.List.{Contains}
use Rattle.std.specs.List.Sorted.{IsStrictlyIncreasing}
use Rattle.isis_base.specs.declared.identifiers.NodeId.{NodeId}
use Rattle.isis_base.specs.declared.prefix.Prefix.{Prefix}
use Rattle.spf_tree.specs.Nodes.{node_number}
use Rattle.route_table.specs.declared.candidate.Candidate.{Candidate}
use Rattle.route_table.specs.Patches.{IsListed, is_moved}
use Rattle.router_routes.specs.declared.coming.LevelsAfter.{LevelsAfter}
use Rattle.router_routes.specs.declared.coming.ReachedAfter.{ReachedAfter}
use Rattle.router_routes.specs.Outlooks.{Outlook}
use Rattle.router_routes.specs.Candidates.{ways_of}
use Rattle.router_routes.specs.Following.{FollowingOf}
use Rattle.router_routes.specs.Moved.{is_among}
use Rattle.router_routes.specs.Kept.{AreSame, stays}
use Rattle.router_routes.specs.Coming.{AreReachedAfter, hops_after}

-- ---- what stays

-- what systems tell by way of other nodes stays
pub record AreStill (nodes : List NodeId) (old new : Outlook) : Type 0 where
  pub root : new.root ≡ old.root
  pub told : (c : Candidate) → stays nodes c ≡ true
      → Contains (ways_of old) c ↔ Contains (ways_of new) c

-- these nodes told this and will tell that, and what others tell stays
pub record AreExchanged (nodes : List NodeId) (old new : Outlook) (went come : List Candidate) : Type 0 where
  pub before : AreSame (ways_of old) (filter (stays nodes) (ways_of old) ++ went)
  pub after : AreSame (filter (stays nodes) (ways_of old) ++ come) (ways_of new)

-- a node is none of those that moved, and its next hops stay in both levels
pub record IsStill (nodes : List NodeId) (f : FollowingOf) (levels : LevelsAfter) (n : ℕ) : Type 0 where
  pub beside : is_among nodes n ≡ false
  pub one : (hop : ℕ) → Contains f.hops.one (n, hop) ↔ Contains (hops_after levels.one f.hops.one) (n, hop)
  pub two : (hop : ℕ) → Contains f.hops.two (n, hop) ↔ Contains (hops_after levels.two f.hops.two) (n, hop)

-- numbers in order: of all nodes beside these whose next hops are others in a level
pub record AreApartBeside (nodes : List NodeId) (f : FollowingOf) (levels : LevelsAfter)
    (numbers : List ℕ) : Type 0 where
  pub rising : IsStrictlyIncreasing numbers
  pub still : (n : ℕ) → is_among nodes n ≡ false → is_moved numbers n ≡ false
      → IsStill nodes f levels n

-- ---- the prefixes that are looked at

-- the prefix of each candidate by way of these nodes is there
abbrev pub HaveBy : List NodeId → List Candidate → List Prefix → Type 0
HaveBy nodes candidates prefixes =
    (c : Candidate) → Contains candidates c → stays nodes c ≡ false → Contains prefixes c.prefix

-- this is reached once these nodes moved, and prefixes that they told and tell are there
pub record IsReachedAfter (nodes : List NodeId) (o p : Outlook) (f : FollowingOf) (reached : ReachedAfter) : Type 0 where
  pub right : AreReachedAfter p f reached
  pub before : HaveBy nodes (ways_of o) reached.prefixes.items
  pub after : HaveBy nodes (ways_of p) reached.prefixes.items

-- each of some own prefixes with its metric is among others too, or its prefix is there
abbrev pub AreOwnIn : List (Prefix × ℕ) → List (Prefix × ℕ) → List Prefix → Type 0
AreOwnIn some others prefixes =
    (own : Prefix × ℕ) → Contains some own → Contains others own ⊎ Contains prefixes own.0

-- each own prefix, old or new, is in both lists with its metric, or it is there
pub record HaveOwn (old new : List (Prefix × ℕ)) (prefixes : List Prefix) : Type 0 where
  pub before : AreOwnIn old new prefixes
  pub after : AreOwnIn new old prefixes

-- each candidate's prefix is there, or the node that it is by way of stays
abbrev pub HaveMoved : List NodeId → FollowingOf → LevelsAfter → List Candidate → List Prefix → Type 0
HaveMoved nodes f levels candidates prefixes = (c : Candidate) → Contains candidates c
    → Contains prefixes c.prefix ⊎ IsStill nodes f levels (node_number c.origin)

-- 0.0.0.0/0 is there, one's own prefixes that don't stay, and what moved nodes told and tell
pub record AreTouched (nodes : List NodeId) (o p : Outlook) (f : FollowingOf) (levels : LevelsAfter)
    (prefixes : List Prefix) : Type 0 where
  pub all : IsListed prefixes 0
  pub own : HaveOwn o.prefixes p.prefixes prefixes
  pub before : HaveMoved nodes f levels (ways_of o) prefixes
  pub after : HaveMoved nodes f levels (ways_of p) prefixes
