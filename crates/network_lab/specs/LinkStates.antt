-- How the links of a network stand, and which routers agree (own).
use Rattle.std.specs.Prelude.{◌≡◌, ℕ, ◌+◌, ◌≤◌, ◌==◌, Bool, true, false, ◌&&◌, List, [], ◌∷◌, ◌++◌, map, slice_index, Option, Some, None, if◌then◌else◌}
use Rattle.std.specs.List.{flat_map}
use Rattle.isis_base.specs.declared.level.Level.{Level}
use Rattle.model_router.specs.Both.{at}
use Rattle.model_router.specs.Places.{nth}
use Rattle.model_router.specs.Routers.{Router}
use Rattle.model_router.specs.AdjacencyLaws.{is_point}
use Rattle.model_network.specs.declared.end.End.{End}
use Rattle.lab_facts.specs.declared.state.LinkState.{LinkState}
use Rattle.lab_facts.specs.LinkStates.{state_of, no_state}
use Rattle.lab_facts.specs.Grouped.{groups_of}
use Rattle.network_lab.specs.LabNets.{Seen}
use Rattle.network_lab.specs.LanStates.{sweeper_at}

-- whether a router runs a level
abbrev pub runs_in : Option Router → Level → Bool
runs_in None level = false
runs_in (Some r) level = at r.config.runs level

abbrev pub runs_at : List Router → ℕ → Level → Bool
runs_at routers router level = runs_in (nth routers router) level

abbrev pub runs_of : List Router → Level → List Bool
runs_of routers level = map (λ r. at r.config.runs level) routers

-- ---- links

abbrev pub state_between : Option Router → ℕ → Option Router → ℕ → Level → LinkState
state_between None p b q level = no_state
state_between (Some a) p None q level = no_state
state_between (Some a) p (Some b) q level = state_of a p b q level

-- the two ends of a link, or of a LAN of two
abbrev pub pair_of : List End → Option (End × End)
pair_of [] = None
pair_of (e ∷ []) = None
pair_of (e ∷ f ∷ []) = Some (e, f)
pair_of (e ∷ f ∷ g ∷ ends) = None

-- whether a circuit is point-to-point and its router runs the level (ISO 10589 6.3)
abbrev pub is_point_in : Option Router → ℕ → Level → Bool
is_point_in None place level = false
is_point_in (Some r) place level = at r.config.runs level && is_point (nth r.circuits place)

abbrev pub are_points : List Router → Level → End × End → Bool
are_points routers level pair = is_point_in (nth routers pair.0.router) pair.0.place level
    && is_point_in (nth routers pair.1.router) pair.1.place level

-- own
abbrev pub state_of_ends : List Router → Level → End × End → LinkState
state_of_ends routers level pair =
    if are_points routers level pair
    then state_between (nth routers pair.0.router) pair.0.place (nth routers pair.1.router)
    pair.1.place level
    else no_state

-- a LAN of two is no link
abbrev pub state_of_pair : List Router → Level → Option (End × End) → LinkState
state_of_pair routers level None = no_state
state_of_pair routers level (Some pair) = state_of_ends routers level pair

-- how the two ends of a link stand
abbrev pub state_at : List Router → List End → Level → LinkState
state_at routers ends level = state_of_pair routers level (pair_of ends)

-- where a link is up, no end is ahead in more LSP IDs than its SRM flags on the link
abbrev pub IsWithin : LinkState → Type 0
IsWithin state = state.up ≡ true → (slice_index state.ahead 0 ≤ slice_index state.flags 0)
    × (slice_index state.ahead 1 ≤ slice_index state.flags 1)

-- so of each link and level, where nothing was injected
abbrev pub AreWithin : Seen → Type 0
AreWithin s = s.injected ≡ 0 → (link : ℕ) (ends : List End) (level : Level)
    → nth s.links link ≡ Some ends → IsWithin (state_at s.routers ends level)

-- a link is up, and no SRM flag stands on it
abbrev pub is_clean : LinkState → Bool
is_clean state = state.up && slice_index state.flags 0 == 0 && slice_index state.flags 1 == 0

abbrev pub joined_pair : List Router → Level → Option (End × End) → Option (ℕ × ℕ)
joined_pair routers level None = None
joined_pair routers level (Some pair) =
    if is_clean (state_of_pair routers level (Some pair))
    then Some (pair.0.router, pair.1.router) else None

abbrev pub listed : Option (ℕ × ℕ) → List (ℕ × ℕ)
listed None = []
listed (Some pair) = pair ∷ []

-- the two routers that a link joins at a level
abbrev pub joined_by : List Router → Level → List End → List (ℕ × ℕ)
joined_by routers level ends = listed (joined_pair routers level (pair_of ends))

-- ---- LANs

-- own
abbrev pub with_sweeper : ℕ → Option ℕ → Option (ℕ × ℕ)
with_sweeper member None = None
with_sweeper member (Some other) = Some (member, other)

-- a member of a LAN, with the end by which it is swept at a level
abbrev pub swept_pair : Seen → ℕ → Level → End → List (ℕ × ℕ)
swept_pair s link level e = listed (with_sweeper e.router (sweeper_at s link e.router level))

-- ---- groups

-- the pairs of routers that a link or LAN joins at a level
abbrev pub pairs_on : Seen → Level → ℕ → List End → List (ℕ × ℕ)
pairs_on s level link ends =
    joined_by s.routers level ends ++ flat_map (swept_pair s link level) ends

-- so of these links and LANs, of which the first has this number
abbrev pub pairs_from : Seen → Level → ℕ → List (List End) → List (ℕ × ℕ)
pairs_from s level link [] = []
pairs_from s level link (ends ∷ links) =
    pairs_on s level link ends ++ pairs_from s level (link + 1) links

-- the pairs of routers that clean links join, and those of a swept member and the end that sweeps it
abbrev pub pairs_of : Seen → Level → List (ℕ × ℕ)
pairs_of s level = pairs_from s level 0 s.links

-- the groups of the routers that run a level, which its clean links and its sweeps join
abbrev pub groups_at : Seen → Level → List (List ℕ)
groups_at s level = groups_of (runs_of s.routers level) (pairs_of s level)
