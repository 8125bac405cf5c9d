-- What a lab script says, with its routers, links and circuits numbered (own).
use Rattle.std.specs.Prelude.{ℕ, ◌==◌, Bool, List, [], ◌∷◌, ◌++◌, map, Option, Some, None, option_and_then, if◌then◌else◌}
use Rattle.std.specs.List.{count_by, list_any, slice_get}
use Rattle.std.specs.Str.{bytes_eq}
use Rattle.isis_base.specs.declared.identifiers.SystemId.{SystemId}
use Rattle.isis_base.specs.declared.level.CircuitKind.{CircuitKind}
use Rattle.lab_script.specs.declared.setup.End.{End}
use Rattle.lab_script.specs.declared.setup.LabRouter.{LabRouter}
use Rattle.lab_script.specs.declared.setup.LabLink.{LabLink}
use Rattle.lab_script.specs.declared.setup.LabKey.{LabKey}
use Rattle.lab_script.specs.declared.deeds.LabLine.{LabLine}

-- routers and links are numbered from 0 in this order; the lines are those of events, in order
pub record LabScript : Type 0 where
  pub routers : List LabRouter
  pub links : List LabLink
  pub keys : List LabKey
  pub lines : List LabLine

abbrev pub nothing_laid : LabScript
nothing_laid = record { routers = []; links = []; keys = []; lines = [] }

-- one more event line behind all others
abbrev pub with_last : LabScript → LabLine → LabScript
with_last script line = record script { lines = script.lines ++ line ∷ [] }

abbrev pub router_names : List LabRouter → List (List ℕ)
router_names routers = map (λ router. router.name) routers

abbrev pub link_names : List LabLink → List (List ℕ)
link_names links = map (λ link. link.name) links

-- some router has this system ID
abbrev pub has_system : List LabRouter → SystemId → Bool
has_system routers system = list_any (λ router. bytes_eq router.system.0 system.0) routers

-- the routers of ends
abbrev pub end_routers : List End → List ℕ
end_routers ends = map (λ e. e.router) ends

-- whether a router is one of these ends
abbrev pub is_among : List End → ℕ → Bool
is_among ends router = list_any (λ e. e.router == router) ends

-- whether a router is an end of a link
abbrev pub is_end : LabLink → ℕ → Bool
is_end link router = is_among link.ends router

-- how many circuits a router has on these links, one on each that it is an end of
abbrev pub circuit_count : List LabLink → ℕ → ℕ
circuit_count links router = count_by (λ link. is_end link router) links

-- the place of a router's circuit among ends
abbrev pub place_among : List End → ℕ → Option ℕ
place_among [] router = None
place_among (e ∷ ends) router = if e.router == router then Some e.place else place_among ends router

-- the place of a router's circuit on a link; none where it isn't an end
abbrev pub place_on : LabLink → ℕ → Option ℕ
place_on link router = place_among link.ends router

-- the place of a router's circuit on the link of this number
abbrev pub place_at : List LabLink → ℕ → ℕ → Option ℕ
place_at links link router = option_and_then (λ l. place_on l router) (slice_get links link)

-- an end at each of these routers, by its next circuit
abbrev pub next_ends : List LabLink → List ℕ → List End
next_ends links routers =
    map (λ router. record { router = router; place = circuit_count links router }) routers

-- a link of this kind between routers, each by its next circuit
abbrev pub link_between : List LabLink → List ℕ → CircuitKind → List ℕ → ℕ → LabLink
link_between links name kind routers metric =
    record { name = name; kind = kind; ends = next_ends links routers; metric = metric }
