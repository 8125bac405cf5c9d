-- How a network of routers lies in memory (own).
use Rattle.std.specs.Prelude.{◌≡◌, ℕ, ◌≤◌, ◌<◌, true, false, List, [], map, length, unwrap_or, Some, None}
use Rattle.std.specs.List.{AllByRecursion}
use Rattle.model_router.specs.Places.{nth}
use Rattle.model_router.specs.Routers.{Router}
use Rattle.model_router.specs.Numbers.{system_id, system_number}
use Rattle.router_desk.specs.declared.config.Config.{Config}
use Rattle.router_desk.specs.Limits.{IsValid}
use Rattle.router_core.specs.Reached.{IsReached}
use Rattle.model_network.specs.declared.end.End.{End}
use Rattle.model_network.specs.Networks.{place_in}
use Rattle.model_network.specs.RunLines.{by_router, link_of}
use Rattle.network_lab.specs.declared.network.Network.TheInside.{Inside}
use Rattle.network_lab.specs.LabNets.{Seen, LabNet, nothing_noted, router_of, AreDistinct, systems_of}
use Rattle.network_lab.specs.Reached.{AreSmall, HasRun}

-- what is seen of the fields
abbrev pub seen_in : {K : Type 0} → Inside K → Seen
seen_in a = record {
  routers = a.routers.items;
  links = a.links.items;
  sent = a.sent.items;
  injected = a.injected;
  noted = a.notes;
}

-- the network that the fields stand for
abbrev pub lab_of : {K : Type 0} → Inside K → LabNet
lab_of a = record {
  configs = a.configs.items;
  seen = seen_in a;
  begun = a.begun;
  stopped = a.stopped;
}

-- how many circuits each router has
abbrev pub counts_of : List Router → List ℕ
counts_of routers = map (λ (r : Router). length r.circuits) routers

-- a router's system and how many circuits it has, neither of which changes in a run
abbrev pub shape_of : Router → ℕ × ℕ
shape_of r = (r.config.system, length r.circuits)

abbrev pub shapes_of : List Router → List (ℕ × ℕ)
shapes_of routers = map shape_of routers

-- an end's place is one of its router's circuits, of which there are so many
abbrev pub IsEndThere : List ℕ → End → Type 0
IsEndThere counts e = e.place < unwrap_or (nth counts e.router) 0

-- own
abbrev pub AreEndsThere : List ℕ → List End → Type 0
AreEndsThere counts ends = AllByRecursion (IsEndThere counts) ends

-- each router's list has the links of its circuits, by their places
pub record ArePorts (ports : List (List ℕ)) (links : List (List End)) : Type 0 where
  pub each : (router : ℕ) (list : List ℕ) → nth ports router ≡ Some list
      → (place : ℕ) → link_of router place 0 links ≡ nth list place

-- the ends are of different routers
abbrev pub AreApart : List End → Type 0
AreApart ends = AreDistinct (map (λ (e : End). e.router) ends)

-- a router's place belongs to one link
pub record AreWired (links : List (List End)) : Type 0 where
  pub once : (link other router place : ℕ) → place_in (nth links link) router ≡ Some place
      → place_in (nth links other) router ≡ Some place → link ≡ other

-- a configuration whose router can be reached, and whose system ID is that of its number
pub record IsFit (config : Config) : Type 0 where
  pub valid : IsValid config
  pub system : system_id (system_number config.system) ≡ config.system
  pub reached : IsReached (router_of config)

-- before an event the routers are at their start, of such configurations, and nothing was sent
pub record IsSetUp (configs : List Config) (seen : Seen) : Type 0 where
  pub fit : AllByRecursion IsFit configs
  pub routers : seen.routers ≡ map router_of configs
  pub nothing : seen.sent ≡ []
  pub none : seen.injected ≡ 0
  pub unnoted : seen.noted ≡ nothing_noted

-- Routers, configurations and links have the same circuits, and no two routers one system; a link joins
-- different routers, and the ends of each are at hand in order of their routers too; not too much was
-- sent; and in a run that wasn't stopped, where nothing was injected, it is seen as a network in its run.
pub record IsNet (ports : List (List ℕ)) (ordered : List (List End)) (net : LabNet) : Type 0 where
  pub routers : counts_of net.seen.routers ≡ map length ports
  pub configs : map (λ (c : Config). length c.circuits) net.configs ≡ map length ports
  pub systems : AreDistinct (systems_of net.seen.routers)
  pub ends : AllByRecursion (AreEndsThere (map length ports)) net.seen.links
  pub ported : ArePorts ports net.seen.links
  pub sorted : ordered ≡ map by_router net.seen.links
  pub wired : AreWired net.seen.links
  pub apart : AllByRecursion AreApart net.seen.links
  pub few : length net.seen.sent ≤ 262144
  pub small : AreSmall net.seen.sent
  pub setup : net.begun ≡ false → IsSetUp net.configs net.seen
  pub run : net.begun ≡ true → net.stopped ≡ None → net.seen.injected ≡ 0 → HasRun net.seen

abbrev pub IsSoundLab : {K : Type 0} → Inside K → Type 0
IsSoundLab a = IsNet a.ports.items a.ordered.items (lab_of a)
