-- What becomes of the routers that a link or LAN joins, as it is made ready and put in (own).
use Rattle.std.specs.Prelude.{◌≡◌, ℕ, ◌<◌, List, [], ◌∷◌, ◌++◌, length, Some}
use Rattle.model_router.specs.Places.{nth, with_nth}
use Rattle.model_router.specs.Routers.{Router}
use Rattle.router_desk.specs.declared.circuit_config.CircuitConfig.{CircuitConfig}
use Rattle.router_desk.specs.declared.config.Config.{Config}
use Rattle.router_core.specs.Reached.{IsReached}
use Rattle.network_lab.specs.declared.joining.Joined.{Joined}
use Rattle.network_lab.specs.LabNets.{router_of, with_circuit}

-- a router's configuration and router with this circuit more, and its ports with this link more
pub record IsJoined (configs : List Config) (ports : List (List ℕ)) (link : ℕ) (c : CircuitConfig)
    {K : Type 0} (j : Joined K) : Type 0 where
  pub config : Config
  pub list : List ℕ
  pub config_at : nth configs j.router ≡ Some config
  pub list_at : nth ports j.router ≡ Some list
  pub room : length config.circuits < 64
  pub config_is : j.setup.config ≡ with_circuit c config
  pub router_is : j.setup.router ≡ router_of (with_circuit c config)
  pub reached : IsReached j.setup.router
  pub ports_is : j.ports ≡ list ++ link ∷ []

-- one more stands at the end, of this router, of which this holds
pub record Adds {K : Type 0} (P : Joined K → Type 0) (number : ℕ) (old new : List (Joined K)) : Type 0 where
  pub joined : Joined K
  pub holds : P joined
  pub router : joined.router ≡ number
  pub added : new ≡ old ++ joined ∷ []

abbrev pub configs_with : {K : Type 0} → List (Joined K) → List Config → List Config
configs_with [] configs = configs
configs_with (j ∷ joined) configs =
    configs_with joined (with_nth configs j.router j.setup.config)

abbrev pub routers_with : {K : Type 0} → List (Joined K) → List Router → List Router
routers_with [] routers = routers
routers_with (j ∷ joined) routers =
    routers_with joined (with_nth routers j.router j.setup.router)

abbrev pub ports_with : {K : Type 0} → List (Joined K) → List (List ℕ) → List (List ℕ)
ports_with [] ports = ports
ports_with (j ∷ joined) ports = ports_with joined (with_nth ports j.router j.ports)
