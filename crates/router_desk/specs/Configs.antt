-- What a configuration stands for: the model's configuration and circuits (own).
use Rattle.std.specs.Prelude.{ℕ, List, [], ◌∷◌, map, None}
use Rattle.isis_base.specs.declared.prefix.Prefix.{Prefix}
use Rattle.isis_base.specs.Prefixes.{prefix_number}
use Rattle.isis_tlv.specs.declared.three_way.Adj.TheVariants.{Down}
use Rattle.model_router.specs.Maps.{put}
use Rattle.model_router.specs.Configs as model
use Rattle.model_router.specs.Routers.{Circuit}
use Rattle.model_router.specs.Starts.{quiet}
use Rattle.model_router.specs.Numbers.{system_number}
use Rattle.model_router.specs.Both.{runs_of}
use Rattle.router_desk.specs.declared.circuit_config.CircuitConfig.{CircuitConfig}
use Rattle.router_desk.specs.declared.config.Config.{Config}
use Rattle.router_desk.specs.Desks.{is_lan}

-- prefixes with their metrics, in rising order
abbrev pub prefixes_of : List (Prefix × ℕ) → List (ℕ × ℕ)
prefixes_of [] = []
prefixes_of (own ∷ prefixes) = put (prefixes_of prefixes) (prefix_number own.0) own.1

abbrev pub config_of : Config → model.Config
config_of config = record {
  system = system_number config.system;
  areas = config.areas;
  runs = runs_of config.levels;
  leak = config.leak;
  overload = config.overload;
  prefixes = prefixes_of config.prefixes;
  keys = record { one = config.area_key; two = config.domain_key };
}

-- a circuit on which nothing was heard
abbrev pub circuit_of : CircuitConfig → Circuit
circuit_of c = record {
  lan = is_lan c.kind;
  metric = c.metric;
  priority = c.priority;
  address = c.address;
  key = c.key;
  point = record { state = Down; neighbour = None };
  levels = record { one = quiet; two = quiet };
  hello = 0;
  boots = [];
}

abbrev pub circuits_of : Config → List Circuit
circuits_of config = map circuit_of config.circuits
