-- A document and what it says, and documents that are refused (own).
use Rattle.std.specs.Prelude.{ℕ, false, List, [], ◌∷◌, ◌++◌, Some, None, codes, refl}
use Rattle.std.proofs.lemmas.Bool.{leb-true, eqb-true}
use Rattle.isis_base.specs.declared.level.CircuitKind.TheVariants.{PointToPoint, Lan}
use Rattle.isis_base.specs.declared.level.LevelSet.TheVariants.{One}
use Rattle.isis_base.specs.declared.prefix.Prefix.{Prefix}
use Rattle.router_desk.specs.declared.circuit_config.CircuitConfig.{CircuitConfig}
use Rattle.daemon_edge.specs.declared.place.Address.{Address}
use Rattle.daemon_edge.specs.declared.place.CircuitPlace.{CircuitPlace}
use Rattle.daemon_config.specs.declared.fault.ConfigKey.{ConfigKey}
use Rattle.daemon_config.specs.declared.fault.ConfigKey.TheVariants as field
use Rattle.daemon_config.specs.declared.fault.ConfigKind.{ConfigKind}
use Rattle.daemon_config.specs.declared.fault.ConfigKind.TheVariants as why
use Rattle.daemon_config.specs.declared.settings.Settings.{Settings}

-- ---- a document

abbrev pub example_text : List ℕ
example_text =
    codes "system = \"0000.0000.0001\"\n"
    ++ codes "areas = [\"49.0001\"]\n"
    ++ codes "level = \"L1\"\n"
    ++ codes "\n"
    ++ codes "[[circuit]]\n"
    ++ codes "kind = \"p2p\"\n"
    ++ codes "bind = \"127.0.0.1:7001\"\n"
    ++ codes "peers = [\"127.0.0.1:7002\"]\n"
    ++ codes "\n"
    ++ codes "[[circuit]]\n"
    ++ codes "kind = \"lan\"\n"
    ++ codes "bind = \"127.0.0.1:7003\"\n"
    ++ codes "peers = [\"127.0.0.1:7004\", \"127.0.0.1:7005\"]\n"
    ++ codes "metric = 20\n"
    ++ codes "key = \"736563726574\"\n"
    ++ codes "\n"
    ++ codes "[[prefix]]\n"
    ++ codes "prefix = \"10.0.1.0/24\"\n"
    ++ codes "metric = 5\n"

-- an address on this machine, 127.0.0.1
abbrev pub here : ℕ → Address
here port = record { host = 2130706433; port = port }

abbrev pub example_circuits : List CircuitConfig
example_circuits =
    record { kind = PointToPoint; metric = 10; priority = 64; address = None; key = None }
    ∷ record { kind = Lan; metric = 20; priority = 64; address = None; key = Some (codes "secret") }
    ∷ []

abbrev pub example_places : List CircuitPlace
example_places =
    record { bind = here 7001; peers = here 7002 ∷ []; native = false }
    ∷ record { bind = here 7003; peers = here 7004 ∷ here 7005 ∷ []; native = false }
    ∷ []

-- 10.0.1.0/24
abbrev pub example_prefix : Prefix
example_prefix = record {
  address = 167772416;
  length = 24;
  fits = leb-true 24 32 refl;
  clear = eqb-true 0 0 refl;
}

-- what the document says
abbrev pub example_settings : Settings
example_settings = record {
  config = record {
    system = record { 0 = 0 ∷ 0 ∷ 0 ∷ 0 ∷ 0 ∷ 1 ∷ [] };
    areas = (73 ∷ 0 ∷ 1 ∷ []) ∷ [];
    levels = One;
    leak = false;
    overload = false;
    circuits = example_circuits;
    prefixes = (example_prefix, 5) ∷ [];
    area_key = None;
    domain_key = None;
  };
  places = example_places;
}

-- ---- refusals

-- a document, and its first refusal
pub record Refusal : Type 0 where
  pub text : List ℕ
  pub kind : ConfigKind
  pub key : ConfigKey

-- what further keys stand behind
abbrev pub good_system : List ℕ
good_system = codes "system = \"0000.0000.0001\"\n"

abbrev pub good_top : List ℕ
good_top = good_system ++ codes "areas = [\"49\"]\nlevel = \"L1\"\n"

abbrev pub good_circuit : List ℕ
good_circuit =
    codes "[[circuit]]\nkind = \"p2p\"\nbind = \"127.0.0.1:1\"\npeers = [\"127.0.0.1:2\"]\n"

abbrev pub good_circuits : List ℕ
good_circuits = good_top ++ good_circuit

abbrev pub good_prefix : List ℕ
good_prefix = codes "[[prefix]]\nprefix = \"10.0.0.0/8\"\n"

abbrev pub refusal : List ℕ → ConfigKind → ConfigKey → Refusal
refusal text kind key = record { text = text; kind = kind; key = key }

-- one or two of each kind
abbrev pub refusals : List Refusal
refusals =
    refusal (codes "=") why.Text field.Document
    ∷ refusal (codes "x = 1\n") why.Unknown field.Top
    ∷ refusal (codes "[[circuit]]\nx = 1\n") why.Unknown field.Circuit
    ∷ refusal (codes "[[prefix]]\nx = 1\n") why.Unknown field.Prefix
    ∷ refusal [] why.Missing field.System
    ∷ refusal (codes "system = 1\n") why.Kind field.System
    ∷ refusal (codes "system = \"1\"\n") why.Value field.System
    ∷ refusal (good_system ++ codes "areas = [\"x\", 1]\n") why.Kind field.Areas
    ∷ refusal (good_system ++ codes "areas = []\n") why.Value field.Areas
    ∷ refusal (good_top ++ codes "leak = 1\n") why.Kind field.Leak
    ∷ refusal (good_top ++ codes "area_key = \"0\"\n") why.Value field.AreaKey
    ∷ refusal good_top why.Missing field.Circuit
    ∷ refusal (good_top ++ codes "circuit = []\n") why.Value field.Circuit
    ∷ refusal (good_circuits ++ codes "priority = 128\n") why.Value field.Priority
    ∷ refusal (good_circuits ++ good_prefix ++ codes "metric = -1\n") why.Value field.PrefixMetric
    ∷ refusal (good_circuits ++ good_prefix ++ good_prefix ++ codes "metric = \"\"\n")
    why.Value field.Prefix
    ∷ refusal (good_circuits ++ codes "address = \"10.0.0.01\"\n")
    why.Value field.Address
    ∷ []
