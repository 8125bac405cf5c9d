-- The configuration that a document says, or its first refusal: first the names of all keys, then
-- the keys one after another, in their order (own).
use Rattle.std.specs.Prelude.{ℕ, ◌==◌, false, List, [], ◌∷◌, ◌++◌, map, Option, Some, None, Ok, if◌then◌else◌}
use Rattle.std.specs.List.{list_all, list_any}
use Rattle.toml.specs.Data.{Data, Members}
use Rattle.isis_base.specs.declared.level.CircuitKind.{CircuitKind}
use Rattle.isis_base.specs.declared.level.CircuitKind.TheVariants.{PointToPoint, Lan}
use Rattle.isis_base.specs.declared.prefix.Prefix.{Prefix}
use Rattle.isis_base.specs.AreaTexts.{area_of}
use Rattle.isis_base.specs.Levels.{levels_of}
use Rattle.isis_base.specs.Prefixes.{prefix_number}
use Rattle.router_desk.specs.Limits.{numbers_of}
use Rattle.daemon_config.specs.declared.fault.ConfigKey.{ConfigKey}
use Rattle.daemon_config.specs.declared.fault.ConfigKey.TheVariants as field
use Rattle.daemon_config.specs.declared.fault.ConfigKind.TheVariants as why
use Rattle.daemon_config.specs.declared.settings.Settings.{Settings}
use Rattle.daemon_config.specs.declared.settings.CircuitRead.{CircuitRead}
use Rattle.daemon_config.specs.declared.settings.CircuitsRead.{CircuitsRead}
use Rattle.daemon_config.specs.Words.{top_keys, circuit_keys, prefix_keys}
use Rattle.daemon_config.specs.Steps.{Reading, ◌>>=◌, or_refused, each}
use Rattle.daemon_config.specs.Documents.{document_in, list_at, tables_in, has_only}
use Rattle.daemon_config.specs.Fields.{system_of, prefix_of, circuit_kind_of, host_of, address_of, key_of}
use Rattle.daemon_config.specs.Shapes.{found, wanted, otherwise, perhaps, text, flag, number, texts, tables}

-- ---- the names of keys

-- the tables among the items of a list; none where there is no list
abbrev pub tables_of : Option (List Data) → List Members
tables_of None = []
tables_of (Some items) = tables_in items

-- the same of what stands at a key
abbrev pub tables_at : Option Data → List Members
tables_at None = []
tables_at (Some d) = tables_of (list_at d)

-- each of these tables has no other keys than it may
abbrev pub known : ConfigKey → List ConfigKey → List Members → Reading (Unit {0})
known key keys tables =
    or_refused why.Unknown key (if list_all (has_only keys) tables then Some tt else None)

-- all tables of a document have no other keys than they may
unfoldable pub all_known : Members → Reading (Unit {0})
all_known top = do
  _ ← known field.Top top_keys (top ∷ [])
  _ ← known field.Circuit circuit_keys (tables_at (found field.Circuit top))
  known field.Prefix prefix_keys (tables_at (found field.Prefix top))

-- ---- circuits

-- how many peers a circuit has at most (own)
abbrev pub most_peers : CircuitKind → ℕ
most_peers PointToPoint = 1
most_peers Lan = 63

-- the circuit of a table, and its place
unfoldable pub circuit_from : Members → Reading CircuitRead
circuit_from table = do
  kind ← wanted field.Kind (text circuit_kind_of) table
  bind ← wanted field.Bind (text address_of) table
  peers ← wanted field.Peers (texts 1 (most_peers kind) address_of) table
  metric ← otherwise 10 field.Metric (number 16777215) table
  priority ← otherwise 64 field.Priority (number 127) table
  address ← perhaps field.Address (text host_of) table
  key ← perhaps field.Key (text key_of) table
  native ← otherwise false field.Native flag table
  Ok (record {
    config = record {
      kind = kind;
      metric = metric;
      priority = priority;
      address = address;
      key = key;
    };
    place = record { bind = bind; peers = peers; native = native };
  })

-- the circuits of tables, and their places
unfoldable pub circuits_from : List Members → Reading CircuitsRead
circuits_from tables = do
  all ← each circuit_from tables
  Ok (record {
    circuits = map (λ (circuit : CircuitRead). circuit.config) all;
    places = map (λ (circuit : CircuitRead). circuit.place) all;
  })

-- the circuits of a document, and their places
unfoldable pub circuits_at : Members → Reading CircuitsRead
circuits_at top = do
  tables ← wanted field.Circuit (tables 1 64) top
  circuits_from tables

-- ---- prefixes

-- a prefix, where none of these is named so
abbrev pub unless_named : List (Prefix × ℕ) → Prefix → Option Prefix
unless_named before prefix =
    if list_any (λ n. n == prefix_number prefix) (numbers_of before) then None else Some prefix

-- the prefixes so far, and those of tables behind them, none of which is named as one before
unfoldable pub prefixes_after : List (Prefix × ℕ) → List Members → Reading (List (Prefix × ℕ))
prefixes_after before [] = Ok before
prefixes_after before (table ∷ tables) = do
  named ← wanted field.Prefix (text prefix_of) table
  prefix ← or_refused why.Value field.Prefix (unless_named before named)
  metric ← otherwise 10 field.PrefixMetric (number 4261412864) table
  prefixes_after (before ++ (prefix, metric) ∷ []) tables

-- the prefixes of a document
unfoldable pub prefixes_at : Members → Reading (List (Prefix × ℕ))
prefixes_at top = do
  tables ← otherwise [] field.Prefix (tables 0 4096) top
  prefixes_after [] tables

-- ---- the whole

-- the settings of a document
unfoldable pub settings_from : Members → Reading Settings
settings_from top = do
  system ← wanted field.System (text system_of) top
  areas ← wanted field.Areas (texts 1 3 area_of) top
  levels ← wanted field.Level (text levels_of) top
  leak ← otherwise false field.Leak flag top
  overload ← otherwise false field.Overload flag top
  area_key ← perhaps field.AreaKey (text key_of) top
  domain_key ← perhaps field.DomainKey (text key_of) top
  circuits ← circuits_at top
  prefixes ← prefixes_at top
  Ok (record {
    config = record {
      system = system;
      areas = areas;
      levels = levels;
      leak = leak;
      overload = overload;
      circuits = circuits.circuits;
      prefixes = prefixes;
      area_key = area_key;
      domain_key = domain_key;
    };
    places = circuits.places;
  })

-- the settings that octets say, or their first refusal
unfoldable pub config_of : List ℕ → Reading Settings
config_of octets = do
  document ← or_refused why.Text field.Document (document_in octets)
  _ ← all_known document
  settings_from document
