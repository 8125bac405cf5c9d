-- The words of a refusal, the names of keys in tables, and the keys that each kind of table may
-- have (own).
use Rattle.std.specs.Prelude.{ℕ, List, [], ◌∷◌, ◌++◌, codes}
use Rattle.daemon_config.specs.declared.fault.ConfigKind.{ConfigKind}
use Rattle.daemon_config.specs.declared.fault.ConfigKind.TheVariants as why
use Rattle.daemon_config.specs.declared.fault.ConfigKey.{ConfigKey}
use Rattle.daemon_config.specs.declared.fault.ConfigKey.TheVariants as field
use Rattle.daemon_config.specs.declared.fault.ConfigFault.{ConfigFault}
use Rattle.daemon_config.specs.declared.fault.ConfigFault.TheVariants.{Refused, OutOfMemory}

-- why a document is refused (own)
abbrev pub kind_word : ConfigKind → List ℕ
kind_word why.Text = codes "text"
kind_word why.Unknown = codes "unknown"
kind_word why.Missing = codes "missing"
kind_word why.Kind = codes "kind"
kind_word why.Value = codes "value"

-- where it is refused (own)
abbrev pub key_word : ConfigKey → List ℕ
key_word field.Document = codes "-"
key_word field.Top = codes "top"
key_word field.Circuit = codes "circuit"
key_word field.Prefix = codes "prefix"
key_word field.System = codes "system"
key_word field.Areas = codes "areas"
key_word field.Level = codes "level"
key_word field.Leak = codes "leak"
key_word field.Overload = codes "overload"
key_word field.AreaKey = codes "area_key"
key_word field.DomainKey = codes "domain_key"
key_word field.Kind = codes "kind"
key_word field.Bind = codes "bind"
key_word field.Peers = codes "peers"
key_word field.Metric = codes "metric"
key_word field.Priority = codes "priority"
key_word field.Address = codes "address"
key_word field.Key = codes "key"
key_word field.Native = codes "native"
key_word field.PrefixMetric = codes "prefix-metric"

-- what stands behind `config` where a configuration is refused, as missing system (own)
abbrev pub fault_text : ConfigFault → List ℕ
fault_text (Refused kind key) = kind_word kind ++ codes " " ++ key_word key
fault_text OutOfMemory = codes "out of memory"

-- the name by which a table has a key: its word, but that the metric of a prefix is named as that
-- of a circuit is (own)
abbrev pub member_name : ConfigKey → List ℕ
member_name field.PrefixMetric = codes "metric"
member_name key = key_word key

-- the keys of a document, of a circuit and of a prefix (own)
abbrev pub top_keys : List ConfigKey
top_keys =
    field.System ∷ field.Areas ∷ field.Level ∷ field.Leak ∷ field.Overload
    ∷ field.AreaKey ∷ field.DomainKey ∷ field.Circuit ∷ field.Prefix ∷ []

abbrev pub circuit_keys : List ConfigKey
circuit_keys =
    field.Kind ∷ field.Bind ∷ field.Peers ∷ field.Metric ∷ field.Priority ∷ field.Address
    ∷ field.Key ∷ field.Native ∷ []

abbrev pub prefix_keys : List ConfigKey
prefix_keys = field.Prefix ∷ field.PrefixMetric ∷ []
