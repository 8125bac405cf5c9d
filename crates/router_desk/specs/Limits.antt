-- The limits of a configuration (own).
use Rattle.std.specs.Prelude.{ℕ, ◌≢◌, ◌≤◌, ◌==◌, nat_le, Bool, true, ◌&&◌, not, List, [], ◌∷◌, map, length, Option, Some, None, IfSome}
use Rattle.std.specs.List.{AllByRecursion, list_all, list_any}
use Rattle.isis_base.specs.declared.prefix.Prefix.{Prefix}
use Rattle.router_desk.specs.declared.circuit_config.CircuitConfig.{CircuitConfig}
use Rattle.router_desk.specs.declared.config.Config.{Config}
use Rattle.isis_base.specs.Prefixes.{prefix_number}

-- a key has 1 to 128 octets (own)
pub record IsKey (key : List ℕ) : Type 0 where
  pub some : 1 ≤ length key
  pub short : length key ≤ 128

-- a metric of 24 bits (RFC 5305 3), a priority of 7 bits (ISO 10589 9.5), and a key, if any
pub record IsCircuit (c : CircuitConfig) : Type 0 where
  pub metric : c.metric ≤ 16777215
  pub priority : c.priority ≤ 127
  pub key : IfSome c.key IsKey

-- the numbers of prefixes
abbrev pub numbers_of : List (Prefix × ℕ) → List ℕ
numbers_of prefixes = map (λ own. prefix_number own.0) prefixes

-- no number stands twice (own)
abbrev pub AreDistinct : List ℕ → Type 0
AreDistinct [] = Unit {0}
AreDistinct (n ∷ numbers) = AllByRecursion (λ other. other ≢ n) numbers × AreDistinct numbers

-- One to three areas (ISO 10589 7.1.5), at most 64 circuits (own), at most 4,096 prefixes (own), none
-- of them named twice (own), whose metrics aren't above the greatest of RFC 5305 4, and keys, if any.
pub record IsValid (config : Config) : Type 0 where
  pub some_area : 1 ≤ length config.areas
  pub areas : length config.areas ≤ 3
  pub few_circuits : length config.circuits ≤ 64
  pub circuits : AllByRecursion IsCircuit config.circuits
  pub few_prefixes : length config.prefixes ≤ 4096
  pub metrics : AllByRecursion (λ own. own.1 ≤ 4261412864) config.prefixes
  pub once : AreDistinct (numbers_of config.prefixes)
  pub area_key : IfSome config.area_key IsKey
  pub domain_key : IfSome config.domain_key IsKey

-- ---- the same as functions (own)

abbrev pub fits_key : Option (List ℕ) → Bool
fits_key None = true
fits_key (Some key) = nat_le 1 (length key) && nat_le (length key) 128

abbrev pub fits_circuit : CircuitConfig → Bool
fits_circuit c = nat_le c.metric 16777215 && nat_le c.priority 127 && fits_key c.key

abbrev pub fit_circuits : List CircuitConfig → Bool
fit_circuits circuits = list_all fits_circuit circuits

abbrev pub fits_prefix : Prefix × ℕ → Bool
fits_prefix own = nat_le own.1 4261412864

abbrev pub are_distinct : List ℕ → Bool
are_distinct [] = true
are_distinct (n ∷ numbers) = not (list_any (λ other. other == n) numbers) && are_distinct numbers

-- no two numbers beside each other are one (own)
abbrev pub are_apart : List ℕ → Bool
are_apart [] = true
are_apart (n ∷ []) = true
are_apart (n ∷ next ∷ numbers) = not (next == n) && are_apart (next ∷ numbers)

abbrev pub fit_metrics : List (Prefix × ℕ) → Bool
fit_metrics prefixes = list_all fits_prefix prefixes

abbrev pub fit_prefixes : List (Prefix × ℕ) → Bool
fit_prefixes prefixes =
    nat_le (length prefixes) 4096 && fit_metrics prefixes
    && are_distinct (numbers_of prefixes)

unfoldable pub is_valid : Config → Bool
is_valid config =
    nat_le 1 (length config.areas) && nat_le (length config.areas) 3
    && nat_le (length config.circuits) 64 && fit_circuits config.circuits
    && fit_prefixes config.prefixes
    && fits_key config.area_key && fits_key config.domain_key
