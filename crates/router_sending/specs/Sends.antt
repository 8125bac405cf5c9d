-- Who sends on which circuit, as the router's model has both.
use Rattle.std.specs.Prelude.{◌≡◌, ℕ, ◌+◌, ◌≤◌, length, map, List, Option}
use Rattle.std.specs.Option.{option_map, option_copied}
use Rattle.isis_base.specs.declared.identifiers.SystemId.{SystemId}
use Rattle.isis_tlv.specs.Spelling.{area_value}
use Rattle.model_router.specs.Configs.{Config}
use Rattle.model_router.specs.Routers.{Circuit}
use Rattle.model_router.specs.Numbers.{system_number, snpa_number}
use Rattle.model_router.specs.Both.{runs_of}
use Rattle.adjacency.specs.declared.neighbour.Neighbour.{Neighbour}
use Rattle.router_sending.specs.declared.sender.Sender.{Sender}

-- the sender is the router of this configuration in this boot, on this circuit, whose number is its
-- place and 1 (own)
pub record Sends (sender : Sender) (config : Config) (present place : ℕ) (c : Circuit) : Type 0 where
  pub system : config.system ≡ system_number sender.system
  pub boot : present ≡ sender.boot
  pub runs : config.runs ≡ runs_of sender.levels
  pub areas : config.areas ≡ sender.areas.now
  pub area_key : config.keys.one ≡ option_copied sender.area_key
  pub domain_key : config.keys.two ≡ option_copied sender.domain_key
  pub circuit : place + 1 ≡ sender.circuit
  pub priority : c.priority ≡ sender.priority
  pub address : c.address ≡ sender.address
  pub key : c.key ≡ option_copied sender.key

-- the areas fit one TLV (ISO 10589 9.5)
abbrev pub FitAreas : Sender → Type 0
FitAreas sender = length (area_value sender.areas.now) ≤ 255

-- a neighbour's system and extended circuit ID, where it has one (RFC 5303 3.1)
abbrev pub names_of : Option (SystemId × ℕ) → Option (ℕ × ℕ)
names_of neighbour = option_map (λ (n : SystemId × ℕ). (system_number n.0, n.1)) neighbour

-- the SNPAs of neighbours (ISO 10589 9.5)
abbrev pub snpas_of : List Neighbour → List ℕ
snpas_of neighbours = map (λ (n : Neighbour). snpa_number n.snpa) neighbours
