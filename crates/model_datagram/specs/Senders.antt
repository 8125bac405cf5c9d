-- What of a sender and of what it sends in hellos and SNPs is needed for it to read back (own).
use Rattle.std.specs.Prelude.{◌≡◌, ℕ, ◌^◌, ◌<◌, ◌≤◌, true, ◌||◌, List, length, Option, IfSome}
use Rattle.std.specs.List.{AllByRecursion}
use Rattle.isis_tlv.specs.Fits.{IsArea}
use Rattle.isis_tlv.specs.Spelling.{area_value}
use Rattle.model_router.specs.Configs.{Config}

-- a sender: a system ID of six octets, some level, and areas that fit one TLV (own)
pub record IsSender (config : Config) : Type 0 where
  pub system : config.system < 2 ^ 48
  pub some : (config.runs.one || config.runs.two) ≡ true
  pub areas : AllByRecursion IsArea config.areas
  pub fits : length (area_value config.areas) ≤ 255

-- a hello's three-way TLV (RFC 5303 3.1)
pub record IsHandshake (extended : ℕ) (named : Option (ℕ × ℕ)) : Type 0 where
  pub own : extended < 2 ^ 32
  pub other : IfSome named (λ name. (name.0 < 2 ^ 48) × (name.1 < 2 ^ 32))

-- a LAN hello's priority, LAN ID and SNPAs (ISO 10589 9.5), at most 200 (own)
pub record IsLanHello (priority lan : ℕ) (snpas : List ℕ) : Type 0 where
  pub seven_bits : priority ≤ 127
  pub seven_octets : lan < 2 ^ 56
  pub each : AllByRecursion (λ snpa. snpa < 2 ^ 48) snpas
  pub count : length snpas ≤ 200
