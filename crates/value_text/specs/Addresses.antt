-- IPv4 addresses, the value of code 132 (RFC 1195 5.3).
use Rattle.std.specs.Prelude.{ℕ, List, Option, Result}
use Rattle.isis_base.specs.Fields.{u32_at}
use Rattle.isis_tlv.specs.declared.fault.ValueFault.{ValueFault}
use Rattle.isis_tlv.specs.Items.{item_of_size, values_of}
use Rattle.value_text.specs.declared.address.Address.{Address}

-- four octets
abbrev pub address_at : List ℕ → Option (Address × ℕ)
address_at octets = item_of_size 4 octets (record { number = u32_at 0 octets })

-- what a value of code 132 reads as
abbrev pub addresses_of : List ℕ → List (Result Address ValueFault)
addresses_of value = values_of address_at 0 value
