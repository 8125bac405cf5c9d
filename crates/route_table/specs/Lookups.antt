-- Which prefixes have an address, and which is the longest of them (own).

use Rattle.std.specs.Prelude.{◌≡◌, ℕ, ◌≤◌, ◌+◌, ◌*◌, ◌-◌, ◌/◌, ◌^◌, List}
use Rattle.std.specs.List.{Contains}
use Rattle.isis_base.specs.declared.prefix.Prefix.{Prefix}
use Rattle.route_table.specs.declared.route.Route.{Route}

-- the prefix has the address: both begin with the same bits, as many as the prefix is long (RFC 4632 3.1)
abbrev pub Has : Prefix → ℕ → Type 0
Has prefix address = address / 2 ^ (32 - prefix.length) ≡ prefix.address / 2 ^ (32 - prefix.length)

-- the route's prefix has the address, and no longer one of the table does (RFC 1812 5.2.4.3)
pub record IsLongest (routes : List Route) (address : ℕ) (route : Route) : Type 0 where
  pub listed : Contains routes route
  pub has : Has route.prefix address
  pub longest : (other : Route) → Contains routes other → Has other.prefix address
      → other.prefix.length ≤ route.prefix.length

-- no prefix of the table has the address (RFC 1812 5.2.4.3)
abbrev pub HasNone : List Route → ℕ → Type 0
HasNone routes address = (route : Route) → Contains routes route → Has route.prefix address → ⊥

-- the number of the prefix that has the address and leaves so many of its last bits open (own)
abbrev pub cut_number : ℕ → ℕ → ℕ
cut_number address rest = address / 2 ^ rest * 2 ^ rest * 64 + (32 - rest)
