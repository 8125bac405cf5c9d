-- What a field of the standard's size holds.
use Rattle.std.specs.Prelude.{◌≡◌, ℕ, ◌^◌, ◌<◌, ◌≤◌, List, length, IfSome, IsSome}
use Rattle.isis_base.specs.declared.identifiers.Snpa.{Snpa}
use Rattle.isis_base.specs.declared.entry.LspEntry.{LspEntry}
use Rattle.isis_tlv.specs.declared.neighbour.NeighbourItem.{NeighbourItem}
use Rattle.isis_tlv.specs.declared.three_way.ThreeWay.{ThreeWay}
use Rattle.isis_tlv.specs.declared.prefix.PrefixItem.{PrefixItem}

-- What a field of the standard's size holds. A clause's numbers and lists have no size of their own.

-- an area address (ISO 10589 7.1.1)
pub record IsArea (area : List ℕ) : Type 0 where
  pub some : 1 ≤ length area
  pub fits : length area ≤ 13

-- an SNPA (ISO 10589 8.4.1)
pub record IsSnpa (snpa : Snpa) : Type 0 where
  pub six : length snpa.0 ≡ 6

-- an LSP entry (ISO 10589 9.10)
pub record IsEntry (entry : LspEntry) : Type 0 where
  pub lifetime : entry.lifetime < 2 ^ 16
  pub system : length entry.id.node.system.0 ≡ 6
  pub number : entry.number < 2 ^ 32
  pub checksum : entry.checksum < 2 ^ 16

-- a neighbour (RFC 5305 3)
pub record IsNeighbour (item : NeighbourItem) : Type 0 where
  pub system : length item.node.system.0 ≡ 6
  pub metric : item.metric < 2 ^ 24

-- a prefix (RFC 5305 4)
pub record IsPrefix (item : PrefixItem) : Type 0 where
  pub metric : item.metric < 2 ^ 32
  pub address : item.prefix.address < 2 ^ 32

-- a three-way value (RFC 5303 3): no neighbour without an own ID
pub record IsThreeWay (value : ThreeWay) : Type 0 where
  pub own_id : IfSome value.own_id (λ id. id < 2 ^ 32)
  pub neighbour : IfSome value.neighbour (λ heard. (length heard.0.0 ≡ 6) × (heard.1 < 2 ^ 32))
  pub both : IsSome value.neighbour → IsSome value.own_id
