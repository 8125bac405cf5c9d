-- What of a router makes all that it sends legible (own).
use Rattle.std.specs.Prelude.{ℕ, ◌^◌, ◌<◌, IfSome}
use Rattle.model_router.specs.Routers.{Router}
use Rattle.model_router.specs.Sorted.{IsSorted}
use Rattle.model_router.specs.Good.{IsGoodRouter, IsTelling}
use Rattle.model_router.specs.AdjacencyLaws.{bond_at}
use Rattle.model_datagram.specs.Senders.{IsSender}
use Rattle.model_datagram.specs.LspLaws.{AreSendable}

-- a name that is kept: a system ID of six octets, and an extended circuit ID of four (RFC 5303 3.1)
abbrev pub IsName : ℕ × ℕ → Type 0
IsName name = (name.0 < 2 ^ 48) × (name.1 < 2 ^ 32)

-- What holds of each router that is reached (own): its entries are in order, good, and may be sent;
-- its configuration may be told; its boot number has three octets, and whom it keeps has a name of
-- the standard's size.
pub record IsSpeaking (r : Router) : Type 0 where
  pub sorted : IsSorted r
  pub good : IsGoodRouter r
  pub telling : IsTelling r
  pub sendable : AreSendable r
  pub sender : IsSender r.config
  pub boot : r.boot < 2 ^ 24
  pub names : (place : ℕ) → IfSome (bond_at r place).names IsName
