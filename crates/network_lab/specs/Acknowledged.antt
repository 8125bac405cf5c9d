-- An acknowledgement that is delivered (ISO 10589 7.3.15.2, 7.3.17; the words: own).
use Rattle.std.specs.Prelude.{◌≡◌, ◌≢◌, ℕ, List, Some}
use Rattle.isis_base.specs.declared.level.Level.{Level}
use Rattle.model_router.specs.declared.drop_name.DropName.{DropName}
use Rattle.model_router.specs.Places.{nth}
use Rattle.model_router.specs.SnpTable.{SnpEntry}
use Rattle.model_router.specs.SweepLaws.{ListsOnce, Frees}
use Rattle.model_router.specs.Routers.{Router, book_of}
use Rattle.model_router.specs.Datagrams.{Sent, PointHello, LanHello, Lsp, Csnp, Psnp}
use Rattle.model_router.specs.Events.{Reply, Dropped}
use Rattle.model_router.specs.Steps.{step}
use Rattle.router_core.specs.Givens.{given}
use Rattle.model_network.specs.Networks.{Datagram, octets_of, Network, numbered}
use Rattle.model_network.specs.Runs.{taking, Arrives, arrival}
use Rattle.model_network.specs.Ports.{Port}

-- a sequence number PDU of a level lists these (own)
abbrev pub IsListing : Sent → Level → List SnpEntry → Type 0
IsListing (PointHello state extended names) level entries = ⊥
IsListing (LanHello l lan snpas) level entries = ⊥
IsListing (Lsp l id cell) level entries = ⊥
IsListing (Csnp l start end listed) level entries = (l ≡ level) × (listed ≡ entries)
IsListing (Psnp l listed) level entries = (l ≡ level) × (listed ≡ entries)

-- an answer that isn't a drop (own)
abbrev pub IsTaken : Reply → Type 0
IsTaken reply = (cause : DropName) → reply ≢ Dropped cause

-- A datagram of a number arrives at an end of a link, a router in this state, from the other end,
-- and is taken. It is a sequence number PDU that lists an LSP ID once, with a key of at least the
-- rank that the router holds, and with the same checksum where both are live and of one number (own).
pub record Acknowledges (net : Network) (e f : Port) (link n : ℕ) (a : Router) (level : Level)
    (h : SnpEntry) : Type 0 where
  pub datagram : Datagram
  pub entries : List SnpEntry
  pub at : nth net.routers e.router ≡ Some a
  pub arrives : arrival net (numbered net.datagrams n) e.router ≡ Arrives datagram e.place
  pub sender : datagram.sender ≡ f.router
  pub on : datagram.link ≡ link
  pub lists : IsListing datagram.says level entries
  pub once : ListsOnce entries h
  pub frees : Frees (book_of a level) h
  pub taken : IsTaken (step given a (taking a e.place (octets_of datagram))).reply
