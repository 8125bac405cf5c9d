-- LSPs that may be sent: what is held says itself, as it came, as it was issued, or as a purge
-- (own).
use Rattle.std.specs.Prelude.{◌≡◌, ℕ, ◌^◌, ◌<◌, ◌≤◌, true, false, Bool, List, [], length, drop, Option, Some}
use Rattle.isis_base.specs.declared.level.Level.{Level}
use Rattle.model_router.specs.Ranks.{number_of, is_live, is_purge}
use Rattle.model_router.specs.Configs.{Config}
use Rattle.model_router.specs.Routers.{Circuit, Contents, Router, book_of}
use Rattle.model_router.specs.Books.{cell_at}
use Rattle.model_router.specs.Both.{at}
use Rattle.model_router.specs.Givens.{Given}
use Rattle.model_router.specs.OwnLsps.{issue_cell}
use Rattle.model_router.specs.Datagrams.{Sent, PointHello, LanHello, Lsp, Csnp, Psnp}
use Rattle.model_router.specs.Events.{Message, Refused, PointHelloHeard, LanHelloHeard, LspHeard, SnpHeard, Event, Second, Take, Pull, Metric, Overload, Prefix}
use Rattle.iso_checksum.specs.Checksum.{checksum_holds}
use Rattle.isis_pdu.specs.Views as pdu
use Rattle.isis_pdu.specs.Reading.{Begins}
use Rattle.model_router.specs.Cells.{Cell, kept}
use Rattle.model_router.specs.Numbers.{lsp_id}
use Rattle.model_datagram.specs.Said.{ReadsBack, kind_sent, CanRead}
use Rattle.model_datagram.specs.Tests.{passes}

-- A live LSP's octets say what is held of it, have the standard's size and a checksum that holds,
-- and are authentic where there is a key; their own lifetime is what it was when they came (own).
pub record TellsLive (key : Option (List ℕ)) (level : Level) (id : ℕ) (cell : Cell) : Type 0 where
  pub lifetime : ℕ
  pub tlvs : List ℕ
  pub begins : Begins cell.octets
      (pdu.Lsp level lifetime (lsp_id id) (number_of cell.rank) cell.checksum cell.flags tlvs)
      (length cell.octets)
  pub lives : 0 < lifetime
  pub short : length cell.octets ≤ 1492
  pub some : 0 < cell.checksum
  pub summed : checksum_holds (drop 12 cell.octets) ≡ true
  pub authentic : passes key cell.octets 27 ≡ true

-- a live LSP that may be sent (own)
pub record IsLiveLsp (key : Option (List ℕ)) (level : Level) (id : ℕ) (cell : Cell) : Type 0 where
  pub eight : id < 2 ^ 64
  pub live : is_live cell.rank ≡ true
  pub left : 0 < cell.left
  pub fits : cell.left < 2 ^ 16
  pub tells : TellsLive key level id cell

-- What is issued, whatever routes say, tells itself; `given` is what a step is given (own).
abbrev pub IssueTells : Given → Router → Level → ℕ → ℕ → Contents → Type 0
IssueTells given r level id number contents =
    TellsLive (at r.config.keys level) level id (issue_cell given r level id number contents)

-- a purge that may be sent: its octets are a header alone, which says what is held of it (own)
pub record IsPurge (level : Level) (id : ℕ) (cell : Cell) : Type 0 where
  pub eight : id < 2 ^ 64
  pub purge : is_purge cell.rank ≡ true
  pub some : 1 < cell.rank
  pub summed : cell.checksum ≡ 0
  pub begins : Begins cell.octets
      (pdu.Lsp level 0 (lsp_id id) (number_of cell.rank) 0 cell.flags []) 27
  pub alone : length cell.octets ≡ 27

-- what is kept of an LSP that is read may be sent, under the reader's key (own)
abbrev pub TellsKept : Config → Message → Type 0
TellsKept by (Refused cause) = Unit {0}
TellsKept by (PointHelloHeard h) = Unit {0}
TellsKept by (LanHelloHeard level h) = Unit {0}
TellsKept by (LspHeard level from h) =
    (is_live h.rank ≡ true → TellsLive (at by.keys level) level h.id (kept h))
    × (is_purge h.rank ≡ true → IsPurge level h.id (kept h))
TellsKept by (SnpHeard level from source range entries) = Unit {0}

-- ---- what a router holds

-- what an event says may be kept under the router's keys, where it says an LSP (own)
abbrev pub TellsEvent : Config → Event → Type 0
TellsEvent by Second = Unit {0}
TellsEvent by (Take place message) = TellsKept by message
TellsEvent by (Pull place) = Unit {0}
TellsEvent by (Metric place metric) = Unit {0}
TellsEvent by (Overload on) = Unit {0}
TellsEvent by (Prefix prefix metric) = Unit {0}

-- an entry with a key may be sent (own)
pub record IsSendable (key : Option (List ℕ)) (level : Level) (id : ℕ) (cell : Cell) : Type 0 where
  pub live : is_live cell.rank ≡ true → IsLiveLsp key level id cell
  pub purge : is_purge cell.rank ≡ true → IsPurge level id cell

-- each entry of a router may be sent (own)
abbrev pub AreSendable : Router → Type 0
AreSendable r =
    (level : Level) (id : ℕ) (cell : Cell) → cell_at (book_of r level) id ≡ Some cell
    → IsSendable (at r.config.keys level) level id cell

-- ---- what a step sends

-- whether it is an LSP or an SNP (own)
abbrev pub is_update : Sent → Bool
is_update (PointHello state extended named) = false
is_update (LanHello level lan snpas) = false
is_update (Lsp level id cell) = true
is_update (Csnp level start end entries) = true
is_update (Psnp level entries) = true

-- an LSP or an SNP that is sent on a circuit is read as what it says, by a reader that can read it
-- (own)
abbrev pub ReadsUpdate : Config → Circuit → Config → ℕ → ℕ → Circuit → Sent → Type 0
ReadsUpdate by on config boot place c sent =
    is_update sent ≡ true → CanRead by on config c (kind_sent sent)
    → ReadsBack by on config boot place c sent
