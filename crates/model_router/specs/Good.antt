-- What holds of each cell that a router holds, and what it needs of events, of the configuration
-- and of what is given (own).
use Rattle.std.specs.Prelude.{◌≡◌, ◌≢◌, ℕ, ◌^◌, ◌<◌, ◌≤◌, true, false, List, length, Option, Some, None}
use Rattle.std.specs.List.{AllByRecursion}
use Rattle.isis_base.specs.declared.level.Level.{Level}
use Rattle.isis_tlv.specs.Tlvs.{AreTlvs}
use Rattle.isis_tlv.specs.Spelling.{area_value}
use Rattle.model_router.specs.Ranks.{is_live}
use Rattle.model_router.specs.Sets.{has}
use Rattle.model_router.specs.Cells.{Cell, Heard}
use Rattle.model_router.specs.Books.{Book, cell_at}
use Rattle.model_router.specs.SnpTable.{SnpEntry}
use Rattle.model_router.specs.Routers.{Contents, Router, book_of}
use Rattle.model_router.specs.Givens.{Given}
use Rattle.model_router.specs.Wanted.{room_for}
use Rattle.model_router.specs.Events.{Message, Refused, PointHelloHeard, LanHelloHeard, LspHeard, SnpHeard, Event, Second, Take, Pull, Metric, Overload, Prefix}

-- a sequence number of four octets, which isn't 0 where there is a key; one to 65,535 seconds left;
-- a checksum of two octets, which isn't 0 where the entry is live; the octets of a header where
-- there is a key; SRM only where there is a key (own)
pub record IsGoodCell (c : Cell) : Type 0 where
  pub bounded : c.rank < 2 ^ 33
  pub number : c.rank ≢ 1
  pub left : 1 ≤ c.left
  pub fits : c.left < 2 ^ 16
  pub header : 0 < c.rank → 27 ≤ length c.octets
  pub word : c.checksum < 2 ^ 16
  pub summed : is_live c.rank ≡ true → 0 < c.checksum
  pub silent : c.rank ≡ 0 → (place : ℕ) → has c.srm place ≡ false

-- own
abbrev pub IsGood : ℕ → Option Cell → Type 0
IsGood id None = Unit {0}
IsGood id (Some cell) = (id < 2 ^ 64) × IsGoodCell cell

-- own
pub record IsGoodBook (b : Book) : Type 0 where
  pub at : (id : ℕ) → IsGood id (cell_at b id)

-- a system ID of six octets, and circuit numbers of one octet (own)
pub record IsGoodConfig (r : Router) : Type 0 where
  pub system : r.config.system < 2 ^ 48
  pub circuits : length r.circuits ≤ 255

-- own
pub record IsGoodRouter (r : Router) : Type 0 where
  pub config : IsGoodConfig r
  pub on : (level : Level) → IsGoodBook (book_of r level)

-- what holds of an LSP that passed the tests of receiving: fields of the standard's sizes, a
-- sequence number that isn't 0, a header, and where it is live seconds left and a checksum that
-- isn't 0 (own)
pub record IsGoodLsp (h : Heard) : Type 0 where
  pub id : h.id < 2 ^ 64
  pub some : 1 < h.rank
  pub bounded : h.rank < 2 ^ 33
  pub left : is_live h.rank ≡ true → 1 ≤ h.left
  pub fits : h.left < 2 ^ 16
  pub header : 27 ≤ length h.octets
  pub word : h.checksum < 2 ^ 16
  pub summed : is_live h.rank ≡ true → 0 < h.checksum

-- own
abbrev pub IsGoodMessage : Message → Type 0
IsGoodMessage (Refused cause) = Unit {0}
IsGoodMessage (PointHelloHeard h) = Unit {0}
IsGoodMessage (LanHelloHeard l h) = Unit {0}
IsGoodMessage (LspHeard l from h) = IsGoodLsp h
IsGoodMessage (SnpHeard l from source range entries) =
    AllByRecursion (λ (h : SnpEntry). h.id < 2 ^ 64) entries

-- own
abbrev pub IsGoodEvent : Event → Type 0
IsGoodEvent Second = Unit {0}
IsGoodEvent (Take place m) = IsGoodMessage m
IsGoodEvent (Pull place) = Unit {0}
IsGoodEvent (Metric place metric) = Unit {0}
IsGoodEvent (Overload on) = Unit {0}
IsGoodEvent (Prefix prefix metric) = Unit {0}

-- what is issued has a header, and a checksum of two octets that isn't 0 (own)
pub record IsGoodGiven (given : Given) : Type 0 where
  pub header : (r : Router) (level : Level) (id number : ℕ) (contents : Contents)
      → 27 ≤ length (given.octets r level id number contents)
  pub summed : (r : Router) (level : Level) (id number : ℕ) (contents : Contents)
      → 0 < given.checksum r level id number contents
  pub word : (r : Router) (level : Level) (id number : ℕ) (contents : Contents)
      → given.checksum r level id number contents < 2 ^ 16

-- ---- what an SNP may list

-- an entry: fields of the standard's sizes, a sequence number that isn't 0 where it names a key,
-- and lifetime 0 exactly where it names no live LSP (9.10)
pub record IsTellable (h : SnpEntry) : Type 0 where
  pub id : h.id < 2 ^ 64
  pub rank : h.rank < 2 ^ 33
  pub lifetime : h.lifetime < 2 ^ 16
  pub checksum : h.checksum < 2 ^ 16
  pub number : h.rank ≢ 1
  pub live : is_live h.rank ≡ true → 0 < h.lifetime
  pub purge : is_live h.rank ≡ false → h.lifetime ≡ 0

-- the entries of one SNP, 75 at most (own)
pub record AreTellable (entries : List SnpEntry) : Type 0 where
  pub each : AllByRecursion IsTellable entries
  pub count : length entries ≤ 75

-- ---- what an own LSP may say

-- a router of at most 126 circuits, whose area addresses fit one TLV (own)
pub record IsTelling (r : Router) : Type 0 where
  pub areas : length (area_value r.config.areas) ≤ 255
  pub circuits : length r.circuits ≤ 126

-- what an own LSP says under a key: TLVs that leave room for the header, and for the authentication
-- where there is a key (9.8)
pub record IsIssuable (key : Option (List ℕ)) (contents : Contents) : Type 0 where
  pub tlvs : AreTlvs contents.tlvs
  pub short : length contents.tlvs ≤ room_for key
