-- What a router hears in a datagram: the range of a CSNP in which nothing would set a flag (ISO 10589
-- 7.3.15.2; the form: own).
use Rattle.std.specs.Prelude.{◌≡◌, ℕ, Bool, true, ◌&&◌, not, List, Option, Some, None, if◌then◌else◌}
use Rattle.isis_base.specs.declared.level.Level.{Level}
use Rattle.isis_base.specs.declared.level.Level.TheVariants as level
use Rattle.isis_base.specs.Identifiers.{lsp_number}
use Rattle.model_router.specs.Both.{at}
use Rattle.model_router.specs.Books.{Book}
use Rattle.model_router.specs.SnpTable.{SnpEntry}
use Rattle.model_router.specs.Routers.{Circuit, Router, book_of}
use Rattle.model_router.specs.Events.{Message, Refused, PointHelloHeard, LanHelloHeard, LspHeard, SnpHeard}
use Rattle.model_network.specs.Takings.{would_flag_any, would_flag_range}
use Rattle.network_lab.specs.declared.sent.Changes.{Changes}
use Rattle.network_lab.specs.declared.sent.SentDatagram.{SentDatagram}
use Rattle.network_lab.specs.declared.heard_range.CsnpRange.{CsnpRange}
use Rattle.network_lab.specs.declared.heard_range.HeardRange.{HeardRange}

-- a range in numbers, with its level
abbrev pub range_view : Option CsnpRange → Option (Level × (ℕ × ℕ))
range_view None = None
range_view (Some x) = Some (x.level, (lsp_number x.first, lsp_number x.last))

-- whether neither entries nor a range would set a flag
abbrev pub is_unflagged : Book → ℕ → ℕ → List SnpEntry → Bool
is_unflagged book first last entries =
    not (would_flag_any book entries) && not (would_flag_range book first last entries)

-- the range of a CSNP on a LAN in which nothing would set a flag
abbrev pub unflagged_range : Router → Circuit → Message → Option (Level × (ℕ × ℕ))
unflagged_range r c (Refused cause) = None
unflagged_range r c (PointHelloHeard h) = None
unflagged_range r c (LanHelloHeard level h) = None
unflagged_range r c (LspHeard level from h) = None
unflagged_range r c (SnpHeard level from source None entries) = None
unflagged_range r c (SnpHeard level from source (Some range) entries) =
    if c.lan && is_unflagged (book_of r level) range.0 range.1 entries
    then Some (level, range) else None

-- the level of a sequence number PDU is run
abbrev pub IsSnpRun : Router → Message → Type 0
IsSnpRun r (Refused cause) = Unit {0}
IsSnpRun r (PointHelloHeard h) = Unit {0}
IsSnpRun r (LanHelloHeard level h) = Unit {0}
IsSnpRun r (LspHeard level from h) = Unit {0}
IsSnpRun r (SnpHeard level from source range entries) = at r.config.runs level ≡ true

-- the count of a level
abbrev pub count_of : Changes → Level → ℕ
count_of changes level.One = changes.one
count_of changes level.Two = changes.two

-- a range with the moment at which a router hears it in a datagram
abbrev pub at_moment : ℕ → Router → SentDatagram → Option CsnpRange → Option HeardRange
at_moment i r d None = None
at_moment i r d (Some x) = Some (record {
  key = record {
    link = d.link;
    level = x.level;
    member = i;
    sender = d.sender;
    boot = r.boot;
    changes = (book_of r x.level).changes;
    sent_boot = d.boot;
    sent_changes = count_of d.changes x.level;
  };
  first = x.first;
  last = x.last;
})
