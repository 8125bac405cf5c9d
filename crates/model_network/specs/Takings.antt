-- What a router takes of CSNPs on a LAN without a flag: ranges of LSP IDs, at the keys that it and the
-- sender then have (ISO 10589 7.3.15.2; the words: own).
use Rattle.std.specs.Prelude.{ℕ, ◌==◌, Bool, false, ◌&&◌, ◌||◌, not, List, [], ◌∷◌, Option, Some, None, is_none, if◌then◌else◌}
use Rattle.isis_base.specs.declared.level.Level.{Level}
use Rattle.model_router.specs.declared.whose.Whose.TheVariants as whose
use Rattle.model_router.specs.Both.{at}
use Rattle.model_router.specs.Cells.{Cell}
use Rattle.model_router.specs.Books.{Book, cell_at}
use Rattle.model_router.specs.SnpTable.{SnpEntry, snp_case, sets_flag, is_missed}
use Rattle.model_router.specs.Routers.{Circuit, Router, book_of}
use Rattle.model_router.specs.Events.{Message, Refused, PointHelloHeard, LanHelloHeard, LspHeard, SnpHeard}
use Rattle.model_router.specs.Receiving.{drop_of}
use Rattle.model_network.specs.Networks.{Datagram, Taking}

-- ---- flags

-- whether an entry of an SNP sets a flag at what is held, whosever the LSP is (7.3.15.2)
abbrev pub would_flag : Book → SnpEntry → Bool
would_flag book h = sets_flag (snp_case whose.Other (cell_at book h.id) h)

-- own
abbrev pub would_flag_any : Book → List SnpEntry → Bool
would_flag_any book [] = false
would_flag_any book (h ∷ entries) = would_flag book h || would_flag_any book entries

-- whether one of these LSP IDs is live, lies in a CSNP's range and isn't listed (7.3.15.2)
abbrev pub misses_any : ℕ → ℕ → List SnpEntry → List (ℕ × Cell) → Bool
misses_any first last entries [] = false
misses_any first last entries (pair ∷ cells) =
    is_missed first last entries pair.0 pair.1 || misses_any first last entries cells

-- whether the range of a CSNP sets a flag at what is held (7.3.15.2)
abbrev pub would_flag_range : Book → ℕ → ℕ → List SnpEntry → Bool
would_flag_range book first last entries = misses_any first last entries book.cells

-- ---- ranges

-- the range of a datagram that a router takes (own)
abbrev pub taking_of : ℕ → Router → Datagram → Level → ℕ × ℕ → Taking
taking_of i r d level range = record {
  member = i;
  boot = r.boot;
  changes = (book_of r level).changes;
  link = d.link;
  level = level;
  sender = d.sender;
  sent_boot = d.boot;
  sent_changes = at d.changes level;
  first = range.0;
  last = range.1;
}

-- whether the entries and the range of a CSNP set no flag at what is held, and no key changes as it
-- is taken (own)
abbrev pub is_clean : Router → Router → Level → ℕ × ℕ → List SnpEntry → Bool
is_clean r now level range entries =
    not (would_flag_any (book_of r level) entries)
    && not (would_flag_range (book_of r level) range.0 range.1 entries)
    && (book_of now level).changes == (book_of r level).changes

-- the range of what a router hears in a datagram, where that is a CSNP that it takes cleanly on a
-- LAN; `now` is the router after it (own)
abbrev pub heard_range : ℕ → Router → Router → ℕ → Circuit → Datagram → Message → List Taking
heard_range i r now place c d (Refused cause) = []
heard_range i r now place c d (PointHelloHeard h) = []
heard_range i r now place c d (LanHelloHeard level h) = []
heard_range i r now place c d (LspHeard level snpa h) = []
heard_range i r now place c d (SnpHeard level snpa source None entries) = []
heard_range i r now place c d (SnpHeard level snpa source (Some range) entries) =
    if c.lan && is_none (drop_of r place c (SnpHeard level snpa source (Some range) entries))
    && is_clean r now level range entries
    then taking_of i r d level range ∷ [] else []

-- the same of the circuit at a place, where that is there (own)
unfoldable pub ranges_of : ℕ → Router → Router → ℕ → Option Circuit → Datagram → Message → List Taking
ranges_of i r now place None d m = []
ranges_of i r now place (Some c) d m = heard_range i r now place c d m
