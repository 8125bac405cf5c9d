-- Events of which is known beforehand that no key changes, so that routes stay (own).
use Rattle.std.specs.Prelude.{◌≡◌, ℕ, nat_lt, Bool, true, false, ◌&&◌, not, List, [], ◌∷◌}
use Rattle.std.specs.List.{AllByRecursion}
use Rattle.model_router.specs.declared.lsp_case.LspCase.{LspCase}
use Rattle.model_router.specs.declared.lsp_case.LspCase.TheVariants as lsp
use Rattle.model_router.specs.declared.snp_case.SnpCase.{SnpCase}
use Rattle.model_router.specs.declared.snp_case.SnpCase.TheVariants as snp
use Rattle.model_router.specs.declared.whose.Whose.{Whose}
use Rattle.flag_sync.specs.declared.heard.LspAnswer.{LspAnswer}
use Rattle.flag_sync.specs.declared.heard.LspAnswer.TheVariants as answer
use Rattle.isis_base.specs.declared.identifiers.LspId.{LspId}
use Rattle.lsp_store.specs.declared.entry.Entry.{Entry}
use Rattle.lsp_store.specs.Databases as store
use Rattle.model_router.specs.Cells.{Cell}
use Rattle.model_router.specs.Ranks.{is_live}
use Rattle.model_router.specs.Sorted.{RisesFrom}
use Rattle.model_router.specs.Books.{Book, cell_at}
use Rattle.model_router.specs.LspTable.{met}
use Rattle.model_router.specs.SnpTable.{SnpEntry, snp_case}
use Rattle.model_router.specs.Takes.{whose_of}
use Rattle.model_router.specs.Routers.{Router, level_of, book_of}
use Rattle.model_router.specs.Events.{Message, Refused, PointHelloHeard, LanHelloHeard, LspHeard, SnpHeard, Event, Second, Take, Pull, Metric, Overload, Prefix}

-- the rows of an LSP that isn't newer than what is held (ISO 10589 7.3.15.1)
abbrev pub is_calm_row : LspCase → Bool
is_calm_row lsp.Outbid = false
is_calm_row lsp.PurgedOwn = false
is_calm_row lsp.AckPurge = true
is_calm_row lsp.Confused = false
is_calm_row lsp.Stored = false
is_calm_row lsp.Same = true
is_calm_row lsp.Older = true

-- the rows of a sequence number PDU's entry by which no key changes: neither is an own LSP outbid,
-- nor is one purged whose checksum differs (ISO 10589 7.3.15.2)
abbrev pub is_calm_entry : SnpCase → Bool
is_calm_entry snp.Nothing = true
is_calm_entry snp.Outbid = false
is_calm_entry snp.Confused = false
is_calm_entry snp.Same = true
is_calm_entry snp.Older = true
is_calm_entry snp.Newer = true
is_calm_entry snp.Asked = true
is_calm_entry snp.Unasked = true

-- no entry of a sequence number PDU changes a key (ISO 10589 7.3.15.2)
abbrev pub AreClear : Book → List SnpEntry → Type 0
AreClear book entries =
    AllByRecursion (λ (h : SnpEntry). (whose : Whose)
    → is_calm_entry (snp_case whose (cell_at book h.id) h) ≡ true) entries

abbrev pub IsCalmMessage : Router → Message → Type 0
IsCalmMessage r (Refused cause) = Unit {0}
IsCalmMessage r (PointHelloHeard h) = Unit {0}
IsCalmMessage r (LanHelloHeard l h) = Unit {0}
IsCalmMessage r (LspHeard l from h) =
    is_calm_row (met (book_of r l) (whose_of r.config.system (level_of r l) h.id) h) ≡ true
IsCalmMessage r (SnpHeard l from source range entries) = AreClear (book_of r l) entries

abbrev pub IsCalm : Router → Event → Type 0
IsCalm r Second = ⊥
IsCalm r (Take place m) = IsCalmMessage r m
IsCalm r (Pull place) = Unit {0}
IsCalm r (Metric place metric) = Unit {0}
IsCalm r (Overload on) = Unit {0}
IsCalm r (Prefix prefix metric) = ⊥

-- whether an event leaves one's own prefixes
abbrev pub KeepsPrefixes : Event → Type 0
KeepsPrefixes Second = Unit {0}
KeepsPrefixes (Take place m) = Unit {0}
KeepsPrefixes (Pull place) = Unit {0}
KeepsPrefixes (Metric place metric) = Unit {0}
KeepsPrefixes (Overload on) = Unit {0}
KeepsPrefixes (Prefix prefix metric) = ⊥

-- the same of the answer that tells a row
abbrev pub is_calm_answer : LspAnswer → Bool
is_calm_answer answer.Stored = false
is_calm_answer answer.Same = true
is_calm_answer answer.Older = true
is_calm_answer answer.Confused = false
is_calm_answer (answer.Outbid above) = false
is_calm_answer answer.PurgedOwn = false
is_calm_answer answer.AckPurge = true

-- ---- seconds

-- whether an entry is live, and its time ends within a second (ISO 10589 7.3.16.3)
abbrev pub is_ending : Entry → Bool
is_ending e = store.is_live e && nat_lt e.left 2

-- the same of a cell
abbrev pub is_ended : Cell → Bool
is_ended cell = is_live cell.rank && nat_lt cell.left 2

-- no live entry's time ends within a second (7.3.16.3)
abbrev pub all_last : List (LspId × Entry) → Bool
all_last [] = true
all_last (pair ∷ entries) = not (is_ending pair.1) && all_last entries

-- the same of a book's cells, which are in order
pub record AreLasting (book : Book) : Type 0 where
  pub rises : RisesFrom 0 book.cells
  pub last : AllByRecursion (λ (pair : ℕ × Cell). is_ended pair.1 ≡ false) book.cells
