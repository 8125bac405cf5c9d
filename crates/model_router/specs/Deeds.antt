-- What the parts of a step do to a level, as a chain of deeds: one description from which each law
-- of a step is proved (own).
use Rattle.std.specs.Prelude.{Some, ◌≡◌, ℕ, ◌^◌, ◌<◌, ◌≤◌, true, false, List}
use Rattle.isis_base.specs.declared.level.Level.{Level}
use Rattle.model_router.specs.declared.whose.Whose.{Whose}
use Rattle.model_router.specs.Cells.{Cell, Heard, flagged, kept, purged}
use Rattle.model_router.specs.Books.{Book, cell_at, rank_at}
use Rattle.model_router.specs.LspTable.{hear_lsp}
use Rattle.model_router.specs.SnpTable.{SnpEntry, hear_entry, hear_range}
use Rattle.model_router.specs.LetGos.{let_go}
use Rattle.model_router.specs.Openings.{close, open_up}
use Rattle.model_router.specs.Routers.{Contents, Issued, LevelState, Router, level_of}
use Rattle.model_router.specs.Ranks.{is_live, live_rank}
use Rattle.model_router.specs.Givens.{Given}
use Rattle.model_router.specs.OwnLsps.{issue_cell, install, retire}
use Rattle.model_router.specs.Ageing.{age_one, wait_less}
use Rattle.model_router.specs.Pulls.{sent, answered}
use Rattle.model_router.specs.Good.{IsGood, IsGoodBook, IsGoodLsp, IsGoodGiven}

-- a level with another book (own)
abbrev pub with_this : LevelState → Book → LevelState
with_this s book = record s { book = book }

-- what an LSP says beside its key (9.8)
pub record Content : Type 0 where
  pub checksum : ℕ
  pub flags : ℕ
  pub octets : List ℕ

-- own
abbrev pub content_of : Cell → Content
content_of cell = record { checksum = cell.checksum; flags = cell.flags; octets = cell.octets }

-- What a step hears on one level: `rank place id` is the greatest rank of an LSP ID on a circuit,
-- `source id rank content` holds of what a new LSP may be, `sane` of good events, configurations
-- and what is given, `mine` of one's own LSP IDs and what they may say, `names place id` of what a
-- datagram that is taken on a circuit names, and `stirs` of the circuits whose flags the step may
-- clear as a whole, by a pull or a closing (own).
pub record Hearing : Type 1 where
  pub rank : ℕ → ℕ → ℕ
  pub source : ℕ → ℕ → Content → Type 0
  pub sane : Type 0
  pub mine : ℕ → Contents → Type 0
  pub names : ℕ → ℕ → Type 0
  pub stirs : ℕ → Type 0

-- what is issued under an LSP ID of one's own may be a new LSP, and is good where the step is sane
-- (own)
pub record Issues (heard : Hearing) (given : Given) (r : Router) (level : Level) : Type 0 where
  pub source : (id number : ℕ) (contents : Contents) → heard.mine id contents
      → heard.source id (live_rank number)
      (content_of (issue_cell given r level id number contents))
  pub good : heard.sane → IsGoodGiven given

-- what is good of a cell that is kept on all open circuits, where the step is sane and the book
-- good (own)
abbrev pub Fits : Hearing → LevelState → ℕ → Cell → Type 0
Fits heard s id cell =
    heard.sane → IsGoodBook s.book → IsGood id (Some (flagged cell s.book.opened 0))

-- a purge that is made: of a live LSP that is held or new, or it is itself new (own)
pub data IsMadeOf (heard : Hearing) (s : LevelState) (id : ℕ) (cell : Cell) : Type 0 where
  OfHeld : (c : Cell) → cell_at s.book id ≡ Some c → is_live c.rank ≡ true → cell ≡ purged c
      → IsMadeOf heard s id cell
  OfNew : (c : Cell) → heard.source id c.rank (content_of c) → is_live c.rank ≡ true
      → cell ≡ purged c → IsMadeOf heard s id cell
  IsNew : heard.source id cell.rank (content_of cell) → IsMadeOf heard s id cell

-- a chain of deeds on a level, each with what is known where it is done (own)
pub data Way (heard : Hearing) : LevelState → LevelState → Type 0 where
  Still : (s : LevelState) → Way heard s s
  Then : (a b c : LevelState) → Way heard a b → Way heard b c → Way heard a c
  Hear : (s : LevelState) (place : ℕ) (w : Whose) (h : Heard) → h.rank ≤ heard.rank place h.id
      → heard.names place h.id
      → heard.source h.id h.rank (content_of (kept h)) → (heard.sane → IsGoodLsp h)
      → Way heard s (with_this s (hear_lsp s.book place w h))
  Let : (s : LevelState) (id : ℕ) → Way heard s (record s { gone = let_go s.gone id })
  Entry : (s : LevelState) (place : ℕ) (w : Whose) (h : SnpEntry) → h.rank ≤ heard.rank place h.id
      → heard.names place h.id → (heard.sane → h.id < 2 ^ 64)
      → Way heard s (with_this s (hear_entry s.book place w h))
  Range : (s : LevelState) (place start end : ℕ) (entries : List SnpEntry)
      → Way heard s (with_this s (hear_range s.book place start end entries))
  Install : (s : LevelState) (id : ℕ) (contents : Contents) (cell : Cell)
      → rank_at s.book id < cell.rank
      → heard.source id cell.rank (content_of cell) → Fits heard s id cell
      → Way heard s (install s id contents cell)
  Retire : (s : LevelState) (id : ℕ) (cell : Cell) → rank_at s.book id < cell.rank
      → is_live cell.rank ≡ false
      → (heard.sane → IsMadeOf heard s id cell)
      → Fits heard s id cell → Way heard s (retire s id cell)
  Age : (s : LevelState) (id : ℕ) → Way heard s (age_one s id)
  Own : (s : LevelState) (own : List (ℕ × Issued)) → Way heard s (record s { own = own })
  Wait : (s : LevelState) → Way heard s (with_this s (wait_less s.book))
  Sends : (s : LevelState) (place : ℕ) → Way heard s (with_this s (sent s.book place))
  Answers : (s : LevelState) (place : ℕ) → heard.stirs place
      → Way heard s (with_this s (answered s.book place))

-- ways with openings and closings of circuits between them (own)
pub data Course (heard : Hearing) : LevelState → LevelState → Type 0 where
  Goes : (a b : LevelState) → Way heard a b → Course heard a b
  Next : (a b c : LevelState) → Course heard a b → Course heard b c → Course heard a c
  Closes : (s : LevelState) (place : ℕ) → heard.stirs place
      → Course heard s (with_this s (close s.book place))
  Opens : (s : LevelState) (place : ℕ) → Course heard s (with_this s (open_up s.book place))

-- both levels' courses (own)
pub record Courses (heard : Level → Hearing) (old new : Router) : Type 0 where
  pub on : (level : Level) → Course (heard level) (level_of old level) (level_of new level)
