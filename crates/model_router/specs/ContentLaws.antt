-- Keys and contents from a book to the one after a step: where new ones come from, and that none
-- changed while the count of changes stood still (own).
use Rattle.std.specs.Prelude.{◌≡◌, ℕ, ◌-◌, ◌^◌, ◌<◌, ◌≤◌, true, ◌⊎◌, Option, Some, None}
use Rattle.isis_base.specs.declared.level.Level.{Level}
use Rattle.model_router.specs.Ranks.{is_live}
use Rattle.model_router.specs.Cells.{Cell}
use Rattle.model_router.specs.Books.{Book, cell_at, rank_of}
use Rattle.model_router.specs.Routers.{Router, book_of}
use Rattle.model_router.specs.Givens.{Given}
use Rattle.model_router.specs.Deeds.{Content, content_of}
use Rattle.model_router.specs.Events.{Event}
use Rattle.model_router.specs.Hearings.{Source}
use Rattle.model_router.specs.ReplyLaws.{WasHeld}

-- own
abbrev pub held_content : Option Cell → Option Content
held_content None = None
held_content (Some cell) = Some (content_of cell)

-- one key, and where that is live one content (own)
pub record SameKey (old new : Option Cell) : Type 0 where
  pub rank : rank_of new ≡ rank_of old
  pub content : is_live (rank_of new) ≡ true → held_content new ≡ held_content old

-- a live LSP was held before, or comes from a source (own)
abbrev pub Comes : (ℕ → Content → Type 0) → Option Cell → Option Cell → Type 0
Comes source old None = Unit {0}
Comes source old (Some cell) =
    is_live cell.rank ≡ true → WasHeld old cell ⊎ source cell.rank (content_of cell)

-- what a part of a step tells of a book's keys and contents (own)
pub record Tells (source : ℕ → ℕ → Content → Type 0) (old new : Book) : Type 0 where
  pub counts : old.changes ≤ new.changes
  pub same : new.changes ≡ old.changes → new.changes < 2 ^ 64 - 1 → (id : ℕ)
      → SameKey (cell_at old id) (cell_at new id)
  pub comes : (id : ℕ) → Comes (source id) (cell_at old id) (cell_at new id)

-- what a step tells of both levels (own)
pub record TellsBoth (given : Given) (event : Event) (old new : Router) : Type 0 where
  pub on : (level : Level)
      → Tells (Source given old event level) (book_of old level) (book_of new level)
