-- Where the rank of a key falls: a second lets its LSP ID go (ISO 10589 7.3.16.4; the words: own).
use Rattle.std.specs.Prelude.{◌≡◌, ℕ, ◌<◌, Bool, true, false, Option, Some, None}
use Rattle.isis_base.specs.declared.level.Level.{Level}
use Rattle.model_router.specs.Cells.{Cell}
use Rattle.model_router.specs.Books.{cell_at, rank_at}
use Rattle.model_router.specs.LetGos.{lets_go}
use Rattle.model_router.specs.Ageing.{is_let_go}
use Rattle.model_router.specs.Routers.{Router, level_of, book_of}
use Rattle.model_router.specs.Sorted.{IsSorted}
use Rattle.model_router.specs.Events.{Event, Second}

-- whether what is held of an LSP ID is a purge with at most one second left (7.3.16.4)
abbrev pub is_ending : Option Cell → Bool
is_ending None = false
is_ending (Some cell) = is_let_go cell

-- an LSP ID is let go by the step from a router to another: it is a second; where cells were by LSP
-- ID, what was held is a purge with at most one second left; and the LSP ID counts as let go
-- afterwards (7.3.16.4; the count: own)
pub record IsLetGoNow (event : Event) (old new : Router) (level : Level) (id : ℕ) : Type 0 where
  pub in_second : event ≡ Second
  pub ends : IsSorted old → is_ending (cell_at (book_of old level) id) ≡ true
  pub counts : lets_go (level_of new level).gone id ≡ true

-- where a rank falls, this step lets the LSP ID go (own)
abbrev pub FallIsLetGo : Event → Router → Router → Type 0
FallIsLetGo event r t =
    (level : Level) (id : ℕ) → rank_at (book_of t level) id < rank_at (book_of r level) id
    → IsLetGoNow event r t level id
