-- The live view of a level's database (ISO 10589 7.3.16; the words: own).
use Rattle.std.specs.Prelude.{ℕ, if◌then◌else◌}
use Rattle.isis_base.specs.declared.level.Level.{Level}
use Rattle.model_router.specs.Ranks.{is_live}
use Rattle.model_router.specs.Books.{rank_at}
use Rattle.model_router.specs.Routers.{Router, book_of}

-- a rank where it is that of a live key, else 0: a purge, an empty entry and nothing are the same
-- (own)
abbrev pub live_rank : ℕ → ℕ
live_rank rank = if is_live rank then rank else 0

-- the rank that is held live of an LSP ID, 0 where none is (own)
abbrev pub live_at : Router → Level → ℕ → ℕ
live_at r level id = live_rank (rank_at (book_of r level) id)
