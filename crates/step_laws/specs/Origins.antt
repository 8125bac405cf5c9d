-- Where a new live LSP comes from: what is taken is stored live only of another system (ISO 10589
-- 7.3.15.1, 7.3.16.1; the words: own).
use Rattle.std.specs.Prelude.{◌≡◌, ◌≢◌, ℕ, ◌/◌}
use Rattle.isis_base.specs.declared.level.Level.{Level}
use Rattle.model_router.specs.Ranks.{live_rank}
use Rattle.model_router.specs.Cells.{Heard, kept}
use Rattle.model_router.specs.Books.{cell_at}
use Rattle.model_router.specs.Routers.{Contents, Router, book_of}
use Rattle.model_router.specs.Givens.{Given}
use Rattle.model_router.specs.OwnLsps.{issue_cell}
use Rattle.model_router.specs.Events.{Envelope, LspHeard, Event, Take}
use Rattle.model_router.specs.Deeds.{Content, content_of}
use Rattle.model_router.specs.Hearings.{IsOwnLsp}
use Rattle.model_router.specs.ContentLaws.{Comes}

-- where a new live LSP comes from: it was taken in the event and is of another system, or it is of
-- the router's own system and was made by what is given (7.3.15.1, 7.3.16.1; the words: own)
pub data Origin (given : Given) (old : Router) (event : Event) (level : Level) (id rank : ℕ)
    (content : Content) : Type 0 where
  Taken : (place : ℕ) (from : Envelope) (h : Heard) → event ≡ Take place (LspHeard level from h)
      → id ≡ h.id → rank ≡ h.rank → content ≡ content_of (kept h)
      → id / 65536 ≢ old.config.system → Origin given old event level id rank content
  Made : (r : Router) (number : ℕ) (contents : Contents) → r.config ≡ old.config
      → IsOwnLsp old level id contents → rank ≡ live_rank number
      → content ≡ content_of (issue_cell given r level id number contents)
      → Origin given old event level id rank content

-- each live LSP that is held after a step was held before it, with its rank and content, or has an
-- origin (own)
abbrev pub NewHasOrigin : Given → Event → Router → Router → Type 0
NewHasOrigin given event r t =
    (level : Level) (id : ℕ) → Comes (Origin given r event level id)
    (cell_at (book_of r level) id) (cell_at (book_of t level) id)
