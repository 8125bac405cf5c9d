use Rattle.std.proofs.Common.{◌≡◌, ◌*◌, ◌≤◌}
use Rattle.isis_base.specs.declared.level.Level.{Level}
use Rattle.model_router.specs.Routers.{Router, book_of}
use Rattle.flag_sync.specs.BookStates.{book_of as book_in}
use Rattle.timeline_text.specs.Agreements.{flags_on}
use Rattle.timeline_text.proofs.flags.book_flags.Given as goal

-- those of the circuits so far
abbrev pub invariant-loop-place : goal.invariant-loop-place
invariant-loop-place l = record {
  flags : (r : Router) (level : Level) → book_in l.book ≡ book_of r level → l.flags ≡ flags_on r level l.place;
  few : l.flags ≤ l.place * 65536;
}
