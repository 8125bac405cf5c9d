use Rattle.std.proofs.Common.{length}
use Rattle.model_router.specs.Routers.{book_of}
use Rattle.flag_sync.specs.Heard.{entries_of}
use Rattle.router_core.specs.Calm.{AreClear}
use Rattle.router_core.proofs.parts.Parts.are_clear.Given as goal

-- what is left decides
abbrev pub invariant-loop-left : goal.invariant-loop-left
invariant-loop-left l = AreClear (book_of l.self l.level) (entries_of l.left) → AreClear (book_of l.self l.level) (entries_of l.entries)

abbrev pub decreases-loop-left : goal.decreases-loop-left
decreases-loop-left l = length l.left
