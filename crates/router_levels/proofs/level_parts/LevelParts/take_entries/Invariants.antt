use Rattle.std.proofs.Common.{◌≡◌, ◌-◌, ℕ, List, Bool, length, is_some}
use Rattle.std.specs.Vec.Iter.{into_iter_items}
use Rattle.std.specs.Option.{option_copied}
use Rattle.isis_base.specs.declared.level.Level.{Level}
use Rattle.model_router.specs.Routers.{Router}
use Rattle.model_router.specs.Takes.{take_entries}
use Rattle.model_router.specs.Numbers.{system_number}
use Rattle.flag_sync.specs.Heard.{entries_of}
use Rattle.router_levels.specs.Views.{state_of, HasRoom}
use Rattle.router_levels.specs.Drafts.{AreReady, AreAnswers, scene_with}
use Rattle.router_levels.proofs.level_parts.LevelParts.take_entries.Given as goal

-- what is left, taken in the level as it is now, gives what all entries give
abbrev pub invariant-loop-left : goal.invariant-loop-left
invariant-loop-left l = record {
  circuits : l.self.book.circuits ≡ l.fn.self.book.circuits;
  room : HasRoom l.self (length l.left) 0;
  ready : AreReady (is_some (option_copied l.key)) l.self.own.issued l.left (into_iter_items l.drafts);
  state : (leaks : Router → Level → List (ℕ × ℕ)) (attached : Router → Bool) (r : Router) (level : Level)
      → AreAnswers (option_copied l.key) (scene_with leaks attached r level) l.entries l.fn.drafts.items
      → AreAnswers (option_copied l.key) (scene_with leaks attached r level) l.left (into_iter_items l.drafts)
      × (take_entries (scene_with leaks attached r level) (state_of l.self) (system_number l.system) (l.circuit - 1) (entries_of l.left)
      ≡ take_entries (scene_with leaks attached r level) (state_of l.fn.self) (system_number l.system) (l.circuit - 1) (entries_of l.entries));
}

abbrev pub decreases-loop-left : goal.decreases-loop-left
decreases-loop-left l = length l.left
