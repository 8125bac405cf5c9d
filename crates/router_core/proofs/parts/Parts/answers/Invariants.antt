use Rattle.std.proofs.Common.{List, ◌++◌, Option, length, is_some, map}
use Rattle.std.specs.List.{AllByRecursion}
use Rattle.isis_base.specs.declared.entry.LspEntry.{LspEntry}
use Rattle.isis_base.specs.Identifiers.{lsp_number}
use Rattle.model_router.specs.Both.{at}
use Rattle.model_router.specs.Receiving.{scene_of}
use Rattle.model_router.specs.Routers.{level_of}
use Rattle.router_sending.specs.Drafts.{DraftView}
use Rattle.router_wanted.specs.Views.{wanted_of}
use Rattle.router_levels.specs.Drafts.{AreAnswers, AreReady}
use Rattle.router_core.specs.Givens.{given}
use Rattle.router_core.specs.Machines.{AreWantedFor}
use Rattle.router_core.proofs.parts.Parts.answers.Given as goal

-- what is wanted is all where an entry that is left is issued; drafts of what is left, behind those that are made, are drafts of all
abbrev pub invariant-loop-left : goal.invariant-loop-left
invariant-loop-left l = record {
  wanted : AllByRecursion (λ (e : LspEntry). AreWantedFor l.fn.self l.fn.level (lsp_number e.id) (map wanted_of l.wanted.items)) l.left;
  ready : (rest : List (Option DraftView)) → AreReady (is_some (at l.fn.self.config.keys l.fn.level)) (level_of l.fn.self l.fn.level).own l.left rest
      → AreReady (is_some (at l.fn.self.config.keys l.fn.level)) (level_of l.fn.self l.fn.level).own l.fn.entries (l.drafts.items ++ rest);
  said : (rest : List (Option DraftView)) → AreAnswers (at l.fn.self.config.keys l.fn.level) (scene_of given l.fn.self l.fn.level) l.left rest
      → AreAnswers (at l.fn.self.config.keys l.fn.level) (scene_of given l.fn.self l.fn.level) l.fn.entries (l.drafts.items ++ rest);
}

abbrev pub decreases-loop-left : goal.decreases-loop-left
decreases-loop-left l = length l.left
