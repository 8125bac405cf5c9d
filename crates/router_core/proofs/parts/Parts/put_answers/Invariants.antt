use Rattle.std.proofs.Common.{length, map}
use Rattle.std.specs.List.{AllByRecursion}
use Rattle.isis_base.specs.declared.entry.LspEntry.{LspEntry}
use Rattle.isis_base.specs.Identifiers.{lsp_number}
use Rattle.router_wanted.specs.Views.{wanted_of}
use Rattle.router_core.specs.Machines.{AreWantedFor}
use Rattle.router_core.proofs.NodesLemmas.{Come}
use Rattle.router_core.proofs.parts.Parts.put_answers.Given as goal

-- what is aside is that of some level, which the entries that are left bring where all bring the first one
abbrev pub invariant-loop-left : goal.invariant-loop-left
invariant-loop-left l = record {
  wanted : AllByRecursion (λ (e : LspEntry). AreWantedFor l.fn.self l.fn.level (lsp_number e.id) (map wanted_of l.fn.wanted)) l.left;
  come : Come l.fn.self l.fn.level l.fn.entries l.left l.fn.aside.entries l.aside.entries;
}

abbrev pub decreases-loop-left : goal.decreases-loop-left
decreases-loop-left l = length l.left
