use Rattle.std.proofs.Common.{◌≤◌, length}
use Rattle.std.specs.List.{AllByRecursion}
use Rattle.model_router.specs.Both.{at}
use Rattle.model_router.specs.Good.{IsIssuable}
use Rattle.router_wanted.specs.declared.wanted.Wanted.{Wanted}
use Rattle.router_wanted.specs.Views.{contents_of}
use Rattle.router_core.proofs.RenewalLemmas.{Looks}
use Rattle.router_core.proofs.parts.Parts.tell_looked.Given as goal

-- what is told is what the fragments so far bring, and so many entries are held then
abbrev pub invariant-loop-left : goal.invariant-loop-left
invariant-loop-left l = record {
  few : l.count ≤ 65536;
  issuable : AllByRecursion (λ (w : Wanted). IsIssuable (at l.fn.self.config.keys l.fn.level) (contents_of w)) l.left;
  looks : Looks l.fn.self l.fn.level l.fn.store.entries l.fn.later.issued l.fn.wanted l.left l.count l.fn.movers.nodes.items l.fn.movers.aside.entries l.movers.nodes.items l.movers.aside.entries;
}

abbrev pub decreases-loop-left : goal.decreases-loop-left
decreases-loop-left l = length l.left
