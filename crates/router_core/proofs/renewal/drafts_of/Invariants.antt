use Rattle.std.proofs.Common.{◌≡◌, ◌++◌, map, length, is_some}
use Rattle.std.specs.List.{AllByRecursion}
use Rattle.std.specs.Option.{option_copied}
use Rattle.std.specs.Vec.Iter.{into_iter_items}
use Rattle.model_router.specs.Good.{IsIssuable}
use Rattle.router_wanted.specs.declared.wanted.Wanted.{Wanted}
use Rattle.router_wanted.specs.Views.{contents_of, wanted_of}
use Rattle.router_levels.specs.Drafts.{wants_of}
use Rattle.router_core.specs.Seconds.{IsMade}
use Rattle.router_core.proofs.renewal.drafts_of.Given as goal

-- what is drafted and what is left are all that is wanted
abbrev pub invariant-loop-want : goal.invariant-loop-want
invariant-loop-want l = record {
  issuable : AllByRecursion (λ (w : Wanted). IsIssuable (option_copied l.key) (contents_of w)) (into_iter_items l.left);
  says : wants_of l.wants ++ map wanted_of (into_iter_items l.left) ≡ map wanted_of l.fn.wanted.items;
  made : AllByRecursion (IsMade (is_some (option_copied l.key)) l.level) l.wants;
}

abbrev pub decreases-loop-want : goal.decreases-loop-want
decreases-loop-want l = length (into_iter_items l.left)
