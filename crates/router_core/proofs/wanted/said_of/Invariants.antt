use Rattle.std.proofs.Common.{◌≡◌, ℕ, List, Option, map, length}
use Rattle.std.specs.List.{AllByRecursion}
use Rattle.isis_base.specs.Identifiers.{lsp_number}
use Rattle.model_router.specs.Good.{IsIssuable}
use Rattle.model_router.specs.Maps.{find}
use Rattle.router_wanted.specs.declared.wanted.Wanted.{Wanted}
use Rattle.router_wanted.specs.Views.{contents_of, wanted_of}
use Rattle.router_core.proofs.wanted.said_of.Given as goal

-- those that are left are found as all are
abbrev pub invariant-loop-left : goal.invariant-loop-left
invariant-loop-left l = record {
  same : find (map wanted_of l.left) (lsp_number l.fn.id) ≡ find (map wanted_of l.fn.list) (lsp_number l.fn.id);
  issuable : (key : Option (List ℕ)) → AllByRecursion (λ (w : Wanted). IsIssuable key (contents_of w)) l.fn.list
      → AllByRecursion (λ (w : Wanted). IsIssuable key (contents_of w)) l.left;
}

abbrev pub decreases-loop-left : goal.decreases-loop-left
decreases-loop-left l = length l.left
