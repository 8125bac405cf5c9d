use Rattle.std.proofs.Common.{◌≡◌, length, map}
use Rattle.std.specs.Option.{option_map}
use Rattle.isis_base.specs.Identifiers.{lsp_number}
use Rattle.lsp_fragments.specs.Kept.{first_id}
use Rattle.router_wanted.specs.Views.{wanted_of}
use Rattle.router_core.proofs.QuietLemmas.{behind}
use Rattle.router_core.proofs.RenewalLemmas.{AreWithdrawn}
use Rattle.router_core.proofs.renewing.tell_withdrawn.Given as goal

-- those that are left bring what all bring
abbrev pub invariant-loop-next : goal.invariant-loop-next
invariant-loop-next l = record {
  head : option_map lsp_number l.next ≡ first_id (behind l.next l.later.issued);
  told : AreWithdrawn l.later.issued (map wanted_of l.wanted) (behind l.next l.later.issued) l.store.entries l.fn.movers.nodes.items l.fn.movers.aside.entries l.movers.nodes.items l.movers.aside.entries;
}

abbrev pub decreases-loop-next : goal.decreases-loop-next
decreases-loop-next l = length (behind l.next l.later.issued)
