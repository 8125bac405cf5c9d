use Rattle.std.proofs.Common.{◌≡◌, ℕ, map, length}
use Rattle.std.specs.List.{AllByRecursion}
use Rattle.std.specs.Option.{option_map}
use Rattle.isis_base.specs.Identifiers.{lsp_number}
use Rattle.lsp_fragments.specs.Kept.{first_id, issued_from}
use Rattle.router_wanted.specs.Views.{wanted_of}
use Rattle.router_core.specs.Seconds.{numbers}
use Rattle.router_core.specs.Settled.{Says}
use Rattle.router_core.proofs.quiet.is_settled.Given as goal

-- what is left is to be the same as all, and to be said as all
abbrev pub invariant-loop-left : goal.invariant-loop-left
invariant-loop-left l = record {
  same : (k : ℕ) × (option_map lsp_number l.next ≡ first_id (issued_from k l.own.issued))
      × (numbers (issued_from k l.own.issued) ≡ numbers (map wanted_of l.left) → numbers l.own.issued ≡ numbers (map wanted_of l.fn.wanted));
  said : AllByRecursion (Says l.own.issued) (map wanted_of l.left) → AllByRecursion (Says l.own.issued) (map wanted_of l.fn.wanted);
}

abbrev pub decreases-loop-left : goal.decreases-loop-left
decreases-loop-left l = length l.left
