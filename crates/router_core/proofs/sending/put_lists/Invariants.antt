use Rattle.std.proofs.Common.{◌≡◌, ◌≤◌, ◌++◌, Vec, length}
use Rattle.std.specs.List.{AllByRecursion}
use Rattle.std.specs.declared.alloc.Global.{Global}
use Rattle.isis_base.specs.declared.entry.LspEntry.{LspEntry}
use Rattle.model_router.specs.SnpLists.{psnps}
use Rattle.snp_exchange.specs.Pieces.{lists_of}
use Rattle.router_core.specs.Sending.{all_octets}
use Rattle.router_core.proofs.sending.put_lists.Given as goal

-- what is added, and what is left
abbrev pub invariant-loop-left : goal.invariant-loop-left
invariant-loop-left l = record {
  out : l.out ++ all_octets l.sender (psnps l.level (lists_of l.left)) ≡ l.fn.out ++ all_octets l.sender (psnps l.level (lists_of l.lists));
  few : AllByRecursion (λ (list : Vec LspEntry Global). length list.items ≤ 75) l.left;
}

abbrev pub decreases-loop-left : goal.decreases-loop-left
decreases-loop-left l = length l.left
