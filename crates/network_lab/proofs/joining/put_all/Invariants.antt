use Rattle.std.proofs.Common.{◌≡◌, ◌<◌, length}
use Rattle.std.specs.List.{AllByRecursion}
use Rattle.std.specs.Vec.Iter.{into_iter_items}
use Rattle.network_lab.specs.declared.joining.Joined.{Joined}
use Rattle.network_lab.specs.Joining.{configs_with, routers_with, ports_with}
use Rattle.network_lab.proofs.joining.put_all.Given as goal

-- those that are left make of what is there what all make of what was
abbrev pub invariant-loop-next : goal.invariant-loop-next
invariant-loop-next g l = record {
  configs : configs_with (into_iter_items l.left) l.configs.items ≡ configs_with l.fn.joined.items l.fn.configs.items;
  routers : routers_with (into_iter_items l.left) l.routers.items ≡ routers_with l.fn.joined.items l.fn.routers.items;
  ports : ports_with (into_iter_items l.left) l.ports.items ≡ ports_with l.fn.joined.items l.fn.ports.items;
  on_configs : AllByRecursion (λ (j : Joined _). j.router < length l.configs.items) (into_iter_items l.left);
  on_routers : AllByRecursion (λ (j : Joined _). j.router < length l.routers.items) (into_iter_items l.left);
  on_ports : AllByRecursion (λ (j : Joined _). j.router < length l.ports.items) (into_iter_items l.left);
}

abbrev pub decreases-loop-next : goal.decreases-loop-next
decreases-loop-next g l = length (into_iter_items l.left)
