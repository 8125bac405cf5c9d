use Rattle.std.proofs.Common.{List, subst}
use Rattle.isis_base.specs.declared.identifiers.NodeId.{NodeId}
use Rattle.router_routes.specs.Coming.{moved_in}
use Rattle.router_routes.specs.Kept.{AreAmong}
use Rattle.router_routes.specs.Moved.{AreNodes, nodes_of}
use Rattle.router_routes.proofs.ComingLemmas.{numbers-more}
use Rattle.router_routes.proofs.SameLemmas.{among-trans}
use Rattle.router_routes.proofs.kept.moved.Goals as goal

pub add_costs-requires : goal.add_costs-requires
add_costs-requires c = subst AreNodes c.as_slice.ensures.value c.nodes_law.ensures

pub add_costs-requires-2 : goal.add_costs-requires-2
add_costs-requires-2 c = c.in_ok-add_costs.ensures.ids

pub returns-clause-kept : goal.returns-clause-kept
returns-clause-kept c =
    among-trans (nodes_of c.args.told.now) c.add_costs.new.nodes.items c.add_costs-2.new.nodes.items
    (subst (λ (l : List NodeId). AreAmong l c.add_costs.new.nodes.items) c.in_ok-nodes.ensures c.in_ok-add_costs.ensures.kept) c.in_ok-add_costs-2.ensures.kept

pub returns-clause-one : goal.returns-clause-one
returns-clause-one c = numbers-more (moved_in c.args.levels.now.one) c.add_costs.new.nodes.items c.add_costs-2.new.nodes.items c.in_ok-add_costs-2.ensures.kept c.in_ok-add_costs.ensures.named
