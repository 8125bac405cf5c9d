use Rattle.std.proofs.Common.{◌∙◌, ◌++◌, ap, map}
use Rattle.isis_base.specs.declared.identifiers.NodeId.{NodeId}
use Rattle.router_routes.specs.Candidates.{own_candidate}
use Rattle.router_routes.proofs.WeighedLemmas.{weighed-are}
use Rattle.router_routes.proofs.candidates.all_candidates.Goals as goal

pub returns : goal.returns
returns c =
    weighed-are c.args.view.now c.args.told.now c.in_ok-list.list.items c.add_own.new.list.items c.add_weighed.new.list.items c.may_default.result c.args.attached c.requires c.may_default.ensures c.in_ok-list.ensures
    (c.in_ok-add_own.ensures ∙ ap (λ (n : NodeId). c.in_ok-list.list.items ++ map (own_candidate n) c.args.view.now.prefixes.now) c.own_node.ensures) c.in_ok-add_weighed.ensures
