use Rattle.std.proofs.Common.{◌∙◌, ◌++◌, ap, filter, map}
use Rattle.isis_base.specs.declared.identifiers.NodeId.{NodeId}
use Rattle.router_routes.specs.Candidates.{own_candidate}
use Rattle.router_routes.specs.Ways.{is_for, put_all}
use Rattle.router_routes.proofs.WeighedLemmas.{weighed-for}
use Rattle.router_routes.proofs.candidates.candidates_for.Goals as goal

pub returns : goal.returns
returns c =
    weighed-for c.args.view.now (put_all c.args.table.now.rows c.args.after.now.rows) c.in_ok-list.list.items c.add_own_for.new.list.items c.add_rows.new.list.items c.may_default-may.result c.args.attached c.args.numbers.now c.requires.told c.requires.attached c.may_default-may.ensures c.in_ok-list.ensures
    (c.in_ok-add_own_for.ensures ∙ ap (λ (n : NodeId). c.in_ok-list.list.items ++ filter (is_for c.args.numbers.now) (map (own_candidate n) c.args.view.now.prefixes.now)) c.own_node.ensures) c.in_ok-add_rows.ensures
