use Rattle.std.proofs.Common.{rules, arith}
use Rattle.std.proofs.lemmas.List.Sorted.{answers_always}
use Rattle.spf_tree.specs.Nodes.{node_number}
use Rattle.router_routes.proofs.ThereLemmas.{there, missing, rising-tests}
use Rattle.router_routes.proofs.view.is_there.Goals as goal

pub returns-in-Ok : goal.returns-in-Ok
returns-in-Ok c =
    let by_number = c.in-Ok.ensures.position node_number (answers_always _ _ _ (λ f a r g h. search rules)) in
    there c.args.nodes.now c.args.node c.in-Ok.field-0 c.in-Ok.ensures.bound by_number

pub returns-in-Err : goal.returns-in-Err
returns-in-Err c =
    let by_number = c.in-Err.ensures.position node_number (answers_always _ _ _ (λ f a r g h. search rules)) in
    let parted = by_number (rising-tests c.args.nodes.now c.args.node c.requires) in
    missing c.args.nodes.now c.args.node c.in-Err.field-0 (λ k d lt before. parted.0 k d (omega (arith, lt, before)) before) (λ k d le lt. parted.1 k d le lt)
