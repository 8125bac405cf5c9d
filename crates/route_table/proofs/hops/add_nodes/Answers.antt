use Rattle.std.proofs.Common.{◌≡◌, ◌∙◌, ◌++◌, ◌∷◌, [], ℕ, List, true, sym, ap, arith}
use Rattle.spf_tree.specs.Nodes.{system_node, is_system}
use Rattle.route_table.proofs.HopLemmas.{all_more, push_take}
use Rattle.route_table.proofs.hops.add_nodes.Goals as goal

pub loop-place-preserved : goal.loop-place-preserved
loop-place-preserved c =
    let n = system_node c.in-Some.system in
    record {
      added =
          c.in-Ok.ensures.items ∙ ap (λ (m : ℕ). c.loop-place.nodes.items ++ m ∷ []) c.node_of.ensures.same ∙ ap (λ (xs : List ℕ). xs ++ n ∷ []) c.loop-place.invariant.added
          ∙ sym (push_take c.args.nodes.now.items c.args.hops.now c.loop-place.place n c.in-Some.ensures (omega arith));
      systems = rw c.in-Ok.ensures.items (all_more (λ node. is_system node ≡ true) c.loop-place.nodes.items c.node_of.result c.loop-place.invariant.systems c.node_of.ensures.system);
    }
