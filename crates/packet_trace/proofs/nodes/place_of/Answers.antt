use Rattle.std.proofs.Common.{◌∙◌, sym, ap, arith}
use Rattle.spf_tree.specs.Nodes.{system_node}
use Rattle.packet_trace.specs.declared.forwarder.Forwarder.{Forwarder}
use Rattle.packet_trace.specs.Steps.{node_of}
use Rattle.packet_trace.proofs.PlaceLemmas.{first-place, no-place}
use Rattle.packet_trace.proofs.nodes.place_of.Goals as goal

pub returns-then-node_of-node-clause-is : goal.returns-then-node_of-node-clause-is
returns-then-node_of-node-clause-is c =
    let same = ap (λ (f : Forwarder). node_of f) (sym c.index-forwarders-place.is) ∙ sym c.node_of.ensures ∙ c.if-node_of-node.true ∙ c.system_number-node.ensures in
    sym (first-place c.args.forwarders.now (system_node c.args.system) c.loop-place.place c.index-forwarders-place.result c.loop-place-test.true same c.loop-place.invariant)

pub returns-clause-is : goal.returns-clause-is
returns-clause-is c =
    sym (no-place c.args.forwarders.now (system_node c.args.system) (λ q d less. c.loop-place.invariant q d (omega (arith, less, c.loop-place-test.false))))
