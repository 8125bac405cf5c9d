use Rattle.std.proofs.Common.{◌≢◌, ◌<◌, ℕ}
use Rattle.std.specs.Prelude.{slice_index_or}
use Rattle.spf_tree.specs.Nodes.{system_node}
use Rattle.packet_trace.specs.declared.forwarder.Forwarder.{Forwarder}
use Rattle.packet_trace.specs.Steps.{node_of}
use Rattle.packet_trace.proofs.nodes.place_of.Given as goal

-- none so far is it
abbrev pub invariant-loop-place : goal.invariant-loop-place
invariant-loop-place l =
    (q : ℕ) (d : Forwarder) → q < l.place → node_of (slice_index_or l.forwarders q d) ≢ system_node l.fn.system
