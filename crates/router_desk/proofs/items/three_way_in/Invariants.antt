use Rattle.std.proofs.Common.{◌≡◌, ℕ, List, [], ◌∷◌}
use Rattle.isis_tlv.specs.Items.{three_way_of}
use Rattle.model_datagram.specs.Values.{handshakes_in}
use Rattle.router_desk.specs.Left.{items_left}
use Rattle.router_desk.proofs.items.three_way_in.Given as goal

-- no TLV so far had a value
abbrev pub invariant-loop-tlv : goal.invariant-loop-tlv
invariant-loop-tlv l = items_left 240 (λ (value : List ℕ). three_way_of value ∷ []) l.tlv-iterator ≡ handshakes_in l.tlvs
