use Rattle.std.proofs.Common.{◌≡◌}
use Rattle.isis_tlv.specs.Walks.{fault_of}
use Rattle.isis_tlv.specs.Items.{values_of}
use Rattle.lsp_view.proofs.body.is_whole.Given as goal

-- the fault of what is left is that of the whole
abbrev pub invariant-loop-item : goal.invariant-loop-item
invariant-loop-item g l = fault_of l.item-iterator ≡ fault_of (values_of g.I.Item.first 0 l.value)
