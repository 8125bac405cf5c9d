use Rattle.std.proofs.Common.{◌≡◌, ◌++◌}
use Rattle.std.specs.List.{flat_map}
use Rattle.std.specs.Result.{ok_prefix}
use Rattle.isis_tlv.specs.Items.{values_of}
use Rattle.isis_tlv.specs.Tlvs.{tlv_list}
use Rattle.lsp_view.specs.Bodies.{body_of, items_if}
use Rattle.lsp_view.proofs.body.add_items.Given as goal

-- the items so far, and those of the TLVs that are left
abbrev pub invariant-loop-tlv : goal.invariant-loop-tlv
invariant-loop-tlv g l =
    l.items.items ++ flat_map (items_if l.code (values_of g.I.Item.first 0)) (ok_prefix l.tlv-iterator)
    ≡ l.fn.items.items ++ flat_map (items_if l.code (values_of g.I.Item.first 0)) (tlv_list 0 (body_of l.octets))
