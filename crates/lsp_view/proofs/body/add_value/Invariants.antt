use Rattle.std.proofs.Common.{◌≡◌, ◌++◌}
use Rattle.std.specs.Result.{ok_prefix}
use Rattle.isis_tlv.specs.Items.{values_of}
use Rattle.lsp_view.proofs.body.add_value.Given as goal

-- the items so far, and what is left
abbrev pub invariant-loop-item : goal.invariant-loop-item
invariant-loop-item g l =
    l.items.items ++ ok_prefix l.item-iterator
    ≡ l.fn.items.items ++ ok_prefix (values_of g.I.Item.first 0 l.value)
