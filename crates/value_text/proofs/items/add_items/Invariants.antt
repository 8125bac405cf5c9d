use Rattle.std.proofs.Common.{◌≡◌, ◌++◌}
use Rattle.value_text.specs.ValueLines.{items_lines}
use Rattle.isis_tlv.specs.Items.{values_of}
use Rattle.value_text.proofs.items.add_items.Given as goal

abbrev pub invariant-loop-item : goal.invariant-loop-item
invariant-loop-item g l =
    l.text ++ items_lines g.I.Line.line l.item-iterator ≡ l.initial.text ++ items_lines g.I.Line.line (values_of g.I.Item.first 0 l.value)
