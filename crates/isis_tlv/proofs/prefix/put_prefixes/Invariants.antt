use Rattle.std.proofs.Common.{◌≡◌, ◌++◌, drop, take}
use Rattle.std.specs.List.{AllByRecursion}
use Rattle.isis_tlv.specs.Spelling.{prefix_value}
use Rattle.isis_tlv.specs.Fits.{IsPrefix}
use Rattle.isis_tlv.proofs.prefix.put_prefixes.Given as goal

-- what is written and what is left to write give the whole, and what is written has the sizes of its fields
abbrev pub invariant-loop-item : goal.invariant-loop-item
invariant-loop-item l = record {
  whole : l.draft ++ prefix_value (drop l.item-index l.list) ≡ prefix_value l.list;
  fits : AllByRecursion IsPrefix (take l.item-index l.list);
}
