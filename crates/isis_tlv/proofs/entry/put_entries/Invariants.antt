use Rattle.std.proofs.Common.{◌≡◌, ◌*◌, ◌++◌, length, drop, take}
use Rattle.std.specs.List.{AllByRecursion}
use Rattle.isis_tlv.specs.Spelling.{entry_value}
use Rattle.isis_tlv.specs.Fits.{IsEntry}
use Rattle.isis_tlv.proofs.entry.put_entries.Given as goal

-- what is written and what is left to write give the whole, and what is written has the sizes of its fields
abbrev pub invariant-loop-entry : goal.invariant-loop-entry
invariant-loop-entry l = record {
  whole : l.draft ++ entry_value (drop l.entry-index l.list) ≡ entry_value l.list;
  fits : AllByRecursion IsEntry (take l.entry-index l.list);
  count : length l.draft ≡ 16 * l.entry-index;
}
