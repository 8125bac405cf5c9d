use Rattle.std.proofs.Common.{◌≡◌, ◌*◌, ◌++◌, length, drop, take}
use Rattle.std.specs.List.{AllByRecursion}
use Rattle.isis_tlv.specs.Spelling.{snpa_value}
use Rattle.isis_tlv.specs.Fits.{IsSnpa}
use Rattle.isis_tlv.proofs.snpa.put_snpas.Given as goal

-- what is written and what is left to write give the whole, and what is written has the sizes of its fields
abbrev pub invariant-loop-snpa : goal.invariant-loop-snpa
invariant-loop-snpa l = record {
  whole : l.draft ++ snpa_value (drop l.snpa-index l.list) ≡ snpa_value l.list;
  fits : AllByRecursion IsSnpa (take l.snpa-index l.list);
  count : length l.draft ≡ 6 * l.snpa-index;
}
