use Rattle.std.proofs.Common.{◌≡◌, ◌++◌, drop, take}
use Rattle.std.specs.List.{AllByRecursion}
use Rattle.isis_tlv.specs.Spelling.{area_value}
use Rattle.isis_tlv.specs.Fits.{IsArea}
use Rattle.isis_tlv.proofs.area.put_areas.Given as goal

-- what is written and what is left to write give the whole, and what is written has the sizes of its fields
abbrev pub invariant-loop-area : goal.invariant-loop-area
invariant-loop-area l = record {
  whole : l.draft ++ area_value (drop l.area-index l.areas) ≡ area_value l.areas;
  fits : AllByRecursion IsArea (take l.area-index l.areas);
}
