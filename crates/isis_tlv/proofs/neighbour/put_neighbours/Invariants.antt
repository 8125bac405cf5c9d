use Rattle.std.proofs.Common.{◌≡◌, ◌*◌, ◌++◌, length, drop, take}
use Rattle.std.specs.List.{AllByRecursion}
use Rattle.isis_tlv.specs.Spelling.{neighbour_value}
use Rattle.isis_tlv.specs.Fits.{IsNeighbour}
use Rattle.isis_tlv.proofs.neighbour.put_neighbours.Given as goal

-- what is written and what is left to write give the whole, and what is written has the sizes of its fields
abbrev pub invariant-loop-item : goal.invariant-loop-item
invariant-loop-item l = record {
  whole : l.draft ++ neighbour_value (drop l.item-index l.list) ≡ neighbour_value l.list;
  fits : AllByRecursion IsNeighbour (take l.item-index l.list);
  count : length l.draft ≡ 11 * l.item-index;
}
