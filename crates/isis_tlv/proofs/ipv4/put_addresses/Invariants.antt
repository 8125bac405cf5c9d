use Rattle.std.proofs.Common.{◌≡◌, ◌*◌, ◌++◌, length, drop}
use Rattle.isis_tlv.specs.Spelling.{address_value}
use Rattle.isis_tlv.proofs.ipv4.put_addresses.Given as goal

-- what is written and what is left to write give the whole
abbrev pub invariant-loop-address : goal.invariant-loop-address
invariant-loop-address l = record {
  whole : l.draft ++ address_value (drop l.address-index l.list) ≡ address_value l.list;
  count : length l.draft ≡ 4 * l.address-index;
}
