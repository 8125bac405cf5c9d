use Rattle.std.proofs.Common.{◌≡◌, ◌++◌, drop}
use Rattle.std.specs.List.{flat_map}
use Rattle.isis_base.specs.Texts.{hex_pair}
use Rattle.lab_report.proofs.report.add_octets.Given as goal

-- what is written, and what is left
abbrev pub invariant-loop-octet : goal.invariant-loop-octet
invariant-loop-octet l =
    l.page ++ flat_map hex_pair (drop l.octet-index l.octets) ≡ l.fn.page ++ flat_map hex_pair l.octets
