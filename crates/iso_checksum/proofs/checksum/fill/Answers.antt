use Rattle.std.proofs.Common.{◌≡◌, ◌+◌, ◌-◌, set, length, length-set, ◌∙◌, arith}
use Rattle.iso_checksum.proofs.FillLemmas.{Holds-set_again, only_check_octets}
use Rattle.iso_checksum.proofs.checksum.fill.Goals as goal

pub returns-clause-holds : goal.returns-clause-holds
returns-clause-holds c =
    let old = c.args.octets.now in
    let at = c.args.at in
    let size : length (set (set old at 0) (at + 1) 0) ≡ length old = length-set (set old at 0) (at + 1) 0 ∙ length-set old at 0 in
    let weight = length (set (set old at 0) (at + 1) 0) - at - 1 in
    Holds-set_again old at weight _ _ c.requires.place (omega arith) (omega arith) (omega arith)

pub returns-clause-only : goal.returns-clause-only
returns-clause-only c =
    let check = c.check_octets-first.ensures in
    only_check_octets c.args.octets.now c.args.at 0 0 _ _ c.requires.place check.first check.second (returns-clause-holds c)
