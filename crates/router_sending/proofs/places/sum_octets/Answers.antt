use Rattle.std.proofs.Common.{◌∙◌, ℕ, ◌-◌, List, length, drop, ap, sym}
use Rattle.model_datagram.specs.CheckOctets.{with_checksum}
use Rattle.router_sending.proofs.SumLemmas.{sum-written, sum-read}
use Rattle.router_sending.proofs.places.sum_octets.Goals as goal

pub returns-clause-sum : goal.returns-clause-sum
returns-clause-sum c =
    let law = c.checksum_law.ensures in
    let octets : List ℕ = c.args.octets.now in
    let summed = drop 12 octets in
    let weight = length octets - 25 in
    c.u16_at.ensures ∙ sum-read octets c.fill.new.octets c.requires.header c.requires.blank (law.first summed weight) (law.second summed weight) c.fill.ensures.others c.fill.ensures.only

pub returns-clause-octets : goal.returns-clause-octets
returns-clause-octets c =
    let law = c.checksum_law.ensures in
    let octets : List ℕ = c.args.octets.now in
    let summed = drop 12 octets in
    let weight = length octets - 25 in
    let first = law.first summed weight in
    let second = law.second summed weight in
    let others = c.fill.ensures.others in
    let only = c.fill.ensures.only in
    sum-written octets c.fill.new.octets c.requires.header c.requires.blank first second others only
    ∙ ap (λ (sum : ℕ). with_checksum 24 sum octets) (sym (c.u16_at.ensures ∙ sum-read octets c.fill.new.octets c.requires.header c.requires.blank first second others only))
