use Rattle.std.proofs.Common.{rules}
use Rattle.isis_tlv.proofs.WalkLemmas.{values-end, values-item, values-fault}
use Rattle.isis_tlv.proofs.items.ItemsIterator.next.Goals as goal

pub returns-then-is_done-clause-steps : goal.returns-then-is_done-clause-steps
returns-then-is_done-clause-steps g c =
    let none = values-end g.I.Item.first g.met.I.Item.takes _ _ _ c.self.view_is c.if-is_done.ensures in (none, none)

pub returns-in_default-clause-steps : goal.returns-in_default-clause-steps
returns-in_default-clause-steps g c =
    values-fault g.I.Item.first g.met.I.Item.takes _ _ _ _ c.stop-place.new.self.place _ c.self.view_is c.if-is_done.ensures c.in_default.ensures.first c.stop-place.ensures.octets c.stop-place.ensures.place

pub returns-in_default-clause-goes : goal.returns-in_default-clause-goes
returns-in_default-clause-goes g c = let steps = returns-in_default-clause-steps g c in search rules

pub returns-clause-steps : goal.returns-clause-steps
returns-clause-steps g c =
    values-item g.I.Item.first g.met.I.Item.takes _ _ _ _ _ _ _ c.self.view_is c.if-is_done.ensures c.in-Some.ensures.first c.pass.ensures.octets c.pass.ensures.place

pub returns-clause-goes : goal.returns-clause-goes
returns-clause-goes g c = let steps = returns-clause-steps g c in search rules
