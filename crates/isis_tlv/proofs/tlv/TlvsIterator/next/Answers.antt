use Rattle.std.proofs.Common.{rules}
use Rattle.isis_tlv.specs.Tlvs.{tlv_at}
use Rattle.isis_tlv.proofs.WalkLemmas.{items-end, items-item, items-fault}
use Rattle.isis_tlv.proofs.SizeLemmas.{tlv-takes_one}
use Rattle.isis_tlv.proofs.tlv.TlvsIterator.next.Goals as goal

pub returns-then-is_done-clause-steps : goal.returns-then-is_done-clause-steps
returns-then-is_done-clause-steps c =
    let none = items-end tlv_at tlv-takes_one _ _ _ c.self.view_is c.if-is_done.ensures in (none, none)

pub returns-in-Ok-clause-steps : goal.returns-in-Ok-clause-steps
returns-in-Ok-clause-steps c =
    items-item tlv_at tlv-takes_one _ _ _ _ _ _ _ c.self.view_is c.if-is_done.ensures c.in-Ok.ensures c.pass.ensures.octets c.pass.ensures.place

pub returns-in-Ok-clause-goes : goal.returns-in-Ok-clause-goes
returns-in-Ok-clause-goes c = let steps = returns-in-Ok-clause-steps c in search rules

pub returns-in-Err-clause-steps : goal.returns-in-Err-clause-steps
returns-in-Err-clause-steps c =
    items-fault tlv_at tlv-takes_one _ _ _ _ c.stop.new.self.place _ c.self.view_is c.if-is_done.ensures c.in-Err.ensures c.stop.ensures.octets

pub returns-in-Err-clause-goes : goal.returns-in-Err-clause-goes
returns-in-Err-clause-goes c = let steps = returns-in-Err-clause-steps c in search rules
