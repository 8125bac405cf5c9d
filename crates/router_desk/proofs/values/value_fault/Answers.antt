use Rattle.std.proofs.Common.{rules}
use Rattle.isis_tlv.specs.TlvViews.{one_view}
use Rattle.router_desk.proofs.ValueLemmas.{value-in}
use Rattle.router_desk.proofs.values.value_fault.Goals as goal

pub returns-in-LanHello-clause-within : goal.returns-in-LanHello-clause-within
returns-in-LanHello-clause-within c = let within = value-in c.args.kind (one_view c.args.tlv.now) in search rules

pub returns-in-Csnp-clause-within : goal.returns-in-Csnp-clause-within
returns-in-Csnp-clause-within c = let within = value-in c.args.kind (one_view c.args.tlv.now) in search rules
