use Rattle.std.proofs.Common.{take}
use Rattle.weave_text.proofs.WovenLemmas.{refused-at, limited-at, fault-is}
use Rattle.weave_text.proofs.laid.refused_by.Goals as goal

pub returns-in-Refused : goal.returns-in-Refused
returns-in-Refused c =
    refused-at c.args.count c.args.lines.now c.in-Refused.line c.in-Refused.reason c.refused_at.result
    (fault-is (take c.args.count c.args.lines.now.lines) c.args.fault _ c.in-Refused.is c.requires) c.refused_at.ensures

pub returns-in-Limit : goal.returns-in-Limit
returns-in-Limit c =
    limited-at c.args.count c.args.lines.now c.in-Limit.which (fault-is (take c.args.count c.args.lines.now.lines) c.args.fault _ c.in-Limit.is c.requires)
