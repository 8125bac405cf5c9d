use Rattle.std.proofs.Common.{◌∙◌}
use Rattle.router_desk.proofs.TwinLemmas.{same-numbers}
use Rattle.router_desk.proofs.items.is_own.Goals as goal

pub returns : goal.returns
returns c =
    let snpa = c.are_six.ensures in
    let own = c.are_six-2.ensures in
    c.eq.ensures ∙ same-numbers c.args.snpa.0 c.args.own.0 snpa.six snpa.small own.six own.small
