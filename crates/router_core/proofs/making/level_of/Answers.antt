use Rattle.std.proofs.Common.{◌∙◌}
use Rattle.router_core.proofs.StartLemmas.{level-starts}
use Rattle.router_core.proofs.making.level_of.Goals as goal

-- src/making.rt
pub returns-clause-state : goal.returns-clause-state
returns-clause-state c =
    level-starts c.new.result c.args.circuits.now c.deref.result.now (c.deref.ensures.value ∙ c.in_ok-kinds.ensures) c.new.ensures.state
