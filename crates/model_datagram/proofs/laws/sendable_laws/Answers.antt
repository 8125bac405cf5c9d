-- Each entry with a key of a router may be sent.
use Rattle.isis_base.specs.declared.level.Level.TheVariants as level
use Rattle.model_datagram.proofs.SendLemmas.{step-sendable}
use Rattle.model_datagram.proofs.laws.sendable_laws.Goals as goal

pub returns-clause-start : goal.returns-clause-start
returns-clause-start c config boot circuits level.One id cell e = absurd (cc)
returns-clause-start c config boot circuits level.Two id cell e = absurd (cc)

pub returns-clause-step : goal.returns-clause-step
returns-clause-step c = step-sendable
