use Rattle.weave_replay.proofs.TellLemmas.{told-once, told-none}
use Rattle.weave_replay.proofs.laws.told_laws.Goals as goal

pub returns-clause-once : goal.returns-clause-once
returns-clause-once c = told-once

pub returns-clause-none : goal.returns-clause-none
returns-clause-none c = told-none
