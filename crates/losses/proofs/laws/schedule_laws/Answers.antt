use Rattle.losses.proofs.OnceLemmas.{all-once}
use Rattle.losses.proofs.WorstLemmas.{worst}
use Rattle.losses.proofs.laws.schedule_laws.Goals as goal

pub returns-clause-once : goal.returns-clause-once
returns-clause-once c = all-once

pub returns-clause-worst : goal.returns-clause-worst
returns-clause-worst c = worst
