use Rattle.weave_replay.proofs.JournalLemmas.{first-boot}
use Rattle.weave_replay.proofs.TellLemmas.{all-good}
use Rattle.weave_replay.proofs.laws.replay_laws.Goals as goal

pub returns-clause-boot : goal.returns-clause-boot
returns-clause-boot c = first-boot c.step_bonds.ensures.stays

pub returns-clause-good : goal.returns-clause-good
returns-clause-good c = all-good
