use Rattle.weave.proofs.LawLemmas.{no-weaving, told-once, told-none, net-run}
use Rattle.weave.proofs.laws.weave_laws.Goals as goal

pub returns-clause-stuck : goal.returns-clause-stuck
returns-clause-stuck c net journals journal entry hs s t w = no-weaving net journals journal entry hs s t.1 w

pub returns-clause-once : goal.returns-clause-once
returns-clause-once c = told-once c.told_laws.ensures.once c.told_laws.ensures.none

pub returns-clause-none : goal.returns-clause-none
returns-clause-none c = told-none c.told_laws.ensures.none

pub returns-clause-run : goal.returns-clause-run
returns-clause-run c = net-run
