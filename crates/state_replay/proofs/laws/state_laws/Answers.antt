use Rattle.std.proofs.Common.{map, subst}
use Rattle.circuit_threads.specs.History.{entries}
use Rattle.journal_text.specs.Written.{entry_read}
use Rattle.router_core.specs.Givens.{given}
use Rattle.weave_model.specs.Faults.{AreGood}
use Rattle.state_replay.proofs.LawLemmas.{behind-head, after-first, never-stopped, modelled-read}
use Rattle.state_replay.proofs.laws.state_laws.Goals as goal

pub returns-clause-taken : goal.returns-clause-taken
returns-clause-taken c = λ first now notes stop journal more line most why history may ranges is stopped.
    never-stopped first journal more line most why (map entry_read (entries notes))
    (behind-head _ journal more _ is (c.journal_law.ensures (entries notes) (c.numbered_law.ensures first now notes stop history) ranges))
    (subst (AreGood given first) (modelled-read (entries notes)) (c.history_law.ensures first now notes stop history may))
    stopped

pub returns-clause-state : goal.returns-clause-state
returns-clause-state c = λ first now r notes stop journal more rest done history ranges is replayed.
    after-first first r journal more rest done (map entry_read (entries notes)) replayed
    (behind-head _ journal more _ is (c.journal_law.ensures (entries notes) (c.numbered_law.ensures first now notes stop history) ranges))
