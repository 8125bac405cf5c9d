use Rattle.designated_is.proofs.BestLemmas.{best_elected}
use Rattle.designated_is.proofs.election.elect.Goals as goal

pub returns-clause-elected : goal.returns-clause-elected
returns-clause-elected c =
    best_elected c.args.candidates.now c.in_ok-first.first.now c.best.result c.in_ok-first.others.now c.in_ok-first.ensures.cases.0 c.best.ensures
