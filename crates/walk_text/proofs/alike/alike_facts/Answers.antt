use Rattle.walk_text.proofs.AlikeLemmas.{are-alike, one-place}
use Rattle.walk_text.proofs.alike.alike_facts.Goals as goal

pub returns-clause-alike : goal.returns-clause-alike
returns-clause-alike c = λ looks are tested.
    are-alike c.args.network.now.seen.routers looks are c.facts_of.ensures.reached c.facts.ensures.systems tested

pub returns-clause-apart : goal.returns-clause-apart
returns-clause-apart c = λ looks p q a b are.
    one-place c.args.network.now.seen.routers looks are c.facts_of.ensures.reached c.facts.ensures.systems p q a b
