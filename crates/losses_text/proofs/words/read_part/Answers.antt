use Rattle.losses_text.proofs.WordLemmas.{two-slashes}
use Rattle.losses_text.proofs.words.read_part.Goals as goal

pub returns-in-Some-clause-part : goal.returns-in-Some-clause-part
returns-in-Some-clause-part c =
    two-slashes c.args.word.now c.cut.result.0.now c.cut.result.1 c.in_ok-behind.field-0 c.cut-2.result.0.now c.cut-2.result.1 c.in-Some.field-0
    c.cut.ensures.parts c.in_ok-behind.was c.cut-2.ensures.parts c.in-Some.is
