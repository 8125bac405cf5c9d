use Rattle.std.proofs.lemmas.Result.{on_ok_weaker}
use Rattle.weave.proofs.TakeLemmas.{lettered-take}
use Rattle.weave.proofs.LetterLemmas.{kept-either}
use Rattle.weave.proofs.takes.add_take.Goals as goal

pub returns-in-Take-clause-kept : goal.returns-in-Take-clause-kept
returns-in-Take-clause-kept c = kept-either c.add.result c.args.book.now c.add.new.self _ _ c.add.ensures.ok c.add.ensures.err

pub returns-in-Take-clause-lettered : goal.returns-in-Take-clause-lettered
returns-in-Take-clause-lettered c =
    on_ok_weaker c.add.result
    (lettered-take c.args.book.now c.add.new.self c.args.ports.now c.args.entry.now.event c.in-Take.circuit c.from.result c.in-Take.octets c.as_slice.result.now c.in-Take.is c.from.ensures c.as_slice.ensures c.requires)
    c.add.ensures.ok
