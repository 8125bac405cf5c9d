use Rattle.std.proofs.Common.{refl}
use Rattle.weave_replay.specs.Entries.{answer_of}
use Rattle.weave.proofs.TakeLemmas.{take-code}
use Rattle.weave.proofs.entry_moves.move_of.Goals as goal

pub returns-in-Ok-sends_on : goal.returns-in-Ok-sends_on
returns-in-Ok-sends_on c =
    take-code c.args.book.now c.args.ports.now c.args.entry.now.event c.in-Take.circuit c.from-in-Take.result c.in-Take.octets c.as_slice.result.now (answer_of c.args.entry.now.reply) c.code-letter.result _ c.in-Take.is c.from-in-Take.ensures c.as_slice.ensures c.requires.on c.requires.lettered c.code-letter.ensures refl c.in-Ok-sends_on.ensures
