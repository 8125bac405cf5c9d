use Rattle.journal_text.proofs.HexWordLemmas.{read-some, read-none}
use Rattle.journal_text.proofs.hex_words.HexWords.read.Goals as goal

pub returns-then-not-write_octets : goal.returns-then-not-write_octets
returns-then-not-write_octets c = read-none c.args.words c.again.result c.write_octets.result c.write_octets.ensures c.again.ensures c.if-not-write_octets.true

pub returns : goal.returns
returns c = read-some c.args.words c.again.result c.write_octets.result c.write_octets.ensures c.again.ensures c.if-not-write_octets.false
