use Rattle.journal_text.proofs.HexWordLemmas.{words-left}
use Rattle.journal_text.proofs.hex_words.HexWords.next.Goals as goal

pub invariant_of-self : goal.invariant_of-self
invariant_of-self c = words-left c.next.result c.self.inside.left c.next.new.self c.next.ensures c.self.invariant
