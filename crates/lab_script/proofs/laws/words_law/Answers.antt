use Rattle.lab_script.proofs.PrintLemmas.{line_of-words}
use Rattle.lab_script.proofs.laws.words_law.Goals as goal

pub returns : goal.returns
returns c = line_of-words
