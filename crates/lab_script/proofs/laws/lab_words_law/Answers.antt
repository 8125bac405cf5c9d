use Rattle.lab_script.proofs.LabPrintLemmas.{lab_line_of-words}
use Rattle.lab_script.proofs.laws.lab_words_law.Goals as goal

pub returns : goal.returns
returns c = lab_line_of-words
