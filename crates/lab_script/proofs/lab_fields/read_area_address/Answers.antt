use Rattle.std.proofs.Common.{sym}
use Rattle.lab_script.proofs.TextLemmas.{area_of-text}
use Rattle.lab_script.proofs.lab_fields.read_area_address.Goals as goal

pub returns-in-Err : goal.returns-in-Err
returns-in-Err c = sym (area_of-text c.args.word.now c.in-Err.ensures.cases.0)
