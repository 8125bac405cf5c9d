use Rattle.std.proofs.Common.{sym}
use Rattle.lab_script.proofs.TextLemmas.{system_of-text}
use Rattle.lab_script.proofs.lab_fields.read_system_id.Goals as goal

pub returns-in-Err : goal.returns-in-Err
returns-in-Err c = sym (system_of-text c.args.word.now c.in-Err.ensures.cases.0)
