use Rattle.std.proofs.Common.{sym}
use Rattle.lab_script.proofs.IdLemmas.{id_of-text}
use Rattle.lab_script.proofs.fields.read_id.Goals as goal

pub returns-in-Err : goal.returns-in-Err
returns-in-Err c = sym (id_of-text c.args.word.now c.in-Err.ensures.cases.0)
