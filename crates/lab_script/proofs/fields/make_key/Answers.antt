use Rattle.std.proofs.Common.{sym, arith}
use Rattle.lab_script.proofs.KeyLemmas.{key_from-known}
use Rattle.lab_script.proofs.fields.make_key.Goals as goal

pub returns-in-Ok : goal.returns-in-Ok
returns-in-Ok c = sym (key_from-known c.args.number _ (sym (c.in-Ok.ensures).1) (omega (arith, (c.in-Ok.ensures).0, (c.in-Ok.ensures).1)))
