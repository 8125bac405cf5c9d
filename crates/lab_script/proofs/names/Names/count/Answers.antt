use Rattle.std.proofs.Common.{arith}
use Rattle.lab_script.proofs.NameLemmas.{length-texts}
use Rattle.lab_script.proofs.names.Names.count.Goals as goal

pub returns : goal.returns
returns c = rw (← c.self.view_is) (omega (arith, c.len.ensures, length-texts c.self.inside.list.items))
