use Rattle.std.proofs.Common.{◌≡◌, length, ap, arith}
use Rattle.isis_base.specs.Texts.{form_text}
use Rattle.isis_base.specs.declared.texts.TheConstants.{SYSTEM_TEXT}
use Rattle.isis_base.proofs.ArrayLemmas.{list_of_6}
use Rattle.isis_base.proofs.display.SystemIdDisplay.fmt.Goals as goal

pub returns-clause-writes : goal.returns-clause-writes
returns-clause-writes g c plain ok =
    let six : length c.args.self.now.0 ≡ 6 = omega arith in
    rw (← ap (form_text SYSTEM_TEXT) (list_of_6 c.args.self.now.0 six)) (c.write.ensures.writes plain ok)
