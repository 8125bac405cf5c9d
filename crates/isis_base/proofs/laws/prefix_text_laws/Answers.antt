use Rattle.std.proofs.Common.{refl, arith}
use Rattle.isis_base.specs.PrefixTexts.{prefix_text}
use Rattle.isis_base.proofs.PrefixLemmas.{SpellsPrefix-one, prefix_parts-spelled}
use Rattle.isis_base.proofs.laws.prefix_text_laws.Goals as goal

pub returns-clause-written : goal.returns-clause-written
returns-clause-written c =
    let prefix = c.args.prefix in
    record { small = omega arith; fits = prefix.fits; clear = prefix.clear; same = refl }

pub returns-clause-one : goal.returns-clause-one
returns-clause-one c = SpellsPrefix-one

pub returns-clause-read : goal.returns-clause-read
returns-clause-read c = let prefix = c.args.prefix in prefix_parts-spelled (prefix_text prefix.address prefix.length) prefix.address prefix.length (returns-clause-written c)
