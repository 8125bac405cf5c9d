use Rattle.std.proofs.Common.{◌<◌, ℕ, List, subst}
use Rattle.std.specs.List.{AllByRecursion}
use Rattle.isis_base.specs.AreaTexts.{area_text}
use Rattle.isis_base.proofs.AreaLemmas.{SpellsArea-written, SpellsArea-one, area_of-spelled}
use Rattle.isis_base.proofs.laws.area_text_laws.Goals as goal

pub returns-clause-written : goal.returns-clause-written
returns-clause-written c =
    let sized = c.octets.ensures.sized in
    let small = subst (λ (xs : List ℕ). AllByRecursion (λ octet. octet < 256) xs) c.octets.ensures.value c.octets_law.ensures in
    SpellsArea-written c.args.area sized.0 sized.1 small

pub returns-clause-one : goal.returns-clause-one
returns-clause-one c = SpellsArea-one

pub returns-clause-read : goal.returns-clause-read
returns-clause-read c = area_of-spelled (area_text c.args.area) c.args.area (returns-clause-written c)
