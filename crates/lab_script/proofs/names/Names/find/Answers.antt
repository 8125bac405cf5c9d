use Rattle.std.proofs.Common.{◌∙◌, ◌<◌, ℕ, Option, IfSome, length, sym, ap, subst}
use Rattle.lab_script.specs.Index.{names_of}
use Rattle.lab_script.specs.Names.{number_of_name}
use Rattle.lab_script.proofs.NameLemmas.{number_of_name-within}
use Rattle.lab_script.proofs.names.Names.find.Goals as goal

pub returns-clause-there : goal.returns-clause-there
returns-clause-there c =
    let names = names_of c.self.inside in
    let found = c.copied.ensures ∙ c.get.ensures.value ∙ c.self.invariant.finds c.as_bytes.result.now ∙ ap (number_of_name names) c.as_bytes.ensures.value in
    rw (← c.self.view_is)
    (subst (λ (o : Option ℕ). IfSome o (λ router. router < length names)) (sym found) (number_of_name-within names c.args.name.now))
