use Rattle.std.proofs.Common.{ℕ, ◌<◌, length, Option, IfSome, sym, subst}
use Rattle.lab_script.specs.Scripts.{names_in}
use Rattle.lab_script.proofs.NameLemmas.{number_of_name-within}
use Rattle.trace_text.proofs.find.find_trace.Goals as goal

pub find_from-requires-clause-there : goal.find_from-requires-clause-there
find_from-requires-clause-there c =
    subst (λ (number : Option ℕ). IfSome number (λ router. router < length (names_in c.args.script.now)))
    (sym c.in-Some.ensures) (number_of_name-within (names_in c.args.script.now) c.args.name.now)
