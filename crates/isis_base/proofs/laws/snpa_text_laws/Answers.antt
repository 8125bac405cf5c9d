use Rattle.std.proofs.Common.{◌≡◌, ◌<◌, ℕ, List, length, ap, subst, arith, rules}
use Rattle.std.specs.List.{AllByRecursion}
use Rattle.isis_base.specs.declared.identifiers.Snpa.{Snpa}
use Rattle.isis_base.specs.declared.texts.TheConstants.{SYSTEM_TEXT}
use Rattle.isis_base.proofs.SpellingLemmas.{Spells-spelled, Spells-one}
use Rattle.isis_base.proofs.laws.snpa_text_laws.Goals as goal

pub returns-clause-written : goal.returns-clause-written
returns-clause-written c =
    let call = c.octets_of_system-octets in
    let small = subst (λ (xs : List ℕ). AllByRecursion (λ octet. octet < 256) xs) call.ensures.value call.ensures.small in
    Spells-spelled SYSTEM_TEXT c.args.a.0 (search rules) small (omega (arith, ap length call.ensures.value))

pub returns-clause-one : goal.returns-clause-one
returns-clause-one c = λ text p q.
    let same : c.args.a.0 ≡ c.args.b.0 = Spells-one SYSTEM_TEXT text c.args.a.0 c.args.b.0 (search rules) p q in
    ap (λ (octets : List ℕ). let snpa : Snpa = record { 0 = octets } in snpa) same
