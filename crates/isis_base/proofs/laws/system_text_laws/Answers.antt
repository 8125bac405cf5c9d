use Rattle.std.proofs.Common.{◌≡◌, ◌<◌, ℕ, List, length, ap, subst, arith, rules}
use Rattle.std.specs.List.{AllByRecursion}
use Rattle.std.specs.Option.{option_map}
use Rattle.isis_base.specs.Identifiers.{system_from}
use Rattle.isis_base.specs.Texts.{Spells, form_text, system_text}
use Rattle.isis_base.specs.declared.texts.TheConstants.{SYSTEM_TEXT}
use Rattle.isis_base.proofs.SpellingLemmas.{Spells-spelled, Spells-one, text_octets-spelled}
use Rattle.isis_base.proofs.laws.system_text_laws.Goals as goal

-- the text that is written spells the octets
written : (octets result : List ℕ) → AllByRecursion (λ octet. octet < 256) result → result ≡ octets → length octets ≡ 6 → Spells SYSTEM_TEXT (form_text SYSTEM_TEXT octets) octets
written octets result small same eight =
    Spells-spelled SYSTEM_TEXT octets (search rules) (subst (λ (xs : List ℕ). AllByRecursion (λ octet. octet < 256) xs) same small) eight

pub returns-clause-written : goal.returns-clause-written
returns-clause-written c =
    let call = c.octets_of_system-octets in
    written c.args.a.0 call.result call.ensures.small call.ensures.value (omega (arith, ap length call.ensures.value))

pub returns-clause-read : goal.returns-clause-read
returns-clause-read c =
    let call = c.octets_of_system-octets in
    let spells = written c.args.a.0 call.result call.ensures.small call.ensures.value (omega (arith, ap length call.ensures.value)) in
    ap (option_map system_from) (text_octets-spelled SYSTEM_TEXT (system_text c.args.a) c.args.a.0 (search rules) spells)

pub returns-clause-one : goal.returns-clause-one
returns-clause-one c = λ text p q. ap system_from (Spells-one SYSTEM_TEXT text c.args.a.0 c.args.b.0 (search rules) p q)
