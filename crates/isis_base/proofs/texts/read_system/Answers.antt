use Rattle.std.proofs.Common.{◌≡◌, ◌∙◌, ℕ, List, Ok, None, take, sym, ap, subst, rules}
use Rattle.std.proofs.Math.Seq.{take-length}
use Rattle.isis_base.specs.Identifiers.{system_from}
use Rattle.isis_base.specs.Misfit.{misfit_of, octets_of}
use Rattle.isis_base.specs.Texts.{Spells}
use Rattle.isis_base.specs.declared.texts.TheConstants.{SYSTEM_TEXT}
use Rattle.isis_base.proofs.SpellingLemmas.{IsFaultAt-from_misfit, Spells-from_misfit, Spells-one}
use Rattle.isis_base.proofs.texts.read_system.Goals as goal

pub returns-in-Some-clause-err : goal.returns-in-Some-clause-err
returns-in-Some-clause-err c = IsFaultAt-from_misfit SYSTEM_TEXT c.args.text.now c.in-Some.place (search rules) (sym (c.in-Some.ensures.place ∙ ap (misfit_of SYSTEM_TEXT) c.as_bytes.ensures.value))

pub returns-in-None-clause-ok : goal.returns-in-None-clause-ok
returns-in-None-clause-ok c =
    let xs = c.read_parts.new.octets in
    let text = c.args.text.now in
    let fits : misfit_of SYSTEM_TEXT text ≡ None = sym (c.in-None.ensures.place ∙ ap (misfit_of SYSTEM_TEXT) c.as_bytes.ensures.value) in
    let whole : take 6 xs ≡ xs = subst (λ (n : ℕ). take n xs ≡ xs) c.read_parts.auto.octets (take-length xs) in
    let octets : octets_of SYSTEM_TEXT text ≡ _ = sym (sym whole ∙ c.in-None.ensures.octets ∙ ap (octets_of SYSTEM_TEXT) c.as_bytes.ensures.value) in
    subst (λ (x : List ℕ). Spells SYSTEM_TEXT text x) octets (Spells-from_misfit SYSTEM_TEXT text (search rules) fits)

pub returns-in-Some-clause-read : goal.returns-in-Some-clause-read
returns-in-Some-clause-read c = λ octets s. absurd ((returns-in-Some-clause-err c).none (octets, s))

pub returns-in-None-clause-read : goal.returns-in-None-clause-read
returns-in-None-clause-read c = λ octets s.
    ap (λ (xs : List ℕ). Ok (system_from xs)) (Spells-one SYSTEM_TEXT c.args.text.now c.read_parts.new.octets octets (search rules) (returns-in-None-clause-ok c) s)
