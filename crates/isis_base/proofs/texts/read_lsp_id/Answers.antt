use Rattle.std.proofs.Common.{◌≡◌, ◌∙◌, ℕ, List, Ok, None, take, sym, ap, subst, rules}
use Rattle.std.proofs.Math.Seq.{take-length}
use Rattle.isis_base.specs.Identifiers.{lsp_octets, lsp_from}
use Rattle.isis_base.specs.Misfit.{misfit_of, octets_of}
use Rattle.isis_base.specs.Texts.{Spells}
use Rattle.isis_base.specs.declared.texts.TheConstants.{LSP_TEXT}
use Rattle.isis_base.proofs.SpellingLemmas.{IsFaultAt-from_misfit, Spells-from_misfit, Spells-one}
use Rattle.isis_base.proofs.texts.read_lsp_id.Goals as goal

pub returns-in-Some-clause-err : goal.returns-in-Some-clause-err
returns-in-Some-clause-err c = IsFaultAt-from_misfit LSP_TEXT c.args.text.now c.in-Some.place (search rules) (sym (c.in-Some.ensures.place ∙ ap (misfit_of LSP_TEXT) c.as_bytes.ensures.value))

pub returns-in-None-clause-ok : goal.returns-in-None-clause-ok
returns-in-None-clause-ok c =
    let xs = c.read_parts.new.octets in
    let text = c.args.text.now in
    let fits : misfit_of LSP_TEXT text ≡ None = sym (c.in-None.ensures.place ∙ ap (misfit_of LSP_TEXT) c.as_bytes.ensures.value) in
    let whole : take 8 xs ≡ xs = subst (λ (n : ℕ). take n xs ≡ xs) c.read_parts.auto.octets (take-length xs) in
    let octets : octets_of LSP_TEXT text ≡ _ = sym (sym whole ∙ c.in-None.ensures.octets ∙ ap (octets_of LSP_TEXT) c.as_bytes.ensures.value) ∙ sym c.lsp_of.ensures.octets in
    subst (λ (x : List ℕ). Spells LSP_TEXT text x) octets (Spells-from_misfit LSP_TEXT text (search rules) fits)

pub returns-in-Some-clause-read : goal.returns-in-Some-clause-read
returns-in-Some-clause-read c = λ octets s. absurd ((returns-in-Some-clause-err c).none (octets, s))

pub returns-in-None-clause-read : goal.returns-in-None-clause-read
returns-in-None-clause-read c = λ octets s.
    let id = c.lsp_of.result in
    let same : lsp_octets id ≡ octets = Spells-one LSP_TEXT c.args.text.now (lsp_octets id) octets (search rules) (returns-in-None-clause-ok c) s in
    ap Ok (c.lsp_of.ensures.value ∙ ap lsp_from (sym c.lsp_of.ensures.octets ∙ same))
