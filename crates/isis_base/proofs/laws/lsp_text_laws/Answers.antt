use Rattle.std.proofs.Common.{◌≡◌, ◌<◌, ◌∙◌, ℕ, List, Some, length, ap, subst, arith, rules}
use Rattle.std.specs.List.{AllByRecursion}
use Rattle.std.specs.Option.{option_map}
use Rattle.isis_base.specs.Identifiers.{lsp_octets, lsp_from}
use Rattle.isis_base.specs.Texts.{Spells, form_text, lsp_text}
use Rattle.isis_base.specs.declared.texts.TheConstants.{LSP_TEXT}
use Rattle.isis_base.proofs.ArrayLemmas.{lsp-same, lsp_from-octets}
use Rattle.isis_base.proofs.SpellingLemmas.{Spells-spelled, Spells-one, text_octets-spelled}
use Rattle.isis_base.proofs.laws.lsp_text_laws.Goals as goal

-- the text that is written spells the octets
written : (octets result : List ℕ) → AllByRecursion (λ octet. octet < 256) result → result ≡ octets → length octets ≡ 8 → Spells LSP_TEXT (form_text LSP_TEXT octets) octets
written octets result small same eight =
    Spells-spelled LSP_TEXT octets (search rules) (subst (λ (xs : List ℕ). AllByRecursion (λ octet. octet < 256) xs) same small) eight

pub returns-clause-written : goal.returns-clause-written
returns-clause-written c =
    let call = c.octets_of_lsp-octets in
    written (lsp_octets c.args.a) call.result call.ensures.small call.ensures.value (omega (arith, ap length call.ensures.value))

pub returns-clause-read : goal.returns-clause-read
returns-clause-read c =
    let call = c.octets_of_lsp-octets in
    let spells = written (lsp_octets c.args.a) call.result call.ensures.small call.ensures.value (omega (arith, ap length call.ensures.value)) in
    ap (option_map lsp_from) (text_octets-spelled LSP_TEXT (lsp_text c.args.a) (lsp_octets c.args.a) (search rules) spells)
    ∙ ap Some (lsp_from-octets c.args.a (omega arith))

pub returns-clause-one : goal.returns-clause-one
returns-clause-one c = λ text p q. lsp-same c.args.a c.args.b (omega arith) (omega arith) (Spells-one LSP_TEXT text (lsp_octets c.args.a) (lsp_octets c.args.b) (search rules) p q)
