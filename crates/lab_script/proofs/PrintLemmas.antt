-- The words of a line are read as that line.
use Rattle.std.proofs.Common.{◌≡◌, ◌∙◌, ℕ, ◌<◌, ◌^◌, Bool, true, false, List, [], ◌∷◌, ◌++◌, Option, Some, refl, ap, arith, rules}
use Rattle.std.specs.Prelude.{decimal, option_and_then}
use Rattle.std.specs.Option.{option_map}
use Rattle.std.proofs.lemmas.List.{length-append}
use Rattle.isis_base.specs.declared.identifiers.LspId.{LspId}
use Rattle.isis_base.specs.declared.key.Key.{Key}
use Rattle.isis_base.specs.declared.texts.TheConstants.{LSP_TEXT}
use Rattle.isis_base.specs.Identifiers.{IsId, lsp_from, lsp_octets}
use Rattle.isis_base.specs.Texts.{lsp_text}
use Rattle.isis_base.proofs.ArrayLemmas.{lsp_from-octets}
use Rattle.isis_base.proofs.SpellingLemmas.{Spells-spelled, text_octets-spelled}
use Rattle.lab_script.specs.declared.line.KeysLine.{KeysLine}
use Rattle.lab_script.specs.declared.line.KeysLine.TheVariants.{Router, Link, Issue, Pass}
use Rattle.lab_script.specs.Fields.{name_of, id_of, mark_of, key_from, key_of}
use Rattle.line_cuts.specs.Forms.{field, field_of_two, done}
use Rattle.lab_script.specs.KeysLines.{line_of}
use Rattle.lab_script.specs.Printed.{IsLine, mark_text, words_in}
use Rattle.line_cuts.proofs.NumberTexts.{numeral_of-decimal}
use Rattle.lab_script.proofs.NumberTexts.{copy-read}
use Rattle.lab_script.proofs.KeyLemmas.{key_from-known}

id-read : (id : LspId) → IsId id → id_of (lsp_text id) ≡ Some id
id-read id h =
    let six = h.six in
    let spells = Spells-spelled LSP_TEXT (lsp_octets id) (search rules) h.small (omega (arith, length-append id.node.system.0 (id.node.pseudonode ∷ []), length-append (id.node.system.0 ++ id.node.pseudonode ∷ []) (id.number ∷ []))) in
    ap (option_map lsp_from) (text_octets-spelled LSP_TEXT (lsp_text id) (lsp_octets id) (search rules) spells)
    ∙ ap Some (lsp_from-octets id h.six)

mark-read : (purged : Bool) → mark_of (mark_text purged) ≡ Some purged
mark-read true = refl
mark-read false = refl

key-read : (key : Key) → key.number < 2 ^ 32 → key_of (decimal key.number) (mark_text key.purged) ≡ Some key
key-read key h =
    ap (option_and_then (λ n. option_and_then (λ purged. key_from n purged) (mark_of (mark_text key.purged)))) (numeral_of-decimal key.number (omega (arith, h)))
    ∙ ap (option_and_then (λ purged. key_from key.number purged)) (mark-read key.purged)
    ∙ key_from-known key.number key refl h

line_of-issue : (router : List ℕ) (id : LspId) (key : Key) → IsLine (Issue router id key) → line_of (words_in (Issue router id key)) ≡ Some (Issue router id key)
line_of-issue router id key h = rw h.0 (
    ap (λ (o : Option LspId). option_and_then (λ i. field_of_two key_of (λ k. done (Issue router i k)) (decimal key.number ∷ mark_text key.purged ∷ [])) o) (id-read id h.1)
    ∙ ap (λ (o : Option Key). option_and_then (λ k. done (Issue router id k) []) o) (key-read key h.2))

line_of-pass : (copy : ℕ) (from to : List ℕ) → IsLine (Pass copy from to) → line_of (words_in (Pass copy from to)) ≡ Some (Pass copy from to)
line_of-pass copy from to h =
    ap (λ (o : Option ℕ). option_and_then (λ k. field name_of (λ f. field name_of (λ t. done (Pass k f t))) (from ∷ to ∷ [])) o) (copy-read copy h.0)
    ∙ rw (h.1, h.2)

-- a line's words are read as the line
pub line_of-words : (line : KeysLine) → IsLine line → line_of (words_in line) ≡ Some line
line_of-words (Router name) h = rw h
line_of-words (Link first second) h = rw (h.0, h.1)
line_of-words (Issue router id key) h = line_of-issue router id key h
line_of-words (Pass copy from to) h = line_of-pass copy from to h
