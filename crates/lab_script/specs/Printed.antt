-- Lines of keys scripts as words, of fields in their ranges (own).
use Rattle.std.specs.Prelude.{◌≡◌, ℕ, ◌<◌, ◌^◌, Bool, true, false, List, [], ◌∷◌, codes, decimal}
use Rattle.isis_base.specs.Identifiers.{IsId}
use Rattle.isis_base.specs.Texts.{lsp_text}
use Rattle.lab_script.specs.declared.line.KeysLine.{KeysLine}
use Rattle.lab_script.specs.declared.line.KeysLine.TheVariants.{Router, Link, Issue, Pass}
use Rattle.lab_script.specs.Fields.{is_name}

abbrev pub IsName : List ℕ → Type 0
IsName word = is_name word ≡ true

-- the fields of a line are in their ranges
abbrev pub IsLine : KeysLine → Type 0
IsLine (Router name) = IsName name
IsLine (Link first second) = IsName first × IsName second
IsLine (Issue router id key) = IsName router × IsId id × (key.number < 2 ^ 32)
IsLine (Pass copy from to) = (copy < 2 ^ 64) × IsName from × IsName to

abbrev pub mark_text : Bool → List ℕ
mark_text true = codes "purged"
mark_text false = codes "live"

-- the words of a line
abbrev pub words_in : KeysLine → List (List ℕ)
words_in (Router name) = codes "router" ∷ name ∷ []
words_in (Link first second) = codes "link" ∷ first ∷ second ∷ []
words_in (Issue router id key) =
    codes "issue" ∷ router ∷ lsp_text id ∷ decimal key.number ∷ mark_text key.purged ∷ []
words_in (Pass copy from to) = codes "pass" ∷ decimal copy ∷ from ∷ to ∷ []
