-- Scripts of both kinds: what a text says, or the first line that is refused (own).
use Rattle.std.specs.Prelude.{ℕ, ◌+◌, ◌==◌, Bool, true, false, List, [], ◌∷◌, codes, Option, Some, None, Result, Ok, Err, if◌then◌else◌}
use Rattle.std.specs.Str.{bytes_eq}
use Rattle.lab_script.specs.declared.reason.Reason.TheVariants.{Head}
use Rattle.lab_script.specs.declared.reason.ScriptFault.{ScriptFault}
use Rattle.lab_script.specs.declared.reason.ScriptFault.TheVariants.{Refused}
use Rattle.lab_script.specs.declared.script.Script.{Script}
use Rattle.lab_script.specs.declared.script.Script.TheVariants.{Keys, Lab}
use Rattle.lab_script.specs.KeysJudged.{nothing_said}
use Rattle.lab_script.specs.KeysLines.{line_of}
use Rattle.lab_script.specs.KeysScripts.{hear_line}
use Rattle.lab_script.specs.LabJudged.{with_words}
use Rattle.lab_script.specs.LabScripts.{nothing_laid, router_names, link_names}
use Rattle.line_cuts.specs.Words.{words_of, lines_of}

infixl 10 ◌>>=◌
abbrev pub ◌>>=◌ : {A B : Type 0} → Result A ScriptFault → (A → Result B ScriptFault)
    → Result B ScriptFault
(Ok a) >>= f = f a
(Err fault) >>= f = Err fault

-- lines that are empty or begin with # say nothing
abbrev pub is_skipped : List ℕ → Bool
is_skipped [] = true
is_skipped (byte ∷ line) = byte == 35

-- the script with a line of this number and these words more
abbrev pub hear_words : Script → ℕ → List (List ℕ) → Result Script ScriptFault
hear_words (Keys script) number words =
    hear_line script number (line_of words) >>= λ more. Ok (Keys more)
hear_words (Lab script) number words = with_words script number words >>= λ more. Ok (Lab more)

abbrev pub hear_text : Script → ℕ → List ℕ → Result Script ScriptFault
hear_text so_far number text =
    if is_skipped text then Ok so_far else hear_words so_far number (words_of text)

-- the lines from this number on: the first that is refused is told
unfoldable pub hear_lines : Script → ℕ → List (List ℕ) → Result Script ScriptFault
hear_lines so_far number [] = Ok so_far
hear_lines so_far number (text ∷ texts) =
    hear_text so_far number text >>= λ more. hear_lines more (number + 1) texts

-- the script that a head begins; it says nothing yet
abbrev pub script_headed : List ℕ → Option Script
script_headed head =
    if bytes_eq head (codes "isis-keys 1") then Some (Keys nothing_said)
    else if bytes_eq head (codes "isis-lab 1") then Some (Lab nothing_laid)
    else None

-- the lines from the second on, behind a head
abbrev pub behind_head : Option Script → List (List ℕ) → Result Script ScriptFault
behind_head None texts = Err (Refused 1 Head)
behind_head (Some script) texts = hear_lines script 2 texts

abbrev pub script_of_lines : List (List ℕ) → Result Script ScriptFault
script_of_lines [] = Err (Refused 1 Head)
script_of_lines (head ∷ texts) = behind_head (script_headed head) texts

-- what a text says
abbrev pub script_of : List ℕ → Result Script ScriptFault
script_of text = script_of_lines (lines_of text)

-- ---- what a script tells

abbrev pub is_lab_script : Script → Bool
is_lab_script (Keys script) = false
is_lab_script (Lab script) = true

-- the names of a script's routers, by their numbers
abbrev pub names_in : Script → List (List ℕ)
names_in (Keys script) = script.routers
names_in (Lab script) = router_names script.routers

-- the names of a script's links, by their numbers; those of a keys script have none
abbrev pub links_in : Script → List (List ℕ)
links_in (Keys script) = []
links_in (Lab script) = link_names script.links
