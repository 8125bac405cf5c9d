-- The blocks of a text, `journal ROUTER`, the lines of a journal, `end`: what they say, or the first
-- line that is refused (own).
use Rattle.std.specs.Prelude.{◌≡◌, ℕ, ◌+◌, ◌-◌, ◌&&◌, not, min, Bool, true, false, List, [], ◌∷◌, ◌++◌, codes, Option, Some, None, Result, Ok, Err, if◌then◌else◌}
use Rattle.std.specs.Str.{bytes_eq}
use Rattle.line_cuts.specs.Forms.{Form, field, done, of_forms}
use Rattle.line_cuts.specs.Words.{words_of}
use Rattle.lab_script.specs.declared.reason.Reason.{Reason}
use Rattle.lab_script.specs.declared.reason.Reason.TheVariants as reason
use Rattle.lab_script.specs.declared.reason.ScriptFault.{ScriptFault}
use Rattle.lab_script.specs.declared.reason.ScriptFault.TheVariants.{Refused, Limit, OutOfMemory}
use Rattle.lab_script.specs.declared.script.Script.{Script}
use Rattle.lab_script.specs.Fields.{name_of}
use Rattle.lab_script.specs.LabJudged.{known, where_known}
use Rattle.lab_script.specs.Names.{number_of_name}
use Rattle.lab_script.specs.Scripts.{◌>>=◌, is_skipped, script_of}
use Rattle.journal_text.specs.declared.entry.WovenEntry.{WovenEntry}
use Rattle.journal_text.specs.Journals.{Journal, Good, Faulty, journal_of}
use Rattle.weave_replay.specs.declared.journal.WovenJournal.{WovenJournal}
use Rattle.weave_text.specs.declared.begun.Begun.{Begun}
use Rattle.weave_text.specs.Ahead.{is_layout, script_text}
use Rattle.weave_text.specs.Lines.{Left, text_of}

-- what a block says: the entries of a journal, and its router by number
pub record Block : Type 0 where
  pub router : ℕ
  pub entries : List WovenEntry

abbrev pub block_of : WovenJournal → Block
block_of j = record { router = j.router; entries = j.entries.items }

-- ---- lines outside of blocks

-- `journal ROUTER`
abbrev pub journal_form : Form (List ℕ)
journal_form = field name_of λ router. done router

-- the router's name that a first line of a block gives
abbrev pub begun_by : Form (List ℕ)
begun_by = of_forms ((codes "journal", journal_form) ∷ [])

-- own
abbrev pub is_form : Reason → Bool
is_form reason.Form = true
is_form reason.Head = false
is_form reason.Late = false
is_form reason.Name = false
is_form reason.Again = false
is_form reason.NotOn = false
is_form reason.NotSent = false

-- a script is refused for the form of a line
abbrev pub is_formless : Result Script ScriptFault → Bool
is_formless (Ok script) = false
is_formless (Err (Refused line why)) = is_form why
is_formless (Err (Limit which)) = false
is_formless (Err OutOfMemory) = false

-- a line has a form where a lab script of this line alone isn't refused for it
abbrev pub has_form : List ℕ → Bool
has_form line = not (is_formless (script_of (script_text (line ∷ []))))

-- a setup or change line behind a block is late; another line has no form
abbrev pub why_none : List ℕ → Reason
why_none line =
    if is_layout (words_of line) && has_form line then reason.Late else reason.Form

abbrev pub router_named : List (List ℕ) → List ℕ → Option (List ℕ) → Result ℕ Reason
router_named names line None = Err (why_none line)
router_named names line (Some name) = known (number_of_name names name) reason.Name

-- the router whose block a line begins, or why it begins none
abbrev pub router_of : List (List ℕ) → List ℕ → Result ℕ Reason
router_of names line = router_named names line (begun_by (words_of line))

-- ---- blocks so far

-- the blocks that ended, and the one in which the next line stands, if any
pub record Blocks : Type 0 where
  pub ended : List Block
  pub begun : Option Begun

abbrev pub no_blocks : Blocks
no_blocks = record { ended = []; begun = None }

-- a block begins in the line of this number
abbrev pub with_begun : Blocks → ℕ → ℕ → Blocks
with_begun blocks number router = record blocks {
  begun = Some (record { router = router; line = number; text = [] });
}

-- where a block up to this line is refused: at the first line that its journal doesn't read, at the
-- latest at this one
abbrev pub faulty_at : ℕ → Begun → ℕ → ℕ
faulty_at last begun line = min last (begun.line + line)

-- a block ends in the line of this number
abbrev pub with_ended : List Block → Begun → ℕ → Journal → Result Blocks ScriptFault
with_ended ended begun number (Good entries) = Ok (record {
  ended = ended ++ record { router = begun.router; entries = entries } ∷ [];
  begun = None;
})
with_ended ended begun number (Faulty line) =
    Err (Refused (faulty_at number begun line) reason.Form)

-- a line within a block
abbrev pub within : List Block → Begun → ℕ → List ℕ → Result Blocks ScriptFault
within ended begun number line =
    if bytes_eq line (codes "end") then with_ended ended begun number (journal_of begun.text)
    else Ok (record {
      ended = ended;
      begun = Some (record begun { text = begun.text ++ text_of (line ∷ []) });
    })

-- a line outside of blocks
abbrev pub outside : List (List ℕ) → Blocks → ℕ → List ℕ → Result Blocks ScriptFault
outside names blocks number line =
    if is_skipped line then Ok blocks
    else where_known number (router_of names line)
    λ router. Ok (with_begun blocks number router)

abbrev pub by_place : List (List ℕ) → Blocks → ℕ → List ℕ → Option Begun
    → Result Blocks ScriptFault
by_place names blocks number line None = outside names blocks number line
by_place names blocks number line (Some begun) = within blocks.ended begun number line

-- the blocks with a line of this number more
abbrev pub with_line : List (List ℕ) → Blocks → ℕ → List ℕ → Result Blocks ScriptFault
with_line names blocks number line = by_place names blocks number line blocks.begun

-- where a block that doesn't end is refused
abbrev pub unended_at : ℕ → Begun → Journal → ℕ
unended_at last begun (Good entries) = last
unended_at last begun (Faulty line) = faulty_at last begun line

-- the blocks of a text with this last line
abbrev pub all_ended : List Block → ℕ → Option Begun → Result (List Block) ScriptFault
all_ended ended last None = Ok ended
all_ended ended last (Some begun) =
    Err (Refused (unended_at last begun (journal_of begun.text)) reason.Form)

-- the lines from this number on: the first that is refused is told
unfoldable pub hear_lines : List (List ℕ) → Blocks → ℕ → List (List ℕ)
    → Result (List Block) ScriptFault
hear_lines names blocks number [] = all_ended blocks.ended (number - 1) blocks.begun
hear_lines names blocks number (line ∷ lines) =
    with_line names blocks number line >>= λ more. hear_lines names more (number + 1) lines

-- the blocks of the lines that are left, of routers with these names
abbrev pub blocks_in : List (List ℕ) → Left → Result (List Block) ScriptFault
blocks_in names left = hear_lines names no_blocks left.number left.lines

-- ---- answers

-- a reading has this fault; of want of memory nothing is said
abbrev pub IsFaultOf : {X : Type 0} → Result X ScriptFault → ScriptFault → Type 0
IsFaultOf reading OutOfMemory = Unit {0}
IsFaultOf reading (Refused line reason) = reading ≡ Err (Refused line reason)
IsFaultOf reading (Limit which) = reading ≡ Err (Limit which)
