-- Blocks, line by line.
use Rattle.std.proofs.Common.{◌≡◌, ◌∙◌, ℕ, ◌+◌, ◌-◌, ◌<◌, Bool, true, false, cond, List, [], ◌∷◌, ◌++◌, map, length, Option, Some, None, IfSome, IfOk, Result, Ok, Err, codes, sym, ap}
use Rattle.std.specs.List.{AllByRecursion}
use Rattle.std.specs.Str.{bytes_eq}
use Rattle.std.proofs.lemmas.Result.{IfOk-at_ok}
use Rattle.line_cuts.specs.Words.{words_of}
use Rattle.lab_script.specs.declared.reason.Reason.{Reason}
use Rattle.lab_script.specs.declared.reason.Reason.TheVariants as reason
use Rattle.lab_script.specs.declared.reason.ScriptFault.{ScriptFault}
use Rattle.lab_script.specs.declared.reason.ScriptFault.TheVariants.{Refused, Limit, OutOfMemory}
use Rattle.lab_script.specs.Gives.{Gives}
use Rattle.lab_script.specs.LabJudged.{known, where_known}
use Rattle.lab_script.specs.Names.{number_of_name}
use Rattle.lab_script.specs.Scripts.{◌>>=◌, is_skipped}
use Rattle.lab_script.proofs.LabLemmas.{all-push}
use Rattle.lab_script.proofs.NameLemmas.{number_of_name-within}
use Rattle.journal_text.specs.Journals.{Journal, Good, Faulty, journal_of}
use Rattle.weave_replay.specs.declared.journal.WovenJournal.{WovenJournal}
use Rattle.weave_text.specs.declared.begun.Begun.{Begun}
use Rattle.weave_text.specs.Blocks.{Block, block_of, Blocks, no_blocks, router_named, router_of, begun_by, with_ended, within, outside, by_place, with_line, all_ended, hear_lines, blocks_in, IsFaultOf, with_begun}
use Rattle.weave_text.specs.Lines.{Left, text_of}

-- ---- one line, and those behind it

pub hear-next : (names : List (List ℕ)) (blocks more : Blocks) (number : ℕ) (all : List (List ℕ)) (line : List ℕ) (lines : List (List ℕ)) → all ≡ line ∷ lines → with_line names blocks number line ≡ Ok more → hear_lines names blocks number all ≡ hear_lines names more (number + 1) lines
unfolding hear_lines
hear-next names blocks more number all line lines e h =
    ap (hear_lines names blocks number) e
    ∙ ap (λ (r : Result Blocks ScriptFault). r >>= λ more. hear_lines names more (number + 1) lines) h

pub hear-end : (names : List (List ℕ)) (blocks : Blocks) (number : ℕ) (all : List (List ℕ)) → all ≡ [] → hear_lines names blocks number all ≡ all_ended blocks.ended (number - 1) blocks.begun
unfolding hear_lines
hear-end names blocks number all e = ap (hear_lines names blocks number) e

hear-err : (names : List (List ℕ)) (blocks : Blocks) (number : ℕ) (all : List (List ℕ)) (line : List ℕ) (lines : List (List ℕ)) (fault : ScriptFault) → all ≡ line ∷ lines → with_line names blocks number line ≡ Err fault → hear_lines names blocks number all ≡ Err fault
unfolding hear_lines
hear-err names blocks number all line lines fault e h =
    ap (hear_lines names blocks number) e
    ∙ ap (λ (r : Result Blocks ScriptFault). r >>= λ more. hear_lines names more (number + 1) lines) h

pub hear-fault : (names : List (List ℕ)) (blocks after : Blocks) (number : ℕ) (all : List (List ℕ)) (line : List ℕ) (lines : List (List ℕ)) (fault : ScriptFault) → all ≡ line ∷ lines → Gives (Err fault) after (with_line names blocks number line) → IsFaultOf (hear_lines names blocks number all) fault
hear-fault names blocks after number all line lines OutOfMemory e h = tt
hear-fault names blocks after number all line lines (Refused at why) e h = hear-err names blocks number all line lines (Refused at why) e h
hear-fault names blocks after number all line lines (Limit which) e h = hear-err names blocks number all line lines (Limit which) e h

-- ---- the routers of blocks are there

abbrev pub IsBlockOf : List (List ℕ) → Block → Type 0
IsBlockOf names block = block.router < length names

record AreThere (names : List (List ℕ)) (blocks : Blocks) : Type 0 where
  pub ended : AllByRecursion (IsBlockOf names) blocks.ended
  pub begun : IfSome blocks.begun (λ b. b.router < length names)

bind : {A B : Type 0} (r : Result A ScriptFault) (f : A → Result B ScriptFault) (P : A → Type 0) (Q : B → Type 0) → IfOk r P → ((a : A) → P a → IfOk (f a) Q) → IfOk (r >>= f) Q
bind (Ok a) f P Q h next = next a h
bind (Err fault) f P Q h next = tt

bind-known : (number : ℕ) (r : Result ℕ Reason) (f : ℕ → Result Blocks ScriptFault) (P : ℕ → Type 0) (Q : Blocks → Type 0) → IfOk r P → ((a : ℕ) → P a → IfOk (f a) Q) → IfOk (where_known number r f) Q
bind-known number (Ok a) f P Q h next = next a h
bind-known number (Err why) f P Q h next = tt

known-there : (o : Option ℕ) (P : ℕ → Type 0) → IfSome o P → IfOk (known o reason.Name) P
known-there None P h = tt
known-there (Some n) P h = h

-- a router that is named is there
named-there : (names : List (List ℕ)) (line : List ℕ) (name : Option (List ℕ)) → IfOk (router_named names line name) (λ router. router < length names)
named-there names line None = tt
named-there names line (Some name) = known-there (number_of_name names name) (λ router. router < length names) (number_of_name-within names name)

outside-there : (names : List (List ℕ)) (blocks : Blocks) (number : ℕ) (line : List ℕ) → AreThere names blocks → IfOk (outside names blocks number line) (AreThere names)
outside-there names blocks number line there = by (is_skipped line)
  where
    begins : (router : ℕ) → router < length names → AreThere names (with_begun blocks number router)
    begins router lt = record { ended = there.ended; begun = lt }

    by : (b : Bool) → IfOk (cond b (Ok blocks) (where_known number (router_of names line) (λ router. Ok (with_begun blocks number router)))) (AreThere names)
    by true = there
    by false = bind-known number (router_of names line) (λ router. Ok (with_begun blocks number router)) (λ router. router < length names) (AreThere names) (named-there names line (begun_by (words_of line))) begins

ended-there : (names : List (List ℕ)) (ended : List Block) (begun : Begun) (number : ℕ) (journal : Journal) → AllByRecursion (IsBlockOf names) ended → begun.router < length names → IfOk (with_ended ended begun number journal) (AreThere names)
ended-there names ended begun number (Good entries) all lt = record { ended = all-push (IsBlockOf names) ended (record { router = begun.router; entries = entries }) all lt; begun = tt }
ended-there names ended begun number (Faulty line) all lt = tt

within-there : (names : List (List ℕ)) (ended : List Block) (begun : Begun) (number : ℕ) (line : List ℕ) → AllByRecursion (IsBlockOf names) ended → begun.router < length names → IfOk (within ended begun number line) (AreThere names)
within-there names ended begun number line all lt = by (bytes_eq line (codes "end"))
  where
    by : (b : Bool) → IfOk (cond b (with_ended ended begun number (journal_of begun.text)) (Ok (record { ended = ended; begun = Some (record begun { text = begun.text ++ text_of (line ∷ []) }) }))) (AreThere names)
    by true = ended-there names ended begun number (journal_of begun.text) all lt
    by false = record { ended = all; begun = lt }

line-there : (names : List (List ℕ)) (blocks : Blocks) (number : ℕ) (line : List ℕ) (begun : Option Begun) → AreThere names blocks → IfSome begun (λ b. b.router < length names) → IfOk (by_place names blocks number line begun) (AreThere names)
line-there names blocks number line None there lt = outside-there names blocks number line there
line-there names blocks number line (Some begun) there lt = within-there names blocks.ended begun number line there.ended lt

end-there : (names : List (List ℕ)) (ended : List Block) (last : ℕ) (begun : Option Begun) → AllByRecursion (IsBlockOf names) ended → IfOk (all_ended ended last begun) (AllByRecursion (IsBlockOf names))
end-there names ended last None all = all
end-there names ended last (Some begun) all = tt

all-there : (names : List (List ℕ)) (blocks : Blocks) (number : ℕ) (lines : List (List ℕ)) → AreThere names blocks → IfOk (hear_lines names blocks number lines) (AllByRecursion (IsBlockOf names))
unfolding hear_lines
all-there names blocks number [] there = end-there names blocks.ended (number - 1) blocks.begun there.ended
all-there names blocks number (line ∷ lines) there =
    bind (with_line names blocks number line) (λ more. hear_lines names more (number + 1) lines) (AreThere names) (AllByRecursion (IsBlockOf names))
    (line-there names blocks number line blocks.begun there there.begun) (λ more h. all-there names more (number + 1) lines h)

of-journals : (names : List (List ℕ)) (journals : List WovenJournal) → AllByRecursion (IsBlockOf names) (map block_of journals) → AllByRecursion (λ j. j.router < length names) journals
of-journals names [] all = tt
of-journals names (j ∷ journals) all = (all.0, of-journals names journals all.1)

-- of journals that are the blocks of a text the routers are there
pub journals-there : (names : List (List ℕ)) (left : Left) (journals : List WovenJournal) → blocks_in names left ≡ Ok (map block_of journals) → AllByRecursion (λ j. j.router < length names) journals
journals-there names left journals e =
    of-journals names journals (IfOk-at_ok (AllByRecursion (IsBlockOf names)) e
    (all-there names no_blocks left.number left.lines (record { ended = tt; begun = tt })))

-- ---- at the end of the lines

-- what all lines come to
pub hear-all : (names : List (List ℕ)) (blocks : Blocks) (number last : ℕ) (all : List (List ℕ)) (whole : Result (List Block) ScriptFault) → all ≡ [] → last ≡ number - 1 → hear_lines names blocks number all ≡ whole → whole ≡ all_ended blocks.ended last blocks.begun
hear-all names blocks number last all whole none is read =
    sym read ∙ hear-end names blocks number all none ∙ ap (λ (n : ℕ). all_ended blocks.ended n blocks.begun) (sym is)
