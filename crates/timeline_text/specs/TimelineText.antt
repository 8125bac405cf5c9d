-- The text of a timeline (own).
use Rattle.std.specs.Prelude.{ℕ, ◌==◌, nat_lt, ◌&&◌, min, List, [], ◌∷◌, ◌++◌, Option, Some, None, if◌then◌else◌, codes, decimal}
use Rattle.std.specs.List.{sum_by}
use Rattle.std.specs.Str.{bytes_eq}
use Rattle.timeline_text.specs.declared.agreements.Agreement.{Agreement}
use Rattle.timeline_text.specs.declared.fates.Counts.{Counts}
use Rattle.timeline_text.specs.declared.tally.Tally.{Tally}
use Rattle.timeline_text.specs.Moments.{Moment}

-- ---- a moment

-- ` L1 groups G flags F`
abbrev pub agreement_words : List ℕ → Agreement → List ℕ
agreement_words word agreement =
    word ++ codes " groups " ++ decimal agreement.groups ++ codes " flags " ++ decimal agreement.flags

-- nothing of a level that nobody runs
abbrev pub level_words : List ℕ → Option Agreement → List ℕ
level_words word None = []
level_words word (Some agreement) = agreement_words word agreement

-- ` arrive A loop L lost D`
abbrev pub count_words : Counts → List ℕ
count_words counts =
    codes " arrive " ++ decimal counts.arrive ++ codes " loop " ++ decimal counts.loops
    ++ codes " lost " ++ decimal counts.lost

-- all of a tally
unfoldable pub tally_words : Tally → List ℕ
tally_words tally =
    level_words (codes " L1") tally.one ++ level_words (codes " L2") tally.two
    ++ count_words tally.counts

-- `at LINE SECOND` and the tally
unfoldable pub moment_line : ℕ → ℕ → List ℕ → List ℕ
moment_line line second words =
    codes "at " ++ decimal line ++ codes " " ++ decimal second ++ words ++ codes "\n"

-- an event line always has its line; a second of a line `run` has one where the tally is another than
-- that of the moment before
abbrev pub changed_line : List ℕ → ℕ → ℕ → List ℕ → List ℕ
changed_line before line second words =
    if nat_lt 0 second && bytes_eq words before then [] else moment_line line second words

-- the lines of moments, the first of which follows one whose tally reads so
abbrev pub changed_lines : List ℕ → List (Moment × Tally) → List ℕ
changed_lines before [] = []
changed_lines before (pair ∷ pairs) =
    changed_line before pair.0.line pair.0.second (tally_words pair.1)
    ++ changed_lines (tally_words pair.1) pairs

-- ---- sums over the seconds of all lines `run`

abbrev pub at_second : (Tally → ℕ) → Moment × Tally → ℕ
at_second count pair = if pair.0.second == 0 then 0 else count pair.1

-- sums are printed as at most the greatest number of 64 bits
abbrev pub capped : ℕ → ℕ
capped sum = min sum 18446744073709551615

abbrev pub sum_over : (Tally → ℕ) → List (Moment × Tally) → ℕ
sum_over count pairs = capped (sum_by (at_second count) pairs)

-- `sum seconds S arrive A loop L lost D`, the last three in router-seconds
unfoldable pub sum_words : ℕ → Counts → List ℕ
sum_words seconds sums =
    codes "sum seconds " ++ decimal seconds ++ count_words sums ++ codes "\n"

abbrev pub sum_line : List (Moment × Tally) → List ℕ
sum_line pairs = sum_words (sum_over (λ (tally : Tally). 1) pairs) (record {
  arrive = sum_over (λ (tally : Tally). tally.counts.arrive) pairs;
  loops = sum_over (λ (tally : Tally). tally.counts.loops) pairs;
  lost = sum_over (λ (tally : Tally). tally.counts.lost) pairs;
})

-- ---- the whole text

unfoldable pub timeline_text : List (Moment × Tally) → List ℕ
timeline_text pairs = codes "isis-timeline 1\n" ++ changed_lines [] pairs ++ sum_line pairs
