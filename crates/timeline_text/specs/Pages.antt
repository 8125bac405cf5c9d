-- The text of a timeline as it grows, moment by moment. All of it own.
use Rattle.std.specs.Prelude.{◌≡◌, ℕ, ◌+◌, ◌==◌, List, [], ◌∷◌, ◌++◌, map, if◌then◌else◌, codes}
use Rattle.std.specs.List.{AllByRecursion}
use Rattle.timeline_text.specs.declared.fates.Counts.{Counts}
use Rattle.timeline_text.specs.declared.tally.Tally.{Tally}
use Rattle.timeline_text.specs.Moments.{Moment}
use Rattle.timeline_text.specs.Tallies.{IsTally}
use Rattle.timeline_text.specs.TimelineText.{tally_words, changed_line, capped}

-- the text so far, the words of the last moment, and the sums over the seconds so far
pub record PageOf : Type 0 where
  pub text : List ℕ
  pub before : List ℕ
  pub seconds : ℕ
  pub sums : Counts

abbrev pub new_page : PageOf
new_page = record {
  text = codes "isis-timeline 1\n";
  before = [];
  seconds = 0;
  sums = record { arrive = 0; loops = 0; lost = 0 };
}

abbrev pub sum_of : Counts → Counts → Counts
sum_of a b = record {
  arrive = capped (a.arrive + b.arrive);
  loops = capped (a.loops + b.loops);
  lost = capped (a.lost + b.lost);
}

-- one moment more: it counts in the sums where it is after a second
abbrev pub with_moment : PageOf → ℕ → ℕ → Tally → PageOf
with_moment page line second tally = record {
  text = page.text ++ changed_line page.before line second (tally_words tally);
  before = tally_words tally;
  seconds = if second == 0 then page.seconds else capped (page.seconds + 1);
  sums = if second == 0 then page.sums else sum_of page.sums tally.counts;
}

abbrev pub with_moments : PageOf → List (Moment × Tally) → PageOf
with_moments page [] = page
with_moments page (pair ∷ pairs) =
    with_moments (with_moment page pair.0.line pair.0.second pair.1) pairs

-- these moments were added to a page, each with what is counted at it
pub record AreAdded (address : ℕ) (moments : List Moment) (old new : PageOf) : Type 0 where
  pub pairs : List (Moment × Tally)
  pub moments_are : map (λ (pair : Moment × Tally). pair.0) pairs ≡ moments
  pub tallies : AllByRecursion (λ (pair : Moment × Tally). IsTally address pair.0 pair.1) pairs
  pub page_is : new ≡ with_moments old pairs
