-- The text of a timeline, and moments that are added to it.
use Rattle.std.proofs.Common.{◌≡◌, ℕ, ◌+◌, ◌≤◌, ◌==◌, Bool, true, false, List, [], ◌∷◌, ◌++◌, Option, if◌then◌else◌, refl, sym, ap, ap₂, ◌∙◌, subst, arith, append_assoc, append-nil}
use Rattle.std.specs.List.{AllByRecursion, sum_by}
use Rattle.std.proofs.lemmas.List.{map-append}
use Rattle.std.proofs.lemmas.List.Sums.{sum_by-cons}
use Rattle.network_lab.specs.LabNets.{Seen, StandsFor, LabNet}
use Rattle.timeline_text.specs.declared.fates.Counts.{Counts}
use Rattle.timeline_text.specs.declared.tally.Tally.{Tally}
use Rattle.timeline_text.specs.Moments.{Moment}
use Rattle.timeline_text.specs.Tallies.{IsTallyOf, IsTally}
use Rattle.timeline_text.specs.TimelineText.{tally_words, changed_line, changed_lines, at_second, capped, sum_words, sum_over, timeline_text}
use Rattle.timeline_text.specs.Pages.{PageOf, new_page, sum_of, with_moment, with_moments, AreAdded}

-- ---- the lines

pub text-after : (page : PageOf) (pairs : List (Moment × Tally)) → (with_moments page pairs).text ≡ page.text ++ changed_lines page.before pairs
text-after page [] = sym (append-nil page.text)
text-after page (pair ∷ pairs) =
    text-after (with_moment page pair.0.line pair.0.second pair.1) pairs
    ∙ append_assoc page.text (changed_line page.before pair.0.line pair.0.second (tally_words pair.1)) (changed_lines (tally_words pair.1) pairs)

-- ---- the sums

more-small : (b : Bool) (n k m : ℕ) → n ≤ 18446744073709551615 → m ≡ (if b then n else capped (n + k)) → m ≤ 18446744073709551615
more-small true n k m small e = omega (arith, small, e)
more-small false n k m small e = omega (arith, e)

more-sum : (b : Bool) (n k m rest all : ℕ) → n ≤ 18446744073709551615 → m ≡ (if b then n else capped (n + k)) → all ≡ (if b then 0 else k) + rest → capped (m + rest) ≡ capped (n + all)
more-sum true n k m rest all small e f = omega (arith, small, e, f)
more-sum false n k m rest all small e f = omega (arith, small, e, f)

-- a number of a page that grows by what is counted at each second
sum-after : (read : PageOf → ℕ) (count : Tally → ℕ)
    → ((page : PageOf) (line second : ℕ) (tally : Tally) → read (with_moment page line second tally) ≡ (if second == 0 then read page else capped (read page + count tally)))
    → (page : PageOf) (pairs : List (Moment × Tally)) → read page ≤ 18446744073709551615
    → read (with_moments page pairs) ≡ capped (read page + sum_by (at_second count) pairs)
sum-after read count step page [] small = omega (arith, small)
sum-after read count step page (pair ∷ pairs) small =
    let b : Bool = pair.0.second == 0 in
    let next : PageOf = with_moment page pair.0.line pair.0.second pair.1 in
    let e = step page pair.0.line pair.0.second pair.1 in
    sum-after read count step next pairs (more-small b (read page) (count pair.1) (read next) small e)
    ∙ more-sum b (read page) (count pair.1) (read next) (sum_by (at_second count) pairs) (sum_by (at_second count) (pair ∷ pairs)) small e (sum_by-cons (at_second count) pair pairs)

arrive-if : (b : Bool) (x y : Counts) → (if b then x else y).arrive ≡ (if b then x.arrive else y.arrive)
arrive-if true x y = refl
arrive-if false x y = refl

loops-if : (b : Bool) (x y : Counts) → (if b then x else y).loops ≡ (if b then x.loops else y.loops)
loops-if true x y = refl
loops-if false x y = refl

lost-if : (b : Bool) (x y : Counts) → (if b then x else y).lost ≡ (if b then x.lost else y.lost)
lost-if true x y = refl
lost-if false x y = refl

counts-same : (x y : Counts) → x.arrive ≡ y.arrive → x.loops ≡ y.loops → x.lost ≡ y.lost → x ≡ y
counts-same x y a l d = λ i. record { arrive = a i; loops = l i; lost = d i }

no-more : (n : ℕ) → capped (0 + n) ≡ capped n
no-more n = omega arith

pub whole-text : (pairs : List (Moment × Tally)) → (with_moments new_page pairs).text ++ sum_words (with_moments new_page pairs).seconds (with_moments new_page pairs).sums ≡ timeline_text pairs
unfolding timeline_text
whole-text pairs = ap₂ (λ (t w : List ℕ). t ++ w) (text-after new_page pairs) (ap₂ sum_words seconds sums)
  where
    seconds : (with_moments new_page pairs).seconds ≡ sum_over (λ (tally : Tally). 1) pairs
    seconds = sum-after (λ (p : PageOf). p.seconds) (λ (tally : Tally). 1) (λ p line second tally. refl) new_page pairs (omega arith) ∙ no-more (sum_by (at_second (λ (tally : Tally). 1)) pairs)

    sums : (with_moments new_page pairs).sums ≡ record {
      arrive = sum_over (λ (tally : Tally). tally.counts.arrive) pairs;
      loops = sum_over (λ (tally : Tally). tally.counts.loops) pairs;
      lost = sum_over (λ (tally : Tally). tally.counts.lost) pairs;
    }
    sums = counts-same _ _
        (sum-after (λ (p : PageOf). p.sums.arrive) (λ (tally : Tally). tally.counts.arrive) (λ p line second tally. arrive-if (second == 0) p.sums (sum_of p.sums tally.counts)) new_page pairs (omega arith) ∙ no-more (sum_by (at_second (λ (tally : Tally). tally.counts.arrive)) pairs))
        (sum-after (λ (p : PageOf). p.sums.loops) (λ (tally : Tally). tally.counts.loops) (λ p line second tally. loops-if (second == 0) p.sums (sum_of p.sums tally.counts)) new_page pairs (omega arith) ∙ no-more (sum_by (at_second (λ (tally : Tally). tally.counts.loops)) pairs))
        (sum-after (λ (p : PageOf). p.sums.lost) (λ (tally : Tally). tally.counts.lost) (λ p line second tally. lost-if (second == 0) p.sums (sum_of p.sums tally.counts)) new_page pairs (omega arith) ∙ no-more (sum_by (at_second (λ (tally : Tally). tally.counts.lost)) pairs))

-- ---- moments that are added

with-append : (page : PageOf) (xs ys : List (Moment × Tally)) → with_moments page (xs ++ ys) ≡ with_moments (with_moments page xs) ys
with-append page [] ys = refl
with-append page (x ∷ xs) ys = with-append (with_moment page x.0.line x.0.second x.1) xs ys

all-append : (P : Moment × Tally → Type 0) (xs ys : List (Moment × Tally)) → AllByRecursion P xs → AllByRecursion P ys → AllByRecursion P (xs ++ ys)
all-append P [] ys h k = k
all-append P (x ∷ xs) ys h k = (h.0, all-append P xs ys h.1 k)

pub none-added : (address : ℕ) (page : PageOf) → AreAdded address [] page page
none-added address page = record { pairs = []; moments_are = refl; tallies = tt; page_is = refl }

pub one-added : (address : ℕ) (moment : Moment) (tally : Tally) (old new : PageOf) → IsTally address moment tally → new ≡ with_moment old moment.line moment.second tally → AreAdded address (moment ∷ []) old new
one-added address moment tally old new is e = record {
  pairs = (moment, tally) ∷ [];
  moments_are = refl;
  tallies = (is, tt);
  page_is = e;
}

pub both-added : (address : ℕ) (ms ns : List Moment) (old mid new : PageOf) → AreAdded address ms old mid → AreAdded address ns mid new → AreAdded address (ms ++ ns) old new
both-added address ms ns old mid new h k = record {
  pairs = h.pairs ++ k.pairs;
  moments_are = map-append (λ (pair : Moment × Tally). pair.0) h.pairs k.pairs ∙ ap₂ (λ (xs ys : List Moment). xs ++ ys) h.moments_are k.moments_are;
  tallies = all-append (λ (pair : Moment × Tally). IsTally address pair.0 pair.1) h.pairs k.pairs h.tallies k.tallies;
  page_is = k.page_is ∙ ap (λ (p : PageOf). with_moments p k.pairs) h.page_is ∙ sym (with-append old h.pairs k.pairs);
}

pub are-these : (address : ℕ) (ms ns : List Moment) (old new : PageOf) → ms ≡ ns → AreAdded address ms old new → AreAdded address ns old new
are-these address ms ns old new e h = subst (λ (xs : List Moment). AreAdded address xs old new) e h

-- the moment after which a network stands for one, with what was counted of that
pub noted : (address line second : ℕ) (except : Option ℕ) (moment : Moment) (after : LabNet) (old new : PageOf) → moment.line ≡ line → moment.second ≡ second → moment.except ≡ except → StandsFor moment.net after
    → (tally : Tally) × IsTallyOf after.seen address except tally × (new ≡ with_moment old line second tally) → AreAdded address (moment ∷ []) old new
noted address line second except moment after old new l s x stands h =
    one-added address moment h.0 old new
    (subst (λ (seen : Seen). IsTallyOf seen address moment.except h.0) (sym stands.seen)
    (subst (λ (e : Option ℕ). IsTallyOf after.seen address e h.0) (sym x) h.1))
    (h.2 ∙ ap₂ (λ (n m : ℕ). with_moment old n m h.0) (sym l) (sym s))
