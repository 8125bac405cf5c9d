use Rattle.std.proofs.Common.{List, take, refl, sym, subst, arith}
use Rattle.weave_replay.specs.declared.journal.WovenJournal.{WovenJournal}
use Rattle.weave_replay.proofs.PlaceLemmas.{nth-get, take-more}
use Rattle.weave.specs.Counts.{AreAhead}
use Rattle.weave.proofs.CountLemmas.{all-made-more}
use Rattle.weave.proofs.counting.first_behind.Goals as goal

pub returns-in-Some : goal.returns-in-Some
returns-in-Some c =
    let j = c.index-journals-place.result in
    record {
      place = c.loop-place.place;
      counted = refl;
      j = j;
      at = nth-get c.args.journals.now c.loop-place.place j (omega (arith, c.loop-place-test.true)) c.index-journals-place.is;
      first = c.in-Some.first;
      numbered = refl;
      in_it = c.in-Some.ensures.found c.args.made.now (take c.loop-place.place c.args.journals.now) c.loop-place.invariant.ahead;
      earlier = c.loop-place.invariant.all;
    }

pub loop-place-preserved : goal.loop-place-preserved
loop-place-preserved c =
    let j = c.index-journals-place.result in
    let before = take c.loop-place.place c.args.journals.now in
    let at = nth-get c.args.journals.now c.loop-place.place j (omega (arith, c.loop-place-test.true)) c.index-journals-place.is in
    record {
      ahead =
          subst (λ (js : List WovenJournal). AreAhead c.args.made.now js c.first_in.new.ahead) (sym (take-more c.args.journals.now c.loop-place.place j at))
          (c.in-None.ensures.goes_on c.args.made.now before c.loop-place.invariant.ahead);
      all = all-made-more c.args.made.now c.args.journals.now c.loop-place.place j at c.loop-place.invariant.all
          (c.in-None.ensures.found c.args.made.now before c.loop-place.invariant.ahead);
    }
