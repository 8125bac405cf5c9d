use Rattle.std.proofs.Common.{rules, ◌+◌, ◌<◌, ◌≤◌, List, length, take, refl, sym, ◌∙◌, subst, arith}
use Rattle.std.proofs.lemmas.List.{take_all}
use Rattle.weave_replay.specs.declared.entries.Replayed.{Replayed}
use Rattle.weave_replay.specs.declared.entries.Replayed.TheVariants as replayed
use Rattle.weave_replay.specs.declared.journal.WovenJournal.{WovenJournal}
use Rattle.weave_replay.specs.Outcomes.{AreCounts, AreBehind, IsReplayedNext}
use Rattle.weave_replay.specs.Replays.{AreFaultless}
use Rattle.weave_replay.proofs.PlaceLemmas.{nth-get, take-more}
use Rattle.weave_replay.proofs.BehindLemmas.{few-counts, faultless-more}
use Rattle.weave_replay.proofs.replaying.replay_all.Goals as goal

pub replay_next-requires-clause-few : goal.replay_next-requires-clause-few
replay_next-requires-clause-few c =
    let fits : c.loop-place.place + 1 < 18446744073709551616 = search rules in
    few-counts c.loop-place.counts c.args.journals.now c.loop-place.place c.index-journals-place.result.router 18446744073709551616 c.loop-place.invariant.counted fits

pub returns-in-Ok-OfEvent-clause-err : goal.returns-in-Ok-OfEvent-clause-err
returns-in-Ok-OfEvent-clause-err c =
    let j = c.index-journals-place.result in
    let before = take c.loop-place.place c.args.journals.now in
    let next : IsReplayedNext c.args.routers.now c.replay_next.new.routers before j (replayed.OfEvent c.in-Ok-OfEvent.entry) =
    subst (λ (x : Replayed). IsReplayedNext c.args.routers.now c.replay_next.new.routers before j x) c.in-Ok-OfEvent.field-0-is
    (c.in-Ok-OfEvent.ensures.replayed c.args.routers.now before (sym c.loop-place.invariant.routers) c.loop-place.invariant.counted c.loop-place.invariant.behind) in
    record {
      place = c.loop-place.place;
      counted = refl;
      j = j;
      at = nth-get c.args.journals.now c.loop-place.place j (omega (arith, c.loop-place-test.true)) c.index-journals-place.is;
      earlier = c.loop-place.invariant.faultless;
      faulty = next;
    }

pub returns-in-Ok-OfReply-clause-err : goal.returns-in-Ok-OfReply-clause-err
returns-in-Ok-OfReply-clause-err c =
    let j = c.index-journals-place.result in
    let before = take c.loop-place.place c.args.journals.now in
    let next : IsReplayedNext c.args.routers.now c.replay_next.new.routers before j (replayed.OfReply c.in-Ok-OfReply.entry) =
    subst (λ (x : Replayed). IsReplayedNext c.args.routers.now c.replay_next.new.routers before j x) c.in-Ok-OfReply.field-0-is
    (c.in-Ok-OfReply.ensures.replayed c.args.routers.now before (sym c.loop-place.invariant.routers) c.loop-place.invariant.counted c.loop-place.invariant.behind) in
    record {
      place = c.loop-place.place;
      counted = refl;
      j = j;
      at = nth-get c.args.journals.now c.loop-place.place j (omega (arith, c.loop-place-test.true)) c.index-journals-place.is;
      earlier = c.loop-place.invariant.faultless;
      faulty = next;
    }

pub loop-place-preserved : goal.loop-place-preserved
loop-place-preserved c =
    let j = c.index-journals-place.result in
    let firsts = c.args.routers.now in
    let before = take c.loop-place.place c.args.journals.now in
    let next : IsReplayedNext firsts c.replay_next.new.routers before j replayed.Good =
    subst (λ (x : Replayed). IsReplayedNext firsts c.replay_next.new.routers before j x) c.in-Ok-Good.field-0-is
    (c.in-Ok-Good.ensures.replayed firsts before (sym c.loop-place.invariant.routers) c.loop-place.invariant.counted c.loop-place.invariant.behind) in
    let more = take-more c.args.journals.now c.loop-place.place j (nth-get c.args.journals.now c.loop-place.place j (omega (arith, c.loop-place-test.true)) c.index-journals-place.is) in
    record {
      routers = c.in-Ok-Good.ensures.routers ∙ c.loop-place.invariant.routers;
      size = c.in-Ok-Good.ensures.size ∙ c.loop-place.invariant.size;
      counted = subst (λ (js : List WovenJournal). AreCounts c.replay_next.new.counts js) (sym more) (c.in-Ok-Good.ensures.counts before c.loop-place.invariant.counted);
      behind = subst (λ (js : List WovenJournal). AreBehind firsts c.replay_next.new.routers js) (sym more) next.0;
      faultless = subst (λ (js : List WovenJournal). AreFaultless firsts js) (sym more) (faultless-more firsts before j c.loop-place.invariant.faultless next.1);
    }

pub returns-clause-ok : goal.returns-clause-ok
returns-clause-ok c =
    let past : length c.args.journals.now ≤ c.loop-place.place = search rules in
    subst (λ (js : List WovenJournal). AreFaultless c.args.routers.now js) (take_all c.loop-place.place c.args.journals.now past) c.loop-place.invariant.faultless
