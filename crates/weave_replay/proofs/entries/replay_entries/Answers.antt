use Rattle.std.proofs.Common.{List, map, take, refl, sym, ap, ◌∙◌, subst, arith}
use Rattle.model_router.specs.Routers.{Router}
use Rattle.router_core.specs.Givens.{given}
use Rattle.weave_model.specs.Entries.{Entry, next, replay}
use Rattle.weave_model.specs.Faults.{AreGood, IsGood, IsFaulty, OfEvent, OfReply}
use Rattle.weave_replay.specs.Entries.{entry_of}
use Rattle.weave_replay.specs.Outcomes.{IsOutcome}
use Rattle.weave_replay.specs.declared.entries.Outcome.{Outcome}
use Rattle.weave_replay.specs.declared.entries.Outcome.TheVariants as outcome
use Rattle.weave_replay.proofs.PlaceLemmas.{nth-get, nth-map, take-more}
use Rattle.weave_replay.proofs.EntryLemmas.{good-more, replay-more}
use Rattle.weave_replay.proofs.entries.replay_entries.Goals as goal

pub returns-in-Ok-OfEvent : goal.returns-in-Ok-OfEvent
returns-in-Ok-OfEvent c =
    let x = c.index-entries-place.result in
    record {
      before = c.loop-place.place;
      counted = refl;
      first = record {
        entry = entry_of x;
        good = c.loop-place.invariant.good;
        at = nth-map entry_of c.args.entries.now c.loop-place.place x (nth-get c.args.entries.now c.loop-place.place x (omega (arith, c.loop-place-test.true)) c.index-entries-place.is);
        faulty = subst (λ (r : Router). IsFaulty given r (entry_of x) OfEvent) c.loop-place.invariant.state (subst (λ (o : Outcome). IsOutcome c.loop-place.router c.replay_entry.new.router (entry_of x) o) c.in-Ok-OfEvent.field-0-is c.in-Ok-OfEvent.ensures);
      };
    }

pub returns-in-Ok-OfReply : goal.returns-in-Ok-OfReply
returns-in-Ok-OfReply c =
    let x = c.index-entries-place.result in
    record {
      before = c.loop-place.place;
      counted = refl;
      first = record {
        entry = entry_of x;
        good = c.loop-place.invariant.good;
        at = nth-map entry_of c.args.entries.now c.loop-place.place x (nth-get c.args.entries.now c.loop-place.place x (omega (arith, c.loop-place-test.true)) c.index-entries-place.is);
        faulty = subst (λ (r : Router). IsFaulty given r (entry_of x) OfReply) c.loop-place.invariant.state (subst (λ (o : Outcome). IsOutcome c.loop-place.router c.replay_entry.new.router (entry_of x) o) c.in-Ok-OfReply.field-0-is c.in-Ok-OfReply.ensures);
      };
    }

pub loop-place-preserved : goal.loop-place-preserved
loop-place-preserved c =
    let x = c.index-entries-place.result in
    let first = c.args.router.now in
    let good : IsOutcome c.loop-place.router c.replay_entry.new.router (entry_of x) outcome.Good = subst (λ (o : Outcome). IsOutcome c.loop-place.router c.replay_entry.new.router (entry_of x) o) c.in-Ok-Good.field-0-is c.in-Ok-Good.ensures in
    let before = take c.loop-place.place (map entry_of c.args.entries.now) in
    let more = take-more (map entry_of c.args.entries.now) c.loop-place.place (entry_of x) (nth-map entry_of c.args.entries.now c.loop-place.place x (nth-get c.args.entries.now c.loop-place.place x (omega (arith, c.loop-place-test.true)) c.index-entries-place.is)) in
    record {
      good = subst (λ (es : List Entry). AreGood given first es) (sym more) (good-more first before (entry_of x) c.loop-place.invariant.good (subst (λ (r : Router). IsGood given r (entry_of x)) c.loop-place.invariant.state good.0));
      state = good.1 ∙ ap (λ (r : Router). next given r (entry_of x).deed) c.loop-place.invariant.state ∙ sym (replay-more first before (entry_of x)) ∙ ap (replay given first) (sym more);
    }
