use Rattle.std.proofs.Common.{◌+◌, drop, List, None, subst, arith}
use Rattle.weave_core.specs.declared.moves.Turn.{Turn}
use Rattle.weave.proofs.ItemLemmas.{nth-or}
use Rattle.weave.specs.Woven.{happenings_of}
use Rattle.weave.specs.Plays.{Plays}
use Rattle.weave.proofs.ListLemmas.{drop-one}
use Rattle.weave.proofs.playing.play.Goals as goal

pub play_turn-requires : goal.play_turn-requires
play_turn-requires c = record {
  done = happenings_of c.loop-place.schedule;
  more = drop (c.loop-place.place + 1) c.args.turns.now;
  can = record {
    origin = c.requires.origin;
    hs = c.requires.hs;
    last = c.requires.last;
    plays =
        subst (λ (ts : List Turn). Plays c.requires.origin (happenings_of c.loop-place.schedule) ts c.loop-place.plans c.loop-place.network c.requires.hs c.requires.last)
        (drop-one c.args.turns.now c.loop-place.place _ (nth-or c.args.turns.now c.loop-place.place (record { party = 0; taken = None }) (omega (arith, c.loop-place-test.true))))
        (c.loop-place.invariant c.requires.origin c.requires.hs c.requires.last c.requires.plays);
  };
}
