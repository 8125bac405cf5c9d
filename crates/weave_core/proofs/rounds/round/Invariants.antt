use Rattle.std.proofs.Common.{◌≡◌, length, take, drop}
use Rattle.weave_core.specs.Scenes.{round_from}
use Rattle.weave_core.proofs.RoundLemmas.{joined}
use Rattle.weave_core.proofs.rounds.round.Given as goal

-- what was done of the round, and what is still to be done, are the round
abbrev pub invariant-loop-party : goal.invariant-loop-party
invariant-loop-party l = record {
  same : joined (take l.party l.tracks) (round_from l.party (drop l.party l.tracks) l.medium) ≡ round_from 0 l.fn.tracks l.fn.medium;
  size : length l.tracks ≡ length l.fn.tracks;
  end : l.party-end ≡ length l.fn.tracks;
}
