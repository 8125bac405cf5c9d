use Rattle.weave_core.specs.Scenes.{start, AreRounds}
use Rattle.weave_core.proofs.RoundLemmas.{total}
use Rattle.weave_core.proofs.rounds.weave_tracks.Given as goal

abbrev pub invariant-rounds : goal.invariant-rounds
invariant-rounds l = AreRounds (start l.fn.tracks) (record { tracks = l.tracks; told = l.medium })

abbrev pub decreases-rounds : goal.decreases-rounds
decreases-rounds l = total l.tracks
