use Rattle.std.proofs.Common.{length, ◌∙◌, sym, ◌≡◌}
use Rattle.weave_core.proofs.RoundLemmas.{one-round, end-here, less-left}
use Rattle.weave_core.proofs.rounds.weave_tracks.Goals as goal

pub returns-then-len-before : goal.returns-then-len-before
returns-then-len-before c = end-here _ _ _ c.rounds.invariant c.in_ok-round.ensures (sym c.len.ensures ∙ c.if-len-before.true ∙ c.len-before.ensures)

pub rounds-smaller : goal.rounds-smaller
rounds-smaller c =
    less-left (record { tracks = c.rounds.tracks; told = c.rounds.medium }) (record { tracks = c.round.new.tracks; told = c.round.new.medium }) c.in_ok-round.ensures
    (λ (e : length c.round.new.medium.turns ≡ length c.rounds.medium.turns). c.if-len-before.false (c.len.ensures ∙ e ∙ sym c.len-before.ensures))

pub rounds-preserved : goal.rounds-preserved
rounds-preserved c = one-round _ _ _ c.rounds.invariant c.in_ok-round.ensures
