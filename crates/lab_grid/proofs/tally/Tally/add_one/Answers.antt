use Rattle.std.proofs.Common.{ap, sym, ◌∙◌}
use Rattle.lab_grid.specs.Tallies.{tally_of}
use Rattle.lab_grid.proofs.TallyLemmas.{tally-same, tally_of-push, noted}
use Rattle.lab_grid.proofs.tally.Tally.add_one.Goals as goal

pub returns : goal.returns
returns c = λ before route same old.
    tally-same _ _ _ _ _ _ c.saturating_add-self.ensures c.saturating_add-self-2.ensures c.max-self.ensures
    ∙ ap (λ t. noted t c.args.cost) old ∙ ap (noted (tally_of before)) (sym same) ∙ sym (tally_of-push before route)
