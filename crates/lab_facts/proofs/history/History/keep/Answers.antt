use Rattle.std.proofs.Common.{ap}
use Rattle.lab_facts.specs.Sightings.{Memory}
use Rattle.lab_facts.proofs.SightingLemmas.{find-put}
use Rattle.lab_facts.proofs.history.History.keep.Goals as goal

pub returns-in-Ok-clause-first : goal.returns-in-Ok-clause-first
returns-in-Ok-clause-first c other =
    find-put c.self.inside.first.entries c.insert.new.self.entries c.args.self.now.first c.args.key c.in_ok-said.said _ c.in_ok-said.ensures (ap (λ (m : Memory). m.first) c.self.view_is) c.in-Ok.ensures.updates.0 other
