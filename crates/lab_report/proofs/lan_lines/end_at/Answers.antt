-- An end of a LAN is there.
use Rattle.std.proofs.Common.{List, Option, ap, ◌∙◌}
use Rattle.model_router.specs.Places.{nth}
use Rattle.model_network.specs.declared.end.End.{End}
use Rattle.model_network.specs.RunLines.{ends_of}
use Rattle.lab_report.proofs.EndLemmas.{nth-or, place-within, end-there, end-in}
use Rattle.lab_report.proofs.lan_lines.end_at.Goals as goal

pub returns-clause-at : goal.returns-clause-at
returns-clause-at c =
    ap (λ (o : Option (List End)). nth (ends_of o) c.args.place) c.ends.ensures
    ∙ nth-or c.ends.result.now c.args.place _ (place-within _ c.ends.result.now c.args.place c.ends.ensures c.requires.place)

pub returns-clause-there : goal.returns-clause-there
returns-clause-there c =
    end-there c.args.net.now.seen c.args.lan c.ends.result.now c.args.place _ c.facts.ensures.ends c.ends.ensures
    (place-within _ c.ends.result.now c.args.place c.ends.ensures c.requires.place)

pub returns-clause-on : goal.returns-clause-on
returns-clause-on c = end-in c.args.net.now.seen.links c.args.lan c.args.place _ (returns-clause-at c)
