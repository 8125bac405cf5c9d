use Rattle.std.proofs.Common.{List, length, ap, ◌∙◌}
use Rattle.model_router.specs.Places.{nth}
use Rattle.model_network.specs.declared.end.End.{End}
use Rattle.model_network.specs.RunLines.{by_router, ends_of}
use Rattle.network_lab.specs.LabNets.{LabNet}
use Rattle.network_lab.proofs.ReadLemmas.{count-is}
use Rattle.network_lab.proofs.network.Network.ends_count.Goals as goal

pub returns : goal.returns
returns g c =
    c.count_at.ensures ∙ (ap (λ (xs : List (List End)). length (ends_of (nth xs c.args.link))) c.deref.ensures.value
    ∙ (count-is c.self.inside.links.items c.self.inside.ordered.items c.args.link c.self.invariant.sorted
    ∙ ap (λ (l : LabNet). length (by_router (ends_of (nth l.seen.links c.args.link)))) c.self.view_is))
