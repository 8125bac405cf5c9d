use Rattle.std.proofs.Common.{ap, ◌∙◌}
use Rattle.router_desk.specs.Desks.{DeskView}
use Rattle.walk_text.proofs.LevelLemmas.{own-root}
use Rattle.walk_text.proofs.nodes.system_of.Goals as goal

pub returns : goal.returns
returns c = own-root c.args.router.now c.system-system.result (c.system-system.ensures ∙ ap (λ (d : DeskView). d.system) c.desk.ensures) c.system_law.ensures
