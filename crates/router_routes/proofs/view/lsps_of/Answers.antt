use Rattle.std.proofs.Common.{◌≡◌, subst}
use Rattle.isis_base.specs.declared.identifiers.NodeId.{NodeId}
use Rattle.isis_base.specs.Identifiers.{IsId}
use Rattle.router_routes.specs.Told.{told_in}
use Rattle.router_routes.specs.Moved.{told_at, told_of}
use Rattle.router_routes.proofs.ViewLemmas.{lead-read, reach-read, level-ids}
use Rattle.lsp_view.specs.Lsps.{entries_in}
use Rattle.router_routes.proofs.view.lsps_of.Goals as goal

pub returns-clause-lead : goal.returns-clause-lead
returns-clause-lead c =
    let level = c.args.level.now in
    lead-read (entries_in c.lsps_at-lsps.result) level c.args.system (subst (λ (n : NodeId). IsId (record { node = n; number = 255 })) c.own_node-node.ensures c.lsp_id_law.ensures) c.kept.ensures.ids (level-ids level c.len-entries.ensures.ids c.requires)
    (subst (λ (n : NodeId). told_at n (told_in (entries_in c.lsps_at-lsps.result)) ≡ told_at n (told_of level)) c.own_node-node.ensures c.lsps_at-lsps.ensures)

pub returns-clause-reach : goal.returns-clause-reach
returns-clause-reach c =
    let level = c.args.level.now in
    reach-read (entries_in c.lsps_at-lsps.result) level c.args.system (subst (λ (n : NodeId). IsId (record { node = n; number = 255 })) c.own_node-node.ensures c.lsp_id_law.ensures) c.kept.ensures.ids (level-ids level c.len-entries.ensures.ids c.requires)
    (subst (λ (n : NodeId). told_at n (told_in (entries_in c.lsps_at-lsps.result)) ≡ told_at n (told_of level)) c.own_node-node.ensures c.lsps_at-lsps.ensures)
