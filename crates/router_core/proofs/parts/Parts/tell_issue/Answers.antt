use Rattle.std.proofs.lemmas.Result.{on_ok_weaker}
use Rattle.isis_base.specs.Identifiers.{lsp_number}
use Rattle.model_router.specs.OwnLsps.{issue_cell}
use Rattle.router_wanted.specs.Views.{contents_of}
use Rattle.router_core.specs.Givens.{given}
use Rattle.router_core.proofs.SightLemmas.{sight-issued}
use Rattle.router_core.proofs.parts.Parts.tell_issue.Goals as goal

-- src/renewing.rt
pub returns-in-Ok : goal.returns-in-Ok
returns-in-Ok c =
    let r = c.args.self.now in
    let l = c.args.level in
    let k = lsp_number c.args.want.now.id in
    on_ok_weaker c.tell.result
    (λ told sight shown aside.
    sight-issued r l c.tell.new.movers.nodes.items sight k c.in-Ok.entry (issue_cell given r l k c.args.number (contents_of c.args.want.now)) c.tell.new.movers.aside.entries c.in-Ok.ensures (told r l sight shown aside))
    c.tell.ensures
