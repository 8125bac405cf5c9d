use Rattle.std.proofs.Common.{Some, sym, subst}
use Rattle.std.proofs.lemmas.Result.{on_ok_weaker}
use Rattle.isis_base.specs.Identifiers.{lsp_number}
use Rattle.router_core.specs.Asides.{seen_in}
use Rattle.router_core.specs.Renewals.{IsSightAside, with_sight}
use Rattle.router_core.proofs.SightLemmas.{sight-put}
use Rattle.router_core.proofs.renewing.tell.Goals as goal

-- src/renewing.rt
pub returns-in-Ok : goal.returns-in-Ok
returns-in-Ok c =
    on_ok_weaker c.put_in.result
    (λ is r l sight shown aside.
    subst (IsSightAside r l c.reach.new.movers.nodes.items (with_sight sight (lsp_number c.args.id) (seen_in (Some c.args.entry)))) (sym is)
    (sight-put r l c.reach.new.movers.nodes.items sight c.reach.new.movers.aside.entries c.args.id c.args.entry c.lsp_id_law.ensures c.in-Ok.ensures.among (c.in-Ok.ensures.aside r l sight shown aside)))
    c.put_in.ensures
