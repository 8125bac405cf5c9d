use Rattle.std.proofs.Common.{◌∙◌, map, sym, ap, is_some, Option}
use Rattle.std.specs.Option.{option_map}
use Rattle.std.proofs.lemmas.Result.{on_ok_weaker}
use Rattle.isis_base.specs.Identifiers.{lsp_number}
use Rattle.model_router.specs.Maps.{find}
use Rattle.model_router.specs.Routers.{Contents}
use Rattle.router_wanted.specs.Views.{contents_of, wanted_of}
use Rattle.router_core.proofs.RenewalLemmas.{withdraw-gone, withdraw-kept}
use Rattle.router_core.proofs.SightLemmas.{sight-purged}
use Rattle.router_core.proofs.renewing.tell_withdraw.Goals as goal

-- src/renewing.rt
pub returns-in-Some : goal.returns-in-Some
returns-in-Some c r l sight shown aside =
    let k = lsp_number c.args.id in
    withdraw-kept r l c.args.movers.now.nodes.items (find (map wanted_of c.args.wanted.now) k) sight k c.args.movers.now.aside.entries
    (ap (λ (o : Option Contents). is_some o) (sym c.said_of.ensures.said) ∙ ap (λ (o : Option _). is_some (option_map (λ w. contents_of w.now) o)) c.in-Some.is) aside

-- src/renewing.rt
pub returns-in-None : goal.returns-in-None
returns-in-None c =
    let k = lsp_number c.args.id in
    on_ok_weaker c.tell.result
    (λ told r l sight shown aside.
    withdraw-gone r l c.tell.new.movers.nodes.items (find (map wanted_of c.args.wanted.now) k) sight k c.tell.new.movers.aside.entries
    (sym c.said_of.ensures.said ∙ ap (λ (o : Option _). option_map (λ w. contents_of w.now) o) c.in-None.is)
    (sight-purged r l c.tell.new.movers.nodes.items sight k c.no_entry.result c.tell.new.movers.aside.entries c.no_entry.ensures (told r l sight shown aside)))
    c.tell.ensures
