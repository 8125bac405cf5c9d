use Rattle.std.proofs.Common.{◌∙◌, sym}
use Rattle.std.proofs.lemmas.Result.{on_ok_weaker}
use Rattle.isis_base.specs.Identifiers.{lsp_number}
use Rattle.router_core.specs.Calm.{is_ending}
use Rattle.router_core.proofs.SightLemmas.{end-false, end-true, sight-purged}
use Rattle.router_core.proofs.renewing.tell_end.Goals as goal

-- src/renewing.rt
pub returns-then-is_ending : goal.returns-then-is_ending
returns-then-is_ending c =
    let k = lsp_number c.args.id in
    on_ok_weaker c.tell.result
    (λ told r l sight shown aside.
    end-true r l c.tell.new.movers.nodes.items (is_ending c.args.entry.now) sight k c.tell.new.movers.aside.entries (sym c.is_ending.ensures ∙ c.if-is_ending.true)
    (sight-purged r l c.tell.new.movers.nodes.items sight k c.no_entry.result c.tell.new.movers.aside.entries c.no_entry.ensures (told r l sight shown aside)))
    c.tell.ensures

-- src/renewing.rt
pub returns : goal.returns
returns c r l sight shown aside =
    end-false r l c.args.movers.now.nodes.items (is_ending c.args.entry.now) sight (lsp_number c.args.id) c.args.movers.now.aside.entries (sym c.is_ending.ensures ∙ c.if-is_ending.false) aside
