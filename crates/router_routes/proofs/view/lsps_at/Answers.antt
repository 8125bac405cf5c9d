use Rattle.std.proofs.Common.{◌∙◌, List, sym, ap}
use Rattle.isis_base.specs.declared.identifiers.LspId.{LspId}
use Rattle.lsp_store.specs.declared.entry.Entry.{Entry}
use Rattle.router_routes.specs.Told.{told_in}
use Rattle.router_routes.specs.Moved.{told_at, is_among}
use Rattle.router_routes.proofs.ViewLemmas.{read-aside, read-store, read-alone}
use Rattle.router_routes.proofs.view.lsps_at.Goals as goal

pub returns-then-is_there : goal.returns-then-is_there
returns-then-is_there c = read-aside c.args.level.now c.in-Some.moved c.in-Some.is c.requires c.args.node (ap (is_among c.in-Some.moved.nodes.now) (sym c.number.ensures) ∙ sym c.is_there.ensures ∙ c.if-is_there.true)

pub returns-else-is_there : goal.returns-else-is_there
returns-else-is_there c = ap (λ (l : List (LspId × Entry)). told_at c.args.node (told_in l)) c.of.ensures ∙ read-store c.args.level.now c.in-Some.moved c.in-Some.is c.requires c.args.node (ap (is_among c.in-Some.moved.nodes.now) (sym c.number.ensures) ∙ sym c.is_there.ensures ∙ c.if-is_there.false)

pub returns-in-None : goal.returns-in-None
returns-in-None c = ap (λ (l : List (LspId × Entry)). told_at c.args.node (told_in l)) c.of-in-None.ensures ∙ ap (told_at c.args.node) (read-alone c.args.level.now c.in-None.is)
