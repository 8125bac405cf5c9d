use Rattle.std.proofs.Common.{◌∙◌, refl, sym}
use Rattle.std.proofs.lemmas.Bool.{eqb-true}
use Rattle.router_core.proofs.RenewalLemmas.{no-nodes, none-moved}
use Rattle.router_core.proofs.renewing.if_any.Goals as goal

-- src/renewing.rt
pub returns-then-is_empty : goal.returns-then-is_empty
returns-then-is_empty c old new rises moved = λ _.
    none-moved c.args.movers.nodes.items _ old new (no-nodes c.args.movers.nodes.items (sym c.args.movers.nodes.ok.0 ∙ eqb-true _ 0 (sym c.is_empty.ensures ∙ c.if-is_empty.true))) moved

-- src/renewing.rt
pub returns : goal.returns
returns c old new rises moved = (refl, rises, moved)
