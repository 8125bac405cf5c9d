use Rattle.std.proofs.Common.{◌∙◌, sym}
use Rattle.router_core.proofs.PlanLemmas.{moving-of}
use Rattle.router_core.proofs.parts.Parts.told_by_lsp.Goals as goal

-- src/plan_lsp.rt
pub moving_by-requires-clause-moving : goal.moving_by-requires-clause-moving
moving_by-requires-clause-moving c = moving-of c.args.row c.requires.other (sym c.is_calm_row.ensures ∙ c.if-is_calm_row.false)
