use Rattle.std.proofs.Common.{sym, subst}
use Rattle.std.specs.Option.{option_copied}
use Rattle.isis_base.specs.Identifiers.{lsp_number}
use Rattle.router_sending.specs.Drafts.{DraftView, IsIssuedCell}
use Rattle.router_core.specs.Givens.{is_attached, leaks_of}
use Rattle.router_core.proofs.parts.Parts.entry_at.Goals as goal

-- src/plan_outbid.rt
pub returns : goal.returns
returns c =
    let cell = subst (λ (d : DraftView). IsIssuedCell (option_copied c.level_key.result) d.level (lsp_number d.id) c.args.number d.contents c.issue-entry.result.entry) c.in_ok-draft.ensures c.issue-entry.ensures.cell in
    λ row. cell leaks_of is_attached c.args.self.now row (sym c.level_key.ensures)
