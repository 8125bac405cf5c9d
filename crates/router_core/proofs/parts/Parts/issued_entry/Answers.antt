use Rattle.std.proofs.Common.{ℕ, List, Option, sym, subst}
use Rattle.std.specs.Option.{option_copied}
use Rattle.isis_base.specs.Identifiers.{lsp_number}
use Rattle.model_router.specs.Both.{at}
use Rattle.model_router.specs.Good.{IsIssuable}
use Rattle.router_sending.specs.Drafts.{DraftView, IsIssuedCell}
use Rattle.router_core.specs.Givens.{is_attached, leaks_of}
use Rattle.router_core.proofs.parts.Parts.issued_entry.Goals as goal

-- src/renewing.rt
pub new-requires : goal.new-requires
new-requires c = record {
  issuable = subst (λ (key : Option (List ℕ)). IsIssuable key (record { flags = c.args.want.now.flags; tlvs = c.in_ok-tlvs.tlvs })) (sym c.level_key-key.ensures)
      (subst (λ (tlvs : List ℕ). IsIssuable (at c.args.self.now.config.keys c.args.level) (record { flags = c.args.want.now.flags; tlvs = tlvs })) (sym c.in_ok-tlvs.ensures) c.requires.issuable);
}

-- src/renewing.rt
pub returns : goal.returns
returns c =
    let key = option_copied c.level_key-key.result in
    let cell = subst (λ (d : DraftView). IsIssuedCell key d.level (lsp_number d.id) c.args.number d.contents c.issue-entry.result.entry) c.in_ok-draft.ensures c.issue-entry.ensures.cell in
    let said = subst (λ (tlvs : List ℕ). IsIssuedCell key c.args.level (lsp_number c.args.want.now.id) c.args.number (record { flags = c.args.want.now.flags; tlvs = tlvs }) c.issue-entry.result.entry) c.in_ok-tlvs.ensures cell in
    λ row. said leaks_of is_attached c.args.self.now row (sym c.level_key-key.ensures)
