use Rattle.std.proofs.Common.{◌≡◌, ◌-◌, false, not, List, ℕ, sym, ◌∙◌, subst}
use Rattle.isis_base.specs.Identifiers.{lsp_number}
use Rattle.model_router.specs.Cells.{Heard}
use Rattle.model_router.specs.declared.lsp_case.LspCase.{LspCase}
use Rattle.model_router.specs.LspTable.{met}
use Rattle.model_router.specs.Places.{nth}
use Rattle.model_router.specs.Routers.{LevelState, level_of}
use Rattle.model_router.specs.Receiving.{acks}
use Rattle.model_router.specs.Takes.{whose_of}
use Rattle.flag_sync.specs.Heard.{heard_of}
use Rattle.router_core.specs.declared.reply.Reply.TheVariants as reply
use Rattle.router_core.specs.Replies.{Answers}
use Rattle.router_core.proofs.AckLemmas.{row-is, purge-rank, acknowledges, done, row-answer, met-purge, not-false}
use Rattle.router_core.proofs.IdleLemmas.{each-some, from-some}
use Rattle.router_core.proofs.parts.Parts.acknowledged.Goals.{in_default-via-in-AckPurge+else-is_point, in_default-via-in_default}
use Rattle.router_core.proofs.parts.Parts.acknowledged.Goals as goal

-- src/take.rt
pub returns-in_ok-out-in-AckPurge : goal.returns-in_ok-out-in-AckPurge
returns-in_ok-out-in-AckPurge c =
    let r = c.args.self.now in
    let p = c.args.circuit - 1 in
    let h : Heard = heard_of c.args.lsp.now in
    let s : LevelState = level_of r c.args.level in
    let w = whose_of r.config.system s (lsp_number c.args.lsp.now.entry.id) in
    let row : LspCase = met s.book w h in
    let is = row-is row c.args.lsp.now (sym c.requires.row ∙ c.in-AckPurge.is) in
    each-some (nth r.circuits p) (λ x. Answers r p (acks x c.args.level h row) (reply.Send c.in_ok-out-in-AckPurge.out))
    (λ x e. subst (λ (out : List (List ℕ)). Answers r p (acks x c.args.level h row) (reply.Send out)) (sym c.in_ok-out-in-AckPurge.ensures)
    (acknowledges r p x c.args.level h row _ is (sym c.if-is_point.true ∙ from-some (λ y. c.is_point.result ≡ not y.lan) (nth r.circuits p) x e c.is_point.ensures)
    (purge-rank c.args.lsp.now.entry (met-purge s.book w h is))))

-- src/take.rt
pub returns-in_default : goal.returns-in_default
returns-in_default c =
    let r = c.args.self.now in
    let p = c.args.circuit - 1 in
    let h : Heard = heard_of c.args.lsp.now in
    let s : LevelState = level_of r c.args.level in
    let w = whose_of r.config.system s (lsp_number c.args.lsp.now.entry.id) in
    let row : LspCase = met s.book w h in
    elim c.in_default.branch [
      | in_default-via-in-AckPurge+else-is_point b ↦
          each-some (nth r.circuits p) (λ x. Answers r p (acks x c.args.level h row) reply.Done)
          (λ x e. done r p x c.args.level h row (λ _. not-false x.lan (from-some (λ y. false ≡ not y.lan) (nth r.circuits p) x e b.if-is_point.ensures)))
      | in_default-via-in_default b ↦
          each-some (nth r.circuits p) (λ x. Answers r p (acks x c.args.level h row) reply.Done)
          (λ x e. done r p x c.args.level h row (λ is. absurd (b.in_default.not-AckPurge (c.requires.row ∙ row-answer row c.args.lsp.now is))))
    ]
