use Rattle.std.proofs.Common.{◌≡◌, ℕ, Bool, true, false, not, ◌||◌, Option, is_some, sym, ap, ap₂, ◌∙◌}
use Rattle.isis_base.specs.declared.identifiers.LspId.{LspId}
use Rattle.isis_base.specs.Identifiers.{lsp_number}
use Rattle.isis_base.specs.Keys.{rank}
use Rattle.model_router.specs.Maps.{find}
use Rattle.model_router.specs.Cells.{Cell}
use Rattle.model_router.specs.Books.{cell_at, rank_at, is_full}
use Rattle.model_router.specs.Routers.{Issued}
use Rattle.model_router.specs.OwnLsps.{next}
use Rattle.lsp_fragments.specs.Issues.{issue_next, next_of}
use Rattle.router_levels.specs.Views.{LevelView, state_of}
use Rattle.router_levels.proofs.RenewLemmas.{next-place, no-place, some-place, next-number}
use Rattle.router_levels.proofs.level_parts.LevelParts.next.Goals as goal

pub returns-then-not-has_place-clause-next : goal.returns-then-not-has_place-clause-next
returns-then-not-has_place-clause-next c =
    let s = state_of c.args.self.now in
    let n = lsp_number c.args.draft.now.id in
    let contents = c.args.draft.now.contents in
    let place : (not (is_full s.book) || is_some (cell_at s.book n)) ≡ false = ap (λ (id : LspId). not (is_full s.book) || is_some (cell_at s.book (lsp_number id))) (sym c.id-id.ensures) ∙ sym c.has_place.ensures ∙ c.if-not-has_place.true in
    let nowhere = no-place (is_full s.book) (cell_at s.book n) place in
    sym (ap₂ (λ (full : Bool) (held : Option Cell). next full (find s.own n) held contents) nowhere.0 nowhere.1 ∙ c.next_laws.ensures.full (find s.own n) contents)

pub returns-clause-next : goal.returns-clause-next
returns-clause-next c =
    let s = state_of c.args.self.now in
    let n = lsp_number c.args.draft.now.id in
    let contents = c.args.draft.now.contents in
    let place : (not (is_full s.book) || is_some (cell_at s.book n)) ≡ true = ap (λ (id : LspId). not (is_full s.book) || is_some (cell_at s.book (lsp_number id))) (sym c.id-id.ensures) ∙ sym c.has_place.ensures ∙ c.if-not-has_place.false in
    let own = ap₂ (λ (v : LevelView) (id : LspId). find v.own.issued (lsp_number id)) c.self.view_is c.id-id.ensures in
    let held = c.key.ensures ∙ ap₂ (λ (v : LevelView) (id : LspId). rank_at (state_of v).book (lsp_number id)) c.self.view_is c.id-id.ensures in
    let issue = c.next_issue.ensures ∙ ap₂ (λ (i : Option Issued) (k : ℕ). issue_next i k c.says_same-same.result) own held ∙ ap (issue_next (find s.own n) (rank_at s.book n)) c.says_same-same.ensures in
    ap next_of issue ∙ sym (next-place c.next_laws.ensures.next c.next_laws.ensures.held (is_full s.book) (cell_at s.book n) (find s.own n) contents place)

pub returns-clause-number : goal.returns-clause-number
returns-clause-number c n e = next-number (find c.self.inside.own.issued (lsp_number c.id-id.result)) (rank c.key.result) c.says_same-same.result n (sym c.next_issue.ensures ∙ e)

pub returns-clause-place : goal.returns-clause-place
returns-clause-place c n e =
    let s = state_of c.args.self.now in
    let k = lsp_number c.args.draft.now.id in
    let place : (not (is_full s.book) || is_some (cell_at s.book k)) ≡ true = ap (λ (id : LspId). not (is_full s.book) || is_some (cell_at s.book (lsp_number id))) (sym c.id-id.ensures) ∙ sym c.has_place.ensures ∙ c.if-not-has_place.false in
    some-place (is_full s.book) (cell_at s.book k) place
