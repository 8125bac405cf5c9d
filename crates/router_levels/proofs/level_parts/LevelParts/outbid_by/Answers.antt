use Rattle.std.proofs.Common.{ℕ, ◌+◌, ◌≤◌, ap, ◌∙◌, arith}
use Rattle.std.proofs.lemmas.Result.{on_ok_weaker}
use Rattle.isis_base.specs.declared.identifiers.LspId.{LspId}
use Rattle.isis_base.specs.Identifiers.{lsp_number}
use Rattle.model_router.specs.Books.{cell_at}
use Rattle.model_router.specs.OwnLsps.{install, issue_cell}
use Rattle.model_router.specs.Takes.{last_purge}
use Rattle.model_datagram.specs.Lsps.{given_octets}
use Rattle.flag_sync.specs.Heard.{heard_of}
use Rattle.router_levels.specs.Views.{state_of}
use Rattle.router_levels.proofs.IssueLemmas.{outbid-issue, outbid-retire}
use Rattle.router_levels.proofs.level_parts.LevelParts.outbid_by.Goals as goal

pub returns-in-Some-clause-state : goal.returns-in-Some-clause-state
returns-in-Some-clause-state c leaks attached r level under =
    let s = state_of c.args.self.now in
    let n = lsp_number c.args.lsp.now.entry.id in
    let contents = c.args.draft.contents in
    let given = given_octets leaks attached in
    let last = last_purge (cell_at s.book n) (heard_of c.args.lsp.now) in
    on_ok_weaker c.issue.result (λ e.
    e ∙ ap (λ (id : LspId). install s (lsp_number id) contents (issue_cell given r level (lsp_number id) c.in-Some.number contents)) c.requires.draft
    ∙ ap (λ (k : ℕ). install s n contents (issue_cell given r level n k contents)) c.in-Some.ensures.1
    ∙ outbid-issue given r level s n c.args.above contents last c.in-Some.ensures.0) (c.issue.ensures.state leaks attached r level under)

pub returns-in-None-clause-state : goal.returns-in-None-clause-state
returns-in-None-clause-state c leaks attached r level under =
    let s = state_of c.args.self.now in
    let n = lsp_number c.args.lsp.now.entry.id in
    let given = given_octets leaks attached in
    let last = last_purge (cell_at s.book n) (heard_of c.args.lsp.now) in
    let most : 4294967296 ≤ c.args.above + 1 = (let h = c.in-None.ensures in omega (arith, h)) in
    on_ok_weaker c.retire_heard.result (λ e. e ∙ outbid-retire given r level s n c.args.above c.args.draft.contents last c.ranges.above.fits most) c.retire_heard.ensures.state
