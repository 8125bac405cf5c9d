use Rattle.std.proofs.Common.{◌≡◌, ℕ, ◌+◌, ◌≤◌, List, None, subst, sym, ap, ◌∙◌, arith}
use Rattle.isis_base.specs.declared.identifiers.LspId.{LspId}
use Rattle.isis_base.specs.Identifiers.{lsp_number}
use Rattle.model_router.specs.Maps.{find}
use Rattle.model_router.specs.Books.{cell_at}
use Rattle.model_router.specs.OwnLsps.{install, retire, issue_cell}
use Rattle.model_router.specs.Takes.{held_purge}
use Rattle.model_datagram.specs.Lsps.{given_octets}
use Rattle.router_levels.specs.Views.{state_of}
use Rattle.router_levels.proofs.IssueLemmas.{outbid-issue, outbid-retire}
use Rattle.router_levels.proofs.EntryLemmas.{put-fewer, erase-fewer}
use Rattle.router_levels.proofs.level_parts.LevelParts.outbid_entry.Goals as goal

pub returns-in-Some-clause-state : goal.returns-in-Some-clause-state
returns-in-Some-clause-state c leaks attached r level under =
    let s = state_of c.args.self.now in
    let n = lsp_number c.args.draft.id in
    let contents = c.args.draft.contents in
    let given = given_octets leaks attached in
    let last = held_purge (cell_at s.book n) in
    (rw c.unwrap.ensures at (c.issue.ensures.state leaks attached r level under))
    ∙ ap (λ (k : ℕ). install s n contents (issue_cell given r level n k contents)) c.in-Some.ensures.1
    ∙ outbid-issue given r level s n c.args.above contents last c.in-Some.ensures.0

pub returns-in-Some-clause-fewer : goal.returns-in-Some-clause-fewer
returns-in-Some-clause-fewer c n none =
    subst (λ (m : List _). find m n ≡ None) (sym (rw c.unwrap.ensures at c.issue.ensures.own)) (put-fewer c.args.self.now.own.issued (lsp_number c.args.draft.id) _ c.requires.own n none)

pub returns-in-None-clause-state : goal.returns-in-None-clause-state
returns-in-None-clause-state c leaks attached r level under =
    let s = state_of c.args.self.now in
    let n = lsp_number c.args.draft.id in
    let last = held_purge (cell_at s.book n) in
    let most : 4294967296 ≤ c.args.above + 1 = (let h = c.in-None.ensures in omega (arith, h)) in
    c.retire.ensures.state ∙ ap (λ (id : LspId). retire s (lsp_number id) (held_purge (cell_at s.book (lsp_number id)))) c.id-id.ensures
    ∙ outbid-retire (given_octets leaks attached) r level s n c.args.above c.args.draft.contents last c.ranges.above.fits most

pub returns-in-None-clause-fewer : goal.returns-in-None-clause-fewer
returns-in-None-clause-fewer c n none =
    subst (λ (m : List _). find m n ≡ None) (sym c.retire.ensures.own) (erase-fewer c.args.self.now.own.issued (lsp_number c.id-id.result) n none)
