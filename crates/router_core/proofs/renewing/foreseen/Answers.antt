use Rattle.std.proofs.Common.{◌∙◌, sym, ap}
use Rattle.isis_base.specs.Identifiers.{lsp_number}
use Rattle.isis_base.specs.Keys.{rank}
use Rattle.lsp_store.specs.Maps as maps
use Rattle.lsp_fragments.specs.Issues.{issue_next, next_of}
use Rattle.model_router.specs.Maps.{find}
use Rattle.router_wanted.specs.Views.{contents_of}
use Rattle.router_core.specs.Renewals.{stays_in}
use Rattle.router_core.proofs.RenewalLemmas.{foreseen-full, foreseen-next, is-place, number-some}
use Rattle.router_core.proofs.renewing.foreseen.Goals as goal

-- src/renewing.rt
pub returns-then-has_no_place-clause-next : goal.returns-then-has_no_place-clause-next
returns-then-has_no_place-clause-next c least s low f =
    foreseen-full c.args.store.now.entries c.args.later.now.issued least c.args.count s (lsp_number c.args.want.now.id) (contents_of c.args.want.now) low f (sym c.has_no_place.ensures ∙ c.if-has_no_place.true)

-- src/renewing.rt
pub returns-clause-next : goal.returns-clause-next
returns-clause-next c least s low f =
    let k = lsp_number c.args.want.now.id in
    ap next_of (c.next_issue.ensures ∙ ap (issue_next (find c.args.later.now.issued k) (rank c.key_then.result)) c.says_same-same.ensures)
    ∙ foreseen-next c.args.store.now.entries c.args.later.now.issued least c.args.count s k (contents_of c.args.want.now) (rank c.key_then.result) low f c.key_then.ensures (sym c.has_no_place.ensures ∙ c.if-has_no_place.false)

-- src/renewing.rt
pub returns-clause-number : goal.returns-clause-number
returns-clause-number c n e = number-some (find c.args.later.now.issued (lsp_number c.args.want.now.id)) (rank c.key_then.result) c.says_same-same.result n (sym c.next_issue.ensures ∙ e)

-- src/renewing.rt
pub returns-clause-place : goal.returns-clause-place
returns-clause-place c n e out full = is-place c.args.count (stays_in (maps.find c.args.store.now.entries (lsp_number c.args.want.now.id))) (sym c.has_no_place.ensures ∙ c.if-has_no_place.false) out full
