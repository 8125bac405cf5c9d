use Rattle.std.proofs.Common.{◌∙◌, sym, ap}
use Rattle.isis_base.specs.Identifiers.{lsp_number}
use Rattle.lsp_fragments.specs.Issues.{next_of}
use Rattle.router_wanted.specs.Views.{wanted_of}
use Rattle.router_core.specs.Renewals.{sight_of}
use Rattle.router_core.proofs.AsideLemmas.{named}
use Rattle.router_core.proofs.RenewalLemmas.{look-issues, look-retires, look-waits}
use Rattle.router_core.proofs.SightLemmas.{sight-purged}
use Rattle.router_core.proofs.parts.Parts.tell_look.Goals as goal

-- src/renewing.rt
pub returns-in-Wait-clause-ahead : goal.returns-in-Wait-clause-ahead
returns-in-Wait-clause-ahead c least s low shown a =
    look-waits c.args.self.now c.args.level c.args.store.now.entries c.args.later.now.issued least c.args.count c.args.movers.now.nodes.items c.args.movers.now.aside.entries s (wanted_of c.args.want.now) low a
    (sym (ap next_of c.in-Wait.is) ∙ c.foreseen.ensures.next least s low a.foreseen)

-- src/renewing.rt
pub returns-in-Ok-clause-ahead : goal.returns-in-Ok-clause-ahead
returns-in-Ok-clause-ahead c least s low shown a =
    let r = c.args.self.now in
    let l = c.args.level in
    let nodes = c.tell.new.movers.nodes.items in
    let aside = c.tell.new.movers.aside.entries in
    look-retires r l c.args.store.now.entries c.args.later.now.issued least c.args.count c.args.movers.now.nodes.items nodes c.args.movers.now.aside.entries aside s (wanted_of c.args.want.now) low
    (named c.args.want.now.id c.lsp_id_law.ensures) a (sym (ap next_of c.in-Exhausted.is) ∙ c.foreseen.ensures.next least s low a.foreseen)
    (sight-purged r l nodes (sight_of s.book) (lsp_number c.args.want.now.id) c.no_entry.result aside c.no_entry.ensures (c.in-Ok.ensures r l (sight_of s.book) shown a.seen_aside))

-- src/renewing.rt
pub returns-in-Ok-tell_issue-clause-ahead : goal.returns-in-Ok-tell_issue-clause-ahead
returns-in-Ok-tell_issue-clause-ahead c least s low shown a =
    look-issues c.args.self.now c.args.level c.args.store.now.entries c.args.later.now.issued least c.args.count c.args.movers.now.nodes.items c.tell_issue.new.movers.nodes.items c.args.movers.now.aside.entries c.tell_issue.new.movers.aside.entries s
    (wanted_of c.args.want.now) low (named c.args.want.now.id c.lsp_id_law.ensures) a c.in-Number.number c.with_one.result
    (sym (ap next_of c.in-Number.is) ∙ c.foreseen.ensures.next least s low a.foreseen) c.with_one.ensures (c.in-Ok-tell_issue.ensures (sight_of s.book) shown a.seen_aside)
