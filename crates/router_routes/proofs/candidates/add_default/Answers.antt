use Rattle.std.proofs.Common.{◌∙◌, ◌++◌, List, sym, ap, append-nil}
use Rattle.route_table.specs.declared.candidate.Candidate.{Candidate}
use Rattle.router_routes.specs.Moved.{told_of}
use Rattle.lsp_view.specs.Views.{attached_at}
use Rattle.router_routes.proofs.ToldLemmas.{attached-told}
use Rattle.router_routes.proofs.CandidateLemmas.{default-none, default-one}
use Rattle.lsp_view.specs.Lsps.{entries_in}
use Rattle.router_routes.proofs.candidates.add_default.Goals as goal

pub returns-in-Ok : goal.returns-in-Ok
returns-in-Ok c =
    let told = told_of c.args.told.now in
    let has = sym (ap attached_at c.lsps_of-lsps.ensures.lead) ∙ attached-told (entries_in c.lsps_of-lsps.result) c.kept.ensures.rises c.args.system ∙ sym c.is_attached.ensures ∙ c.if-not-is_attached.false in
    let value = c.in-Some.ensures.value in
    let is = default-one told (c.args.system, c.args.cost) c.in-Some.prefix has value.0 value.1 in
    rw (is, sym c.own_node.ensures) c.in-Ok.ensures.items

pub returns-then-not-is_attached : goal.returns-then-not-is_attached
returns-then-not-is_attached c =
    let has = sym (ap attached_at c.lsps_of-lsps.ensures.lead) ∙ attached-told (entries_in c.lsps_of-lsps.result) c.kept.ensures.rises c.args.system ∙ sym c.is_attached.ensures ∙ c.if-not-is_attached.true in
    sym (ap (λ (l : List Candidate). c.args.list.now.items ++ l) (default-none (told_of c.args.told.now) (c.args.system, c.args.cost) has) ∙ append-nil c.args.list.now.items)
