use Rattle.std.proofs.Common.{List, sym, subst}
use Rattle.std.proofs.lemmas.Result.{IfOk-weaker}
use Rattle.route_table.specs.declared.candidate.Candidate.{Candidate}
use Rattle.router_routes.specs.Candidates.{weighed_of}
use Rattle.router_routes.specs.Kept.{AreSame}
use Rattle.router_routes.specs.Moved.{outlook_at}
use Rattle.router_routes.specs.Outlooks.{Outlook, outlook_in}
use Rattle.router_routes.proofs.LeakLemmas.{leaks-by}
use Rattle.router_routes.proofs.WeighedLemmas.{routes-same, weighed-routes}
use Rattle.router_routes.proofs.lent.Lent.unrouted.Goals as goal

pub returns : goal.returns
returns c =
    let o = outlook_in c.args.self.now in
    let made = subst (λ (l : List Candidate). AreSame l (weighed_of (outlook_at c.as_lent.result))) (sym c.as_slice-2.ensures.value) c.in_ok-candidates.ensures in
    let same = subst (λ (p : Outlook). AreSame c.as_slice-2.result.now (weighed_of p)) c.as_lent.ensures.same made in
    IfOk-weaker c.routes_by.result _ _ (λ routes are level. leaks-by o _ routes level (weighed-routes _ o routes (routes-same _ c.as_slice-2.result.now (weighed_of o) routes same are))) c.routes_by.ensures
