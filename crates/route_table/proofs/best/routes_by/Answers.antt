use Rattle.std.proofs.Common.{◌≡◌, ℕ, List, sym, subst}
use Rattle.std.proofs.lemmas.Result.{IfOk-weaker}
use Rattle.route_table.specs.declared.candidate.Candidate.{Candidate}
use Rattle.route_table.specs.declared.route.Route.{Route}
use Rattle.route_table.specs.Routes.{AreRoutes}
use Rattle.route_table.specs.Order.{IsListedHop}
use Rattle.route_table.proofs.OrderLemmas.{routes_by}
use Rattle.route_table.proofs.best.routes_by.Goals as goal

pub returns-in-Ok-best_of : goal.returns-in-Ok-best_of
returns-in-Ok-best_of c =
    let cs = c.args.candidates.now in
    let HopTo : Candidate → ℕ → Type 0 = IsListedHop c.args.one.now c.args.two.now in
    let list = c.in-Ok-best_of.routes.items in
    let sorted : AreRoutes HopTo c.in-Ok.sorted.items list = subst (λ (xs : List Candidate). AreRoutes HopTo xs list) c.as_slice.ensures.value c.in-Ok-best_of.ensures in
    let all : AreRoutes HopTo cs list = routes_by HopTo HopTo c.in-Ok.sorted.items cs list c.in-Ok.ensures.all c.in-Ok.ensures.none (λ candidate hop. ((λ h. h), (λ h. h))) sorted in
    IfOk-weaker c.of.result (λ (table : List Route). table ≡ list) (λ (table : List Route). AreRoutes HopTo cs table) (λ table e. subst (λ (rs : List Route). AreRoutes HopTo cs rs) (sym e) all) c.of.ensures
