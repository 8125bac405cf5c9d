use Rattle.std.proofs.Common.{◌≡◌, ℕ, ◌<◌, length, Some}
use Rattle.model_router.specs.Places.{nth}
use Rattle.model_router.specs.Routers.{Router}
use Rattle.router_routes.specs.Outlooks.{outlook_of}
use Rattle.router_routes.specs.Candidates.{AreRoutesOf}
use Rattle.lab_report.specs.Reports.{routes_at}
use Rattle.lab_report.specs.ReportLeft.{routes_of}
use Rattle.lab_report.proofs.report.routes_of.Given as goal

-- the routes of the routers so far
abbrev pub invariant-loop-router : goal.invariant-loop-router
invariant-loop-router l = record {
  so_far : (i : ℕ) (r : Router) → i < l.router → nth l.net.seen.routers i ≡ Some r → AreRoutesOf (outlook_of r) (routes_at (routes_of l.routes.items) i);
  count : length l.routes.items ≡ l.router;
}
