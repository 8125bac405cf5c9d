-- The text of a router's state, with its best routes (own).
use Rattle.std.specs.Prelude.{◌≡◌, ℕ, List}
use Rattle.model_router.specs.Routers.{Router}
use Rattle.route_table.specs.declared.route.Route.{Route}
use Rattle.router_routes.specs.Outlooks.{outlook_of}
use Rattle.router_routes.specs.Candidates.{AreRoutesOf}
use Rattle.state_text.specs.StateLines.{state_text}

-- a text is that of a router's state after so many entries of its journal. Its routes are for each prefix the best way over the
-- live LSPs of the router's databases (RFC 5302 3.2)
pub record IsStateText (entries : ℕ) (r : Router) (text : List ℕ) : Type 0 where
  pub routes : List Route
  pub best : AreRoutesOf (outlook_of r) routes
  pub text_is : text ≡ state_text entries r routes
