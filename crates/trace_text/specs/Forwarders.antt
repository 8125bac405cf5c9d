-- Routers as packets meet them (RFC 1195 3.10; the form: own).
use Rattle.std.specs.Prelude.{◌≡◌, List}
use Rattle.std.specs.List.{AllZip}
use Rattle.model_router.specs.Routers.{Router}
use Rattle.router_routes.specs.Outlooks.{outlook_of}
use Rattle.router_routes.specs.Candidates.{AreRoutesOf}
use Rattle.packet_trace.specs.declared.forwarder.Forwarder.{Forwarder}
use Rattle.forward_views.specs.Looks.{Look, outlook}

-- a router's system and its routes
pub record IsForwarder (router : Router) (forwarder : Forwarder) : Type 0 where
  pub system : forwarder.system ≡ (outlook_of router).root.system
  pub routes : AreRoutesOf (outlook_of router) forwarder.routes

-- those of each router, in order
abbrev pub AreForwarders : List Router → List Forwarder → Type 0
AreForwarders routers forwarders = AllZip IsForwarder routers forwarders

-- what is looked at of a router, as packets meet it
abbrev pub forwarder_of : Look → Forwarder
forwarder_of look = record { system = (outlook look).root.system; routes = look.routes }
