-- A network in which nothing was sent, and a link whose ends open (own).
use Rattle.std.specs.Prelude.{◌≡◌, [], Some}
use Rattle.model_router.specs.Places.{nth}
use Rattle.model_router.specs.Routers.{Router}
use Rattle.model_router.specs.AdjacencyLaws.{no_tie, tie_at}
use Rattle.model_network.specs.Networks.{Network}
use Rattle.model_network.specs.Ports.{Port}
use Rattle.model_network.specs.Links.{IsSound}

-- a router of a link's end as it opens: it keeps and remembers nobody there (own)
pub record IsOpening (e : Port) (a : Router) : Type 0 where
  pub sound : IsSound e a
  pub alone : tie_at a e.place ≡ no_tie

-- nothing was sent, and both ends of a link open (own)
pub record Opens (net : Network) (e f : Port) : Type 0 where
  pub a : Router
  pub b : Router
  pub at_a : nth net.routers e.router ≡ Some a
  pub at_b : nth net.routers f.router ≡ Some b
  pub near : IsOpening e a
  pub far : IsOpening f b
  pub nothing : net.datagrams ≡ []
