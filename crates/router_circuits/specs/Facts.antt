-- What always holds of a circuit.
use Rattle.std.specs.Prelude.{◌≡◌, ◌↔◌, true, false, [], None, IfSome}
use Rattle.isis_base.specs.declared.level.Level.{Level}
use Rattle.isis_tlv.specs.declared.three_way.Adj.TheVariants.{Down}
use Rattle.model_router.specs.Both.{at}
use Rattle.model_router.specs.Routers.{Circuit}
use Rattle.adjacency.specs.Views.{point_down}
use Rattle.adjacency.specs.Lans.{AreHeard}
use Rattle.router_circuits.specs.Views.{IsSized, AllSized}

-- A LAN's point-to-point adjacency is Down, and on a point-to-point circuit nobody is heard as on a
-- LAN; a point-to-point neighbour is kept exactly outside Down (RFC 5303 3.2); those heard on a LAN
-- are by SNPA, each once, and at most 200, and a neighbour's SNPA is its system ID (own); the
-- fields of neighbours have the standard's sizes.
pub record IsCircuit (c : Circuit) : Type 0 where
  pub point : c.lan ≡ true → c.point ≡ point_down
  pub nobody : c.lan ≡ false → (level : Level) → (at c.levels level).heard ≡ []
  pub kept : (c.point.neighbour ≡ None) ↔ (c.point.state ≡ Down)
  pub heard : (level : Level) → AreHeard (at c.levels level).heard
  pub sized : IfSome c.point.neighbour IsSized
  pub all_sized : (level : Level) → AllSized (at c.levels level).heard
