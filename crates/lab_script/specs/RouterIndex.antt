-- How the routers of a lab script lie in memory: a list, and an index of their names and of
-- their system IDs (own).
use Rattle.std.specs.Prelude.{◌≡◌}
use Rattle.std.specs.Str.{bytes_eq}
use Rattle.std.specs.HashSet.{contains_by}
use Rattle.isis_base.specs.declared.identifiers.SystemId.{SystemId}
use Rattle.lab_script.specs.declared.routers.Routers.TheInside.{Inside}
use Rattle.lab_script.specs.LabScripts.{router_names, has_system}

pub record AreRoutersIndexed (a : Inside) : Type 0 where
  pub named : a.names ≡ router_names a.list.items
  pub systems : (system : SystemId)
      → contains_by (λ (other : SystemId). bytes_eq system.0 other.0) a.systems
      ≡ has_system a.list.items system
