-- The boot that a point-to-point neighbour tells (RFC 5303 3.1; that its extended circuit ID has it:
-- own).
use Rattle.std.specs.Prelude.{ℕ, ◌/◌, Option, Some, None, if◌then◌else◌}
use Rattle.model_router.specs.Adjacencies.{Neighbour, is_up}
use Rattle.model_router.specs.Routers.{Circuit}

-- the last octet of an extended circuit ID is the circuit's number, and the octets before it are the
-- boot (own)
abbrev pub boot_told : Option Neighbour → Option ℕ
boot_told None = None
boot_told (Some n) = Some (n.extended / 256)

-- a LAN has no such neighbour, and it tells its boot where the adjacency is Up (RFC 5303 3.2)
abbrev pub named_boot : Circuit → Option ℕ
named_boot c =
    if c.lan then None else (if is_up c.point.state then boot_told c.point.neighbour else None)
