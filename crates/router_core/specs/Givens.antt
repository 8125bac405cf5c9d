-- What a router's step is given: what its routes leak, whether it is attached, and how its LSPs are
-- written (own).
use Rattle.std.specs.Prelude.{ℕ, Bool, List}
use Rattle.isis_base.specs.declared.level.Level.{Level}
use Rattle.model_router.specs.Routers.{Router}
use Rattle.model_router.specs.Givens.{Given}
use Rattle.model_datagram.specs.Lsps.{given_octets}
use Rattle.router_routes.specs.Outlooks.{outlook_of}
use Rattle.router_routes.specs.Candidates as candidates
use Rattle.router_routes.specs.Leaks as leaks

-- the prefixes that a router's routes leak into a level, with their metrics (RFC 5302 3)
abbrev pub leaks_of : Router → Level → List (ℕ × ℕ)
leaks_of r level = leaks.leaks_of (outlook_of r) level

-- whether a router is attached to another area (ISO 10589 7.2.9.2)
abbrev pub is_attached : Router → Bool
is_attached r = candidates.attached_of (outlook_of r)

-- own
abbrev pub given : Given
given = given_octets leaks_of is_attached
