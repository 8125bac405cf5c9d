-- The tests of a hello, in their order (ISO 10589 8.2.4.2, 8.4.2.1, RFC 5303 3.2; the order: own).
use Rattle.std.specs.Prelude.{ℕ, ◌==◌, nat_le, nat_lt, Bool, false, ◌&&◌, ◌||◌, not, List, length, Option, Some, None, is_none, if◌then◌else◌}
use Rattle.isis_base.specs.declared.level.Level.{Level}
use Rattle.isis_base.specs.declared.level.Level.TheVariants as level
use Rattle.model_router.specs.declared.drop_name.DropName.{DropName}
use Rattle.model_router.specs.declared.drop_name.DropName.TheVariants.{OwnId, OtherSnpa, OldBoot, NoLevel, NoArea, NoThreeWay, OtherNeighbour, TooMany}
use Rattle.model_router.specs.Maps.{find}
use Rattle.model_router.specs.Both.{Both, alone, is_level}
use Rattle.model_router.specs.Configs.{Config}
use Rattle.model_router.specs.Drops.{or_else}
use Rattle.model_router.specs.Adjacencies.{Handshake, Hello, common_of}
use Rattle.model_router.specs.Routers.{LanNeighbour}

-- whether a boot number is below the one that is remembered, if one is (own)
abbrev pub is_below : ℕ → Option ℕ → Bool
is_below boot None = false
is_below boot (Some greatest) = nat_lt boot greatest

-- whether a hello's boot number is below the greatest that is remembered of its system (own)
abbrev pub is_old : List (ℕ × ℕ) → Hello → Bool
is_old boots h = is_below h.boot (find boots h.source)

-- the tests of both kinds: one's own system, another SNPA than the source's (own), an old boot
-- (own), no level in common; `both_one` where both systems run L1
abbrev pub hello_drop : Config → List (ℕ × ℕ) → Both Bool → Bool → Hello → Option DropName
hello_drop config boots common both_one h =
    if h.source == config.system then Some OwnId
    else (if not (h.source == h.snpa) then Some OtherSnpa
    else (if is_old boots h then Some OldBoot
    else (if common.one || common.two then None
    else (if both_one then Some NoArea else Some NoLevel))))

-- whether what a handshake names is another system or circuit than one's own (RFC 5303 3.2)
abbrev pub names_drop : Config → ℕ → Option (ℕ × ℕ) → Option DropName
names_drop config extended None = None
names_drop config extended (Some names) =
    if names.0 == config.system && names.1 == extended then None else Some OtherNeighbour

-- RFC 5303 3.2
abbrev pub shake_drop : Config → ℕ → Option Handshake → Option DropName
shake_drop config extended None = Some NoThreeWay
shake_drop config extended (Some shake) = names_drop config extended shake.names

-- whether a system isn't remembered on a circuit on which 256 are (own)
abbrev pub full_drop : List (ℕ × ℕ) → ℕ → Option DropName
full_drop boots system =
    if nat_le 256 (length boots) && is_none (find boots system) then Some TooMany else None

-- a point-to-point hello's but for the last; `extended` is one's own extended circuit ID (8.2.4.2,
-- RFC 5303 3.2; the order: own)
abbrev pub known_point : Config → ℕ → List (ℕ × ℕ) → Hello → Option DropName
known_point config extended boots h =
    let both_one = config.runs.one && h.runs.one in
    or_else (hello_drop config boots (common_of config h) both_one h)
    (shake_drop config extended h.handshake)

-- own
abbrev pub point_drop : Config → ℕ → List (ℕ × ℕ) → Hello → Option DropName
point_drop config extended boots h =
    or_else (known_point config extended boots h) (full_drop boots h.source)

-- whether a LAN neighbour is new where 200 are heard (own)
abbrev pub many_drop : List (ℕ × LanNeighbour) → ℕ → Option DropName
many_drop heard snpa =
    if nat_le 200 (length heard) && is_none (find heard snpa) then Some TooMany else None

-- a LAN hello's but for the last, of which its own level alone is looked at (8.4.2.1)
abbrev pub known_lan : Config → Level → List (ℕ × ℕ) → List (ℕ × LanNeighbour) → Hello
    → Option DropName
known_lan config l boots heard h =
    let both_one = is_level l level.One && config.runs.one && h.runs.one in
    or_else (hello_drop config boots (alone l (common_of config h)) both_one h)
    (many_drop heard h.snpa)

-- own
abbrev pub lan_drop : Config → Level → List (ℕ × ℕ) → List (ℕ × LanNeighbour) → Hello
    → Option DropName
lan_drop config l boots heard h =
    or_else (known_lan config l boots heard h) (full_drop boots h.source)
