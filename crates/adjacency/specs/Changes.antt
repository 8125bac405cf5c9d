-- Why a hello is refused, what became of an adjacency, and the boot that it names
-- (ISO 10589 8.2.4, 8.4.2, RFC 5303 3; the form: own).
use Rattle.std.specs.Prelude.{◌≡◌, ℕ, ◌/◌, Bool, ◌&&◌, not, if◌then◌else◌, Option, Some, None, Result, Ok, Err}
use Rattle.std.specs.Option.{option_map}
use Rattle.model_router.specs.declared.drop_name.DropName.{DropName}
use Rattle.model_router.specs.declared.drop_name.DropName.TheVariants as name
use Rattle.model_router.specs.Adjacencies.{PointAdj, is_up}
use Rattle.model_router.specs.Hellos.{comes_up, is_moved}
use Rattle.adjacency.specs.declared.hello.HelloDrop.{HelloDrop}
use Rattle.adjacency.specs.declared.hello.HelloDrop.TheVariants as drop
use Rattle.adjacency.specs.declared.hello.AdjChange.{AdjChange}
use Rattle.adjacency.specs.declared.hello.AdjChange.TheVariants as change

abbrev pub drop_name : HelloDrop → DropName
drop_name drop.OwnId = name.OwnId
drop_name drop.OtherSnpa = name.OtherSnpa
drop_name drop.OldBoot = name.OldBoot
drop_name drop.NoLevel = name.NoLevel
drop_name drop.NoArea = name.NoArea
drop_name drop.NoThreeWay = name.NoThreeWay
drop_name drop.OtherNeighbour = name.OtherNeighbour
drop_name drop.TooMany = name.TooMany

-- an answer is Ok exactly where no test fails, and else names the first that does
abbrev pub IsTested : {A : Type 0} → Result A HelloDrop → Option DropName → Type 0
IsTested (Ok a) first = first ≡ None
IsTested (Err refused) first = first ≡ Some (drop_name refused)

-- What became of a point-to-point adjacency; `same` where it still keeps the neighbour that it
-- kept. It went up where it is up and wasn't with this neighbour; it left Up where it was up and
-- isn't; it moved where neither is so and its state changed or it first went Down (own).
abbrev pub change_of : PointAdj → PointAdj → Bool → AdjChange
change_of old new same =
    if comes_up old new same then change.WentUp
    else (if is_up old.state && not (is_up new.state) then change.LeftUp
    else (if is_moved old new same then change.Moved else change.None))

-- the boot in the extended circuit ID of the neighbour, where the adjacency is up (own)
abbrev pub boot_of : PointAdj → Option ℕ
boot_of point =
    if is_up point.state then option_map (λ n. n.extended / 256) point.neighbour else None
