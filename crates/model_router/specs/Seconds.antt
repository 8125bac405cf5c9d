-- A second of a router, in its steps: counters, holding times, entries of both levels, own LSPs.
use Rattle.std.specs.Prelude.{ℕ, zero, suc, length, ◌-◌, nat_le, Bool, false, ◌||◌, List, [], ◌∷◌, map, Option, Some, None, if◌then◌else◌}
use Rattle.isis_base.specs.declared.level.Level.{Level}
use Rattle.isis_base.specs.declared.level.Level.TheVariants as level
use Rattle.isis_tlv.specs.declared.three_way.Adj.TheVariants.{Down}
use Rattle.model_router.specs.Maps.{each}
use Rattle.model_router.specs.Books.{risen}
use Rattle.model_router.specs.Places.{nth}
use Rattle.model_router.specs.Adjacencies.{Neighbour, PointAdj}
use Rattle.model_router.specs.Routers.{LanNeighbour, CircuitLevel, Circuit, Issued, LevelState, Router, level_of, with_level, with_circuit}
use Rattle.model_router.specs.Hellos.{follow}
use Rattle.model_router.specs.Givens.{Given}
use Rattle.model_router.specs.Wanted.{wanted}
use Rattle.model_router.specs.OwnLsps.{renew}
use Rattle.model_router.specs.Ageing.{wait_less, age}

-- ---- step 1: the counters of hellos, CSNPs, PSNPs and SRM flags fall, and ages of own LSPs rise

-- 7.3.15.3, 7.3.15.4
abbrev pub counted_level : CircuitLevel → CircuitLevel
counted_level l = record l { csnp = l.csnp - 1; psnp = l.psnp - 1 }

-- 8.2.3, 8.4.1
abbrev pub counted : Circuit → Circuit
counted c =
    record c {
      hello = c.hello - 1;
      levels = record { one = counted_level c.levels.one; two = counted_level c.levels.two };
    }

-- the seconds stand still at the end of 64 bits (7.3.5; the end: own)
abbrev pub older : Issued → Issued
older i = record i { age = risen i.age }

-- 7.3.15.5, 7.3.5
abbrev pub waited : LevelState → LevelState
waited state =
    record state {
      book = wait_less state.book;
      own = each (λ (_ : ℕ) (i : Issued). older i) state.own;
    }

-- own
unfoldable pub count_down : Router → Router
count_down r =
    record r {
      circuits = map counted r.circuits;
      levels = record { one = waited r.levels.one; two = waited r.levels.two };
    }

-- ---- step 2: holding times fall, and at their end adjacencies go (ISO 10589 8.2.5, 8.4.2)

-- whether a neighbour's holding time ends in this second (8.2.5, 8.4.2)
abbrev pub is_over : Neighbour → Bool
is_over n = nat_le n.left 1

-- 8.2.5, 8.4.2
abbrev pub held_less : Neighbour → Neighbour
held_less n = record n { left = n.left - 1 }

-- 8.2.5
abbrev pub point_kept : Option Neighbour → PointAdj → PointAdj
point_kept None point = point
point_kept (Some n) point =
    if is_over n then record { state = Down; neighbour = None }
    else record point { neighbour = Some (held_less n) }

-- a point-to-point adjacency a second later: Down where its time is over (8.2.5)
abbrev pub point_less : PointAdj → PointAdj
point_less point = point_kept point.neighbour point

-- the LAN neighbours whose time isn't over, a second later (8.4.2)
abbrev pub heard_less : List (ℕ × LanNeighbour) → List (ℕ × LanNeighbour)
heard_less [] = []
heard_less (pair ∷ heard) =
    if is_over pair.1.neighbour then heard_less heard
    else (pair.0, record pair.1 { neighbour = held_less pair.1.neighbour }) ∷ heard_less heard

-- 8.2.5
abbrev pub point_over : Option Neighbour → Bool
point_over None = false
point_over (Some n) = is_over n

-- 8.4.2
abbrev pub some_over : List (ℕ × LanNeighbour) → Bool
some_over [] = false
some_over (pair ∷ heard) = is_over pair.1.neighbour || some_over heard

-- whether an adjacency of a circuit ends in this second, which makes a hello due (own)
abbrev pub time_over : Circuit → Bool
time_over c =
    point_over c.point.neighbour || some_over c.levels.one.heard || some_over c.levels.two.heard

-- 8.2.5, 8.4.2
abbrev pub circuit_less : Circuit → Circuit
circuit_less c = record c {
  point = point_less c.point;
  levels = record {
    one = record c.levels.one { heard = heard_less c.levels.one.heard };
    two = record c.levels.two { heard = heard_less c.levels.two.heard };
  };
  hello = if time_over c then 0 else c.hello;
}

-- one circuit's holding times, where it is there (8.2.5, 8.4.2)
unfoldable pub hold : Router → ℕ → Circuit → Router
hold r place c = let new = circuit_less c in follow (with_circuit r place new) false place new

-- own
abbrev pub hold_one : Router → ℕ → Option Circuit → Router
hold_one r place None = r
hold_one r place (Some c) = hold r place c

-- those of the first so many circuits (own)
abbrev pub hold_all : Router → ℕ → Router
hold_all r zero = r
hold_all r (suc place) =
    let first = hold_all r place in hold_one first place (nth first.circuits place)

-- ---- step 3: the entries of each level, L1 first

-- 7.3.16.3
abbrev pub age_level : Router → Level → Router
age_level r level = with_level r level (age (level_of r level))

-- own
abbrev pub age_both : Router → Router
age_both r = age_level (age_level r level.One) level.Two

-- ---- step 4: one's own LSPs, as they are wanted by the routes before the event and the router now

-- 7.3.6
abbrev pub renew_level : Given → Router → Router → Level → Router
renew_level given before r level =
    with_level r level (renew given r level (level_of r level) (wanted given before r level))

-- own
abbrev pub renew_both : Given → Router → Router → Router
renew_both given before r =
    renew_level given before (renew_level given before r level.One) level.Two

-- a second (own)
unfoldable pub second : Given → Router → Router
second given r =
    let one = count_down r in renew_both given r (age_both (hold_all one (length one.circuits)))
