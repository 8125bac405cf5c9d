-- A hello taken: what it does to its circuit and to both levels' books (point-to-point: ISO 10589
-- 8.2.4, RFC 5303 3.2; LAN: ISO 10589 8.4.2).
use Rattle.std.specs.Prelude.{ℕ, ◌==◌, Bool, false, List, ◌&&◌, ◌||◌, not, Option, Some, None, is_some, if◌then◌else◌}
use Rattle.isis_base.specs.declared.level.Level.{Level}
use Rattle.isis_base.specs.declared.level.Level.TheVariants as level
use Rattle.model_router.specs.Maps.{find, put}
use Rattle.model_router.specs.Both.{Both, at, with_at, alone, same_flag}
use Rattle.model_router.specs.Adjacencies.{Handshake, Hello, PointAdj, same_state, is_up, common_of, is_same, neighbour_of, hear_point, point_open}
use Rattle.model_router.specs.Books.{Book}
use Rattle.model_router.specs.Openings.{set_open, close}
use Rattle.model_router.specs.Routers.{LanNeighbour, CircuitLevel, Circuit, Router, book_of, with_book, with_circuit, is_open}

-- ---- books follow circuits

-- a book follows its circuit: closed first where its hello isn't from the neighbour that is kept,
-- then open or not as the circuit is (own)
abbrev pub follow_circuit : Bool → Book → ℕ → Bool → Book
follow_circuit anew book place up = set_open (if anew then close book place else book) place up

-- both levels' books follow a circuit (own)
abbrev pub follow : Router → Bool → ℕ → Circuit → Router
follow r anew place c =
    let one = follow_circuit anew (book_of r level.One) place (is_open c level.One) in
    let first = with_book r level.One one in
    let two = follow_circuit anew (book_of first level.Two) place (is_open c level.Two) in
    with_book first level.Two two

-- ---- point-to-point

-- whether an adjacency comes up: from another state, or with another neighbour (RFC 5303 3.2)
abbrev pub comes_up : PointAdj → PointAdj → Bool → Bool
comes_up old new same = is_up new.state && not (is_up old.state && same)

-- whether a hello makes an own one due: the state changed, or the adjacency first went Down (own)
abbrev pub is_moved : PointAdj → PointAdj → Bool → Bool
is_moved old new same = not (same_state old.state new.state) || (is_some old.neighbour && not same)

-- a CSNP set is due on a level that comes up (ISO 10589 7.3.17)
abbrev pub due_if : Bool → Level → Both CircuitLevel → Both CircuitLevel
due_if up l parts = with_at parts l (record (at parts l) { due = (at parts l).due || up })

-- the boots that a circuit remembers after a hello that passed all tests, whose own is then the
-- greatest of its system (own)
abbrev pub minded : List (ℕ × ℕ) → Hello → List (ℕ × ℕ)
minded boots h = put boots h.source h.boot

-- a circuit after a point-to-point hello (8.2.4.2, RFC 5303 3.2)
abbrev pub point_circuit : Circuit → Both Bool → Hello → Handshake → Circuit
point_circuit c common h shake =
    let new = hear_point c.point common h shake in
    let same = is_same c.point.neighbour common h shake.extended in
    let up = comes_up c.point new same in
    record c {
      point = new;
      hello = if is_moved c.point new same then 0 else c.hello;
      levels = due_if (up && point_open new level.One) level.One
          (due_if (up && point_open new level.Two) level.Two c.levels);
      boots = minded c.boots h;
    }

-- a point-to-point hello is taken: where it isn't from the neighbour that is kept, the circuit
-- closes first (own)
unfoldable pub take_point : Router → ℕ → Circuit → Hello → Handshake → Router
take_point r place c h shake =
    let common = common_of r.config h in
    let new = point_circuit c common h shake in
    follow (with_circuit r place new)
    (not (is_same c.point.neighbour common h shake.extended)) place new

-- ---- LAN

-- whether a LAN neighbour was heard, in this boot and state (own)
abbrev pub seen_so : Option LanNeighbour → ℕ → Bool → Bool
seen_so None boot up = false
seen_so (Some n) boot up = n.neighbour.boot == boot && same_flag n.up up

-- a circuit after a LAN hello of a level: its neighbour is Up where the hello lists one's own SNPA;
-- a new neighbour, one of another boot, which is first taken as gone, and a change of state make a
-- hello due (own)
abbrev pub lan_circuit : Circuit → Level → Both Bool → Hello → Circuit
lan_circuit c l common h =
    let now = at c.levels l in
    let kept : LanNeighbour = record { up = h.names_me; neighbour = neighbour_of h common 0 } in
    record c {
      levels = with_at c.levels l (record now { heard = put now.heard h.snpa kept });
      hello = if seen_so (find now.heard h.snpa) h.boot h.names_me then c.hello else 0;
      boots = minded c.boots h;
    }

-- a LAN hello is taken: its own level alone is looked at (8.4.2)
unfoldable pub take_lan : Router → ℕ → Circuit → Level → Hello → Router
take_lan r place c l h =
    let new = lan_circuit c l (alone l (common_of r.config h)) h in
    follow (with_circuit r place new) false place new
