-- The state of a router: for each level its database, own LSPs and let-go LSP IDs; for each circuit
-- its adjacencies and counters; the drop counters, the configuration and the boot.
use Rattle.std.specs.Prelude.{ℕ, ◌+◌, ◌*◌, Bool, false, ◌||◌, List, [], ◌∷◌, Option, if◌then◌else◌}
use Rattle.isis_base.specs.declared.level.Level.{Level}
use Rattle.model_router.specs.Both.{Both, at, with_at}
use Rattle.model_router.specs.Configs.{Config}
use Rattle.model_router.specs.Books.{Book}
use Rattle.model_router.specs.LetGos.{LetGo}
use Rattle.model_router.specs.Adjacencies.{Neighbour, PointAdj, point_open}
use Rattle.model_router.specs.Places.{with_nth}

-- a neighbour heard on a LAN: Up, or else Initializing (ISO 10589 8.4.2.4)
pub record LanNeighbour : Type 0 where
  pub up : Bool
  pub neighbour : Neighbour

-- A circuit's part of one level: the LAN neighbours by SNPA, the seconds until a CSNP set and until
-- PSNPs may be sent (ISO 10589 7.3.15.3, 7.3.15.4), and whether a CSNP set is due on a
-- point-to-point circuit that came up (own).
pub record CircuitLevel : Type 0 where
  pub heard : List (ℕ × LanNeighbour)
  pub csnp : ℕ
  pub psnp : ℕ
  pub due : Bool

-- A circuit: its kind and configuration, its point-to-point adjacency, which stays Down on a LAN,
-- its part of each level, the seconds until its next hello, and the greatest boot number that was
-- heard of each system (own).
pub record Circuit : Type 0 where
  pub lan : Bool
  pub metric : ℕ
  pub priority : ℕ
  pub address : Option ℕ
  pub key : Option (List ℕ)
  pub point : PointAdj
  pub levels : Both CircuitLevel
  pub hello : ℕ
  pub boots : List (ℕ × ℕ)

-- what an LSP says behind its header: the flags octet and the TLVs (ISO 10589 9.8)
pub record Contents : Type 0 where
  pub flags : ℕ
  pub tlvs : List ℕ

-- one's own LSP that is issued, and the seconds since its last issue (7.3.5, 7.3.6)
pub record Issued : Type 0 where
  pub contents : Contents
  pub age : ℕ

-- a level's database, the own LSPs that are issued, by LSP ID, and the LSP IDs that were let go
-- (own)
pub record LevelState : Type 0 where
  pub book : Book
  pub own : List (ℕ × Issued)
  pub gone : LetGo

-- own
pub record Router : Type 0 where
  pub config : Config
  pub boot : ℕ
  pub circuits : List Circuit
  pub levels : Both LevelState
  pub drops : List ℕ

-- own
abbrev pub level_of : Router → Level → LevelState
level_of r level = at r.levels level

-- own
abbrev pub book_of : Router → Level → Book
book_of r level = (level_of r level).book

-- own
abbrev pub with_level : Router → Level → LevelState → Router
with_level r level state = record r { levels = with_at r.levels level state }

-- own
abbrev pub with_book : Router → Level → Book → Router
with_book r level book = with_level r level (record (level_of r level) { book = book })

-- own
abbrev pub with_circuit : Router → ℕ → Circuit → Router
with_circuit r place circuit = record r { circuits = with_nth r.circuits place circuit }

-- own
abbrev pub some_up : List (ℕ × LanNeighbour) → Bool
some_up [] = false
some_up (pair ∷ heard) = pair.1.up || some_up heard

-- whether a circuit has an up adjacency of a level, which opens it (own)
abbrev pub is_open : Circuit → Level → Bool
is_open c level = if c.lan then some_up (at c.levels level).heard else point_open c.point level

-- the extended circuit ID: the boot number, and the circuit number in its last octet (RFC 5303 3.1;
-- the parts: own)
abbrev pub extended_of : ℕ → ℕ → ℕ
extended_of boot place = 256 * boot + (place + 1)
