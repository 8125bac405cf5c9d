-- What is kept of the hellos of one link, seen from one of its ends (RFC 5303 3.2; the words: own).
use Rattle.std.specs.Prelude.{◌≡◌, ℕ, ◌<◌, ◌≤◌, ◌⊎◌, List, [], ◌∷◌, Option, Some}
use Rattle.isis_tlv.specs.declared.three_way.Adj.{Adj}
use Rattle.isis_tlv.specs.declared.three_way.Adj.TheVariants.{Up}
use Rattle.model_router.specs.Routers.{extended_of}
use Rattle.model_router.specs.Datagrams.{PointHello}
use Rattle.model_router.specs.Maps.{find}
use Rattle.model_router.specs.AdjacencyLaws.{Tie, IsBond}
use Rattle.model_network.specs.Networks.{Datagram}

-- an end of a link, with its router's system ID (own)
pub record Port : Type 0 where
  pub router : ℕ
  pub place : ℕ
  pub system : ℕ

-- the name of an end in one of its router's boots (own)
abbrev pub name_of : Port → ℕ → ℕ × ℕ
name_of e boot = (e.system, extended_of boot e.place)

-- a datagram stands in a list (own)
abbrev pub In : Datagram → List Datagram → Type 0
In d [] = ⊥
In d (x ∷ xs) = (d ≡ x) ⊎ In d xs

-- a datagram is a point-to-point hello of an end of a link (own)
pub record Hails (e : Port) (link : ℕ) (d : Datagram) (state : Adj) (extended : ℕ)
    (names : Option (ℕ × ℕ)) : Type 0 where
  pub sender : d.sender ≡ e.router
  pub on : d.link ≡ link
  pub says : d.says ≡ PointHello state extended names

-- a boot of an end, at most the present one, that a name tells (own)
pub record TellsBoot (f : Port) (present : ℕ) (name : ℕ × ℕ) : Type 0 where
  pub boot : ℕ
  pub name_is : name ≡ name_of f boot
  pub past : boot ≤ present

-- whom an end keeps is the other end in a boot, which is the one that it keeps and remembers (own)
pub record Keeps (f : Port) (m : Tie) (name : ℕ × ℕ) : Type 0 where
  pub boot : ℕ
  pub name_is : name ≡ name_of f boot
  pub kept : m.boot ≡ Some boot
  pub recalls : find m.boots f.system ≡ Some boot

-- an end remembers of the other end a boot that is at least this one (own)
pub record Recalls (f : Port) (m : Tie) (least : ℕ) : Type 0 where
  pub boot : ℕ
  pub recalls : find m.boots f.system ≡ Some boot
  pub least_is : least ≤ boot

-- What holds of a hello that an end e sent, which is in boot x with adjacency and memory m: its own
-- name is in it; in Down alone it names nobody; whom it names is the other end f in a boot that was,
-- at most y; and where it is of the present boot the end remembers at least the boot that it names
-- (own).
pub record IsHail (e : Port) (x : ℕ) (m : Tie) (f : Port) (y : ℕ) (d : Datagram) (state : Adj)
    (extended : ℕ) (names : Option (ℕ × ℕ)) : Type 0 where
  pub own : extended ≡ extended_of d.boot e.place
  pub bond : IsBond (record { state = state; names = names })
  pub other : (n : ℕ × ℕ) → names ≡ Some n → TellsBoot f y n
  pub kept : (z : ℕ) → d.boot ≡ x → names ≡ Some (name_of f z) → Recalls f m z

-- why an end is up: the other end sent a hello in the boot that is kept, and named this end's
-- present boot (own)
pub record Reason (e : Port) (x : ℕ) (m : Tie) (f : Port) (link : ℕ)
    (ds : List Datagram) : Type 0 where
  pub hello : Datagram
  pub state : Adj
  pub extended : ℕ
  pub was_sent : In hello ds
  pub hails : Hails f link hello state extended (Some (name_of e x))
  pub keeps : m.bond.names ≡ Some (name_of f hello.boot)

-- What is kept of the hellos of an end e in boot x with adjacency and memory m, where the other end f
-- is in boot y: whom it keeps is the other end in the boot that it remembers; that boot was; what its
-- hellos say; and why it is up (own).
pub record Hellos (e : Port) (x : ℕ) (m : Tie) (f : Port) (y : ℕ) (link : ℕ)
    (ds : List Datagram) : Type 0 where
  pub bond : IsBond m.bond
  pub kept : (n : ℕ × ℕ) → m.bond.names ≡ Some n → Keeps f m n
  pub past : (boot : ℕ) → find m.boots f.system ≡ Some boot → boot ≤ y
  pub named : (d : Datagram) (state : Adj) (extended : ℕ) (names : Option (ℕ × ℕ)) → In d ds
      → Hails e link d state extended names → IsHail e x m f y d state extended names
  pub reason : m.bond.state ≡ Up → Reason e x m f link ds

-- no two hellos of the two ends cross: that each names a later boot than the other's sender had
-- (own)
pub record Uncrossed (e f : Port) (link : ℕ) (ds : List Datagram) : Type 0 where
  pub none : (d g : Datagram) (s t : Adj) (p q z u : ℕ) → In d ds → In g ds
      → Hails e link d s p (Some (name_of f z)) → Hails f link g t q (Some (name_of e u))
      → d.boot < u → g.boot < z → ⊥
