-- Adjacencies from a router to the one after a step: which circuits are open, whom they keep, and
-- what hellos tell of it (ISO 10589 8.2.4, RFC 5303 3.2; the words: own).
use Rattle.std.specs.Prelude.{◌≡◌, ◌≢◌, ℕ, ◌<◌, ◌≤◌, List, [], Bool, true, false, not, ◌⊎◌, length, Option, Some, None}
use Rattle.isis_tlv.specs.declared.three_way.Adj.{Adj}
use Rattle.isis_tlv.specs.declared.three_way.Adj.TheVariants.{Up, Down}
use Rattle.isis_base.specs.declared.level.Level.{Level}
use Rattle.model_router.specs.Places.{nth}
use Rattle.model_router.specs.Sets.{has}
use Rattle.std.specs.Option.{option_map}
use Rattle.model_router.specs.Maps.{find}
use Rattle.model_router.specs.Adjacencies.{Neighbour, Handshake, Hello}
use Rattle.model_router.specs.Routers.{Circuit, Router, book_of, is_open, extended_of}
use Rattle.model_router.specs.Elections.{is_designated}
use Rattle.model_router.specs.Both.{at}
use Rattle.model_router.specs.Flooding.{Covers}
use Rattle.model_router.specs.Datagrams.{Sent, PointHello, LanHello, Lsp, Csnp, Psnp}
use Rattle.model_router.specs.Pulls.{names_of}
use Rattle.model_router.specs.Hellos.{minded}
use Rattle.model_router.specs.Events.{PointHelloHeard, LanHelloHeard, Event, Second, Take, Pull, Metric, Overload, Prefix, Reply}
use Rattle.model_router.specs.Books.{rank_at, srm_at}
use Rattle.model_router.specs.StepLaws.{IsPointOpen}
use Rattle.model_router.specs.ReplyLaws.{AllSent}

-- ---- open circuits

-- whether a circuit is there and has an up adjacency of a level (own)
abbrev pub opens : Option Circuit → Level → Bool
opens None level = false
opens (Some c) level = is_open c level

-- own
abbrev pub is_point : Option Circuit → Bool
is_point None = false
is_point (Some c) = not c.lan

-- a book's open circuits are those with an up adjacency of its level, and its point-to-point
-- circuits are the router's (own)
pub record FollowsAdjacencies (r : Router) : Type 0 where
  pub opened : (level : Level) (place : ℕ)
      → has (book_of r level).opened place ≡ opens (nth r.circuits place) level
  pub points : (level : Level) (place : ℕ)
      → has (book_of r level).p2p place ≡ is_point (nth r.circuits place)

-- ---- whom a point-to-point circuit keeps

-- a circuit's point-to-point adjacency: its state, and the system and extended circuit ID that it
-- keeps (RFC 5303 3.2)
pub record Bond : Type 0 where
  pub state : Adj
  pub names : Option (ℕ × ℕ)

-- own
abbrev pub no_bond : Bond
no_bond = record { state = Down; names = None }

-- A circuit's adjacency with the boot number of the neighbour that it keeps, and the greatest boot
-- numbers that it remembers, by system (own).
pub record Tie : Type 0 where
  pub bond : Bond
  pub boot : Option ℕ
  pub boots : List (ℕ × ℕ)

-- own
abbrev pub no_tie : Tie
no_tie = record { bond = no_bond; boot = None; boots = [] }

-- own
abbrev pub tie_of : Option Circuit → Tie
tie_of None = no_tie
tie_of (Some c) = record {
  bond = record { state = c.point.state; names = names_of c.point.neighbour };
  boot = option_map (λ (n : Neighbour). n.boot) c.point.neighbour;
  boots = c.boots;
}

-- the adjacency of the circuit at a place, and what it remembers (own)
abbrev pub tie_at : Router → ℕ → Tie
tie_at r place = tie_of (nth r.circuits place)

-- the same where the adjacency has ended: what is remembered stays (own)
abbrev pub ended : Tie → Tie
ended tie = record tie { bond = no_bond; boot = None }

-- the adjacency alone (own)
abbrev pub bond_of : Option Circuit → Bond
bond_of c = (tie_of c).bond

-- own
abbrev pub bond_at : Router → ℕ → Bond
bond_at r place = bond_of (nth r.circuits place)

-- a hello's boot number is made the one that is remembered of its system, and none that was was
-- greater (own)
pub record Minds (old : Tie) (h : Hello) (new : Tie) : Type 0 where
  pub boots : new.boots ≡ minded old.boots h
  pub least : (boot : ℕ) → find old.boots h.source ≡ Some boot → boot ≤ h.boot

-- nobody is kept exactly in Down (own)
pub record IsBond (b : Bond) : Type 0 where
  pub down : b.state ≡ Down → b.names ≡ None
  pub names : b.names ≡ None → b.state ≡ Down

-- own
pub record AreBonds (r : Router) : Type 0 where
  pub on : (place : ℕ) → IsBond (bond_at r place)

-- a router's boot, its system ID, area addresses and keys, and the number of its circuits stay
-- (own)
pub record Stays (r t : Router) : Type 0 where
  pub boot : t.boot ≡ r.boot
  pub system : t.config.system ≡ r.config.system
  pub areas : t.config.areas ≡ r.config.areas
  pub keys : t.config.keys ≡ r.config.keys
  pub circuits : length t.circuits ≡ length r.circuits

-- what a handshake names, if it names somebody, is this router in its present boot, on this circuit
-- (RFC 5303 3.2)
abbrev pub NamesMe : Router → ℕ → Option (ℕ × ℕ) → Type 0
NamesMe r place None = Unit {0}
NamesMe r place (Some names) = (names.0 ≡ r.config.system) × (names.1 ≡ extended_of r.boot place)

-- What a step does to a circuit's adjacency and to the boots that it remembers: nothing; or the
-- adjacency ends; or a hello is taken there, of a boot that isn't old, which is then remembered. A
-- LAN hello leaves the adjacency as it is; a point-to-point one may end it. Or it names nobody or
-- this router in its present boot, and its sender is kept. Where that is another neighbour than
-- before, the circuit closed and opened anew, and every key is flagged where it is open (own).
pub data Bonds (r : Router) (event : Event) (t : Router) (place : ℕ) : Type 0 where
  Same : tie_at t place ≡ tie_at r place → Bonds r event t place
  Ends : tie_at t place ≡ ended (tie_at r place) → Bonds r event t place
  Hears : (level : Level) (h : Hello) → event ≡ Take place (LanHelloHeard level h)
      → Minds (tie_at r place) h (tie_at t place) → bond_at t place ≡ bond_at r place
      → (tie_at t place).boot ≡ (tie_at r place).boot → Bonds r event t place
  Learns : (h : Hello) (s : Handshake) → event ≡ Take place (PointHelloHeard h)
      → h.handshake ≡ Some s
      → Minds (tie_at r place) h (tie_at t place) → bond_at t place ≡ no_bond
      → Bonds r event t place
  Meets : (h : Hello) (s : Handshake) (state : Adj) → event ≡ Take place (PointHelloHeard h)
      → h.handshake ≡ Some s
      → NamesMe r place s.names
      → state ≢ Down → (state ≡ Up → s.state ≢ Down)
      → Minds (tie_at r place) h (tie_at t place) → (tie_at t place).boot ≡ Some h.boot
      → bond_at t place ≡ record { state = state; names = Some (h.source, s.extended) }
      → ((bond_at r place).names ≡ Some (h.source, s.extended))
      ⊎ ((level : Level) (id : ℕ) → Covers 0 (book_of t level) id place)
      → Bonds r event t place

-- where a circuit keeps another neighbour than before, it has the flag of every key where it is
-- open (own)
abbrev pub NewcomerIsFlagged : Router → Router → Type 0
NewcomerIsFlagged r t =
    (level : Level) (place id : ℕ) (who : ℕ × ℕ) → (bond_at t place).names ≡ Some who
    → (bond_at r place).names ≢ Some who
    → IsPointOpen t level place → 0 < rank_at (book_of t level) id
    → srm_at (book_of t level) id place ≡ true

-- ---- hellos

-- a point-to-point hello tells a circuit's adjacency as it is, and the router's boot and circuit
-- (RFC 5303 3.2)
abbrev pub IsGreeting : Router → ℕ → Sent → Type 0
IsGreeting r place (PointHello state extended names) =
    (bond_at r place ≡ record { state = state; names = names })
    × (extended ≡ extended_of r.boot place)
IsGreeting r place (LanHello level lan snpas) = Unit {0}
IsGreeting r place (Lsp level id cell) = Unit {0}
IsGreeting r place (Csnp level start end entries) = Unit {0}
IsGreeting r place (Psnp level entries) = Unit {0}

-- own
abbrev pub IsReplyGreeting : Router → ℕ → Reply → Type 0
IsReplyGreeting r place reply = AllSent (IsGreeting r place) reply

-- the circuit of an event; those of none have no datagram in their reply (own)
abbrev pub place_of : Event → ℕ
place_of Second = 0
place_of (Take place message) = place
place_of (Pull place) = place
place_of (Metric place metric) = place
place_of (Overload on) = 0
place_of (Prefix prefix metric) = 0

-- ---- CSNP counters

-- where the router isn't designated the CSNP counter stands at 0 (own)
abbrev pub IsIdle : Router → ℕ → Option Circuit → Level → Type 0
IsIdle r place None level = Unit {0}
IsIdle r place (Some c) level =
    is_designated r.config place c level ≡ false → (at c.levels level).csnp ≡ 0

-- own
pub record AreIdle (r : Router) : Type 0 where
  pub on : (place : ℕ) (level : Level) → IsIdle r place (nth r.circuits place) level
