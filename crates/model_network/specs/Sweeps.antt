-- What a CSNP tells while its sender's keys stand, and which routers are swept by CSNPs that they took
-- (ISO 10589 7.3.15.2, 7.3.15.3; the words: own).
use Rattle.std.specs.Prelude.{◌≡◌, ℕ, ◌-◌, ◌^◌, ◌<◌, ◌≤◌, ◌⊎◌, List, [], ◌∷◌, Some}
use Rattle.isis_base.specs.declared.level.Level.{Level}
use Rattle.model_router.specs.Both.{at}
use Rattle.model_router.specs.Places.{nth}
use Rattle.model_router.specs.SnpTable.{SnpEntry}
use Rattle.model_router.specs.Routers.{Router, book_of}
use Rattle.model_router.specs.Datagrams.{Csnp}
use Rattle.model_router.specs.ReplyLaws.{TellsKeys}
use Rattle.model_network.specs.Networks.{Datagram, Taking, Network}
use Rattle.model_network.specs.Ports.{In}
use Rattle.model_network.specs.LiveViews.{live_at}

-- ---- moments of a router

-- a router is in a boot and has had so many changes of keys on a level, and fewer than are counted:
-- its keys are those of then (own)
pub record IsAt (r : Router) (level : Level) (then count : ℕ) : Type 0 where
  pub boot : r.boot ≡ then
  pub changes : (book_of r level).changes ≡ count
  pub below : count < 2 ^ 64 - 1

-- a boot and a number of changes that a router has come to, or is past (own)
pub record IsPast (r : Router) (level : Level) (then count : ℕ) : Type 0 where
  pub boot : then ≤ r.boot
  pub changes : then ≡ r.boot → count ≤ (book_of r level).changes

-- ---- what was sent

-- a CSNP tells the keys of its sender while these stand (own)
pub record IsTrue (net : Network) (d : Datagram) : Type 0 where
  pub past : (r : Router) (level : Level) → nth net.routers d.sender ≡ Some r
      → IsPast r level d.boot (at d.changes level)
  pub tells : (r : Router) (level : Level) (first last : ℕ) (entries : List SnpEntry)
      → nth net.routers d.sender ≡ Some r → d.says ≡ Csnp level first last entries
      → IsAt r level d.boot (at d.changes level) → TellsKeys r level first last entries

-- own
pub record AreTrue (net : Network) : Type 0 where
  pub each : (d : Datagram) → In d net.datagrams → IsTrue net d

-- ---- what was taken

-- while the keys of both stand, the two routers hold the same live LSPs in the range (own)
pub record IsAgreed (net : Network) (t : Taking) : Type 0 where
  pub member : (r : Router) → nth net.routers t.member ≡ Some r
      → IsPast r t.level t.boot t.changes
  pub sender : (r : Router) → nth net.routers t.sender ≡ Some r
      → IsPast r t.level t.sent_boot t.sent_changes
  pub same : (a b : Router) → nth net.routers t.member ≡ Some a
      → nth net.routers t.sender ≡ Some b → IsAt a t.level t.boot t.changes
      → IsAt b t.level t.sent_boot t.sent_changes
      → (id : ℕ) → t.first ≤ id → id ≤ t.last → live_at a t.level id ≡ live_at b t.level id

-- own
abbrev pub AreAgreed : Network → List Taking → Type 0
AreAgreed net [] = Unit {0}
AreAgreed net (t ∷ takings) = IsAgreed net t × AreAgreed net takings

-- ---- who is swept

-- a range was taken by one router of another on a link or LAN and level, at the present keys of both,
-- and it has the LSP ID (own)
pub record IsCovering (net : Network) (link : ℕ) (level : Level) (member other id : ℕ)
    (t : Taking) : Type 0 where
  pub a : Router
  pub b : Router
  pub at_a : nth net.routers member ≡ Some a
  pub at_b : nth net.routers other ≡ Some b
  pub of_member : t.member ≡ member
  pub of_other : t.sender ≡ other
  pub on : t.link ≡ link
  pub level_is : t.level ≡ level
  pub here : IsAt a level t.boot t.changes
  pub there : IsAt b level t.sent_boot t.sent_changes
  pub low : t.first ≤ id
  pub high : id ≤ t.last

-- one of these ranges covers an LSP ID (own)
abbrev pub IsCovered : Network → ℕ → Level → ℕ → ℕ → ℕ → List Taking → Type 0
IsCovered net link level member other id [] = ⊥
IsCovered net link level member other id (t ∷ takings) =
    IsCovering net link level member other id t
    ⊎ IsCovered net link level member other id takings

-- a router is swept by another on a link or LAN and level: the ranges that it took cleanly, at the
-- present keys of both, cover all LSP IDs (own)
pub record IsSweptBy (net : Network) (link : ℕ) (level : Level) (member other : ℕ) : Type 0 where
  pub each : (id : ℕ) → id < 2 ^ 64 → IsCovered net link level member other id net.takings
