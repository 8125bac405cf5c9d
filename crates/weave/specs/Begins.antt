-- Where weaving begins: no router did anything, and each has its journals before it (own).
use Rattle.std.specs.Prelude.{◌≡◌, ℕ, zero, suc, ◌+◌, List, [], ◌∷◌, length, Some}
use Rattle.model_router.specs.Places.{nth}
use Rattle.model_router.specs.Routers.{Router}
use Rattle.model_network.specs.Networks.{Network}
use Rattle.weave_model.specs.Weavings.{Move, track_of, Scene}
use Rattle.weave_replay.specs.declared.journal.WovenJournal.{WovenJournal}
use Rattle.weave_replay.specs.Replays.{journals_of, in_first_boot}
use Rattle.weave.specs.Coded.{ArePorts}

-- the tracks of so many routers from one on, in order
abbrev pub tracks_from : ℕ → ℕ → List WovenJournal → List (List Move)
tracks_from router zero journals = []
tracks_from router (suc count) journals =
    track_of (journals_of router journals) ∷ tracks_from (router + 1) count journals

-- the scene in which no journal is begun
abbrev pub begin : Network → List WovenJournal → Scene
begin net journals = record { tracks = tracks_from 0 (length net.routers) journals; net = net }

-- each router has as many circuits as it has links here
abbrev pub HaveAsMany : List Router → List (List ℕ) → Type 0
HaveAsMany routers rows =
    (router : ℕ) (r : Router) (ports : List ℕ) → nth routers router ≡ Some r
    → nth rows router ≡ Some ports → length r.circuits ≡ length ports

-- A network that nothing was done to but that these routers, in their first boot, were put there,
-- whose circuits' links these are.
pub record IsAtStart (routers : List Router) (rows : List (List ℕ)) (net : Network) : Type 0 where
  pub size : length net.routers ≡ length routers
  pub rows_size : length rows ≡ length routers
  pub opens : (router : ℕ) (first : Router) → nth routers router ≡ Some first
      → nth net.routers router ≡ Some (in_first_boot first)
  pub ports : (router : ℕ) (ports : List ℕ) → nth rows router ≡ Some ports
      → ArePorts net.links router ports
  pub silent : net.datagrams ≡ []
