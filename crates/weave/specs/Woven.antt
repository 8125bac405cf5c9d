-- What is woven: a schedule of all that journals say, in rounds over the routers (own).
use Rattle.std.specs.Prelude.{◌≡◌, ℕ, List, [], ◌++◌, map, length, None, Some}
use Rattle.model_router.specs.Places.{nth}
use Rattle.model_router.specs.Routers.{Router}
use Rattle.router_core.specs.Givens.{given}
use Rattle.model_network.specs.declared.end.End.{End}
use Rattle.model_network.specs.Networks.{Network}
use Rattle.model_network.specs.Runs.{Happening, run}
use Rattle.network_lab.specs.declared.event.LabEvent.{LabEvent}
use Rattle.network_lab.specs.Claims.{IsClaimed}
use Rattle.network_lab.specs.LabNets.{LabNet, StandsFor, seen_of}
use Rattle.network_lab.specs.LabEvents.{happening_of}
use Rattle.weave_core.specs.declared.moves.Move.{Move as CoreMove}
use Rattle.weave_core.specs.Scenes.{Scene as CoreScene, start, IsEnd}
use Rattle.weave_model.specs.Weavings.{Scene, IsWeaving}
use Rattle.weave_model.specs.Coding.{turn_for}
use Rattle.weave_replay.specs.declared.journal.WovenJournal.{WovenJournal}
use Rattle.weave_replay.specs.Replays.{in_first_boot, AreReplayed}
use Rattle.weave.specs.Coded.{ArePorts, AreAllCoded}
use Rattle.weave.specs.Begins.{begin, HaveAsMany}

-- Nothing was done in a network: it runs, nothing was sent, and each router is where its first boot
-- opens. So it is where at most changes of configurations were applied.
pub record IsUnbegun (a : LabNet) : Type 0 where
  pub running : a.stopped ≡ None
  pub silent : a.seen.sent ≡ []
  pub opening : (router : ℕ) (r : Router) → nth a.seen.routers router ≡ Some r
      → r ≡ in_first_boot r

-- these are the links of each router's circuits, in order
pub record AreRows (routers : List Router) (links : List (List End)) (rows : List (List ℕ))
    : Type 0 where
  pub size : length rows ≡ length routers
  pub many : HaveAsMany routers rows
  pub ports : (router : ℕ) (ports : List ℕ) → nth rows router ≡ Some ports
      → ArePorts links router ports

-- Events are the turns of rounds over the routers, in order, each as far as it can, until a round
-- goes nowhere; a delivery takes the first datagram that fits.
pub record AreOfRounds (net : Network) (journals : List WovenJournal) (hs : List Happening)
    : Type 0 where
  pub wires : List (ℕ × List ℕ)
  pub rows : List (List ℕ)
  pub tracks : List (List CoreMove)
  pub last : CoreScene
  pub rows_are : AreRows net.routers net.links rows
  pub coded : AreAllCoded wires rows journals tracks
  pub ends : IsEnd (start tracks) last
  pub turns : last.told.turns ≡ map turn_for hs

-- events of a network of routers, as the model's
abbrev pub happenings_of : List LabEvent → List Happening
happenings_of schedule = map happening_of schedule

-- After each of these events from a network on, and before the first, the claims hold on links that
-- are up, on groups, on members of LANs and those that sweep them, and on the contents held under one
-- number (ISO 10589 7.3.17); and no event injects anything.
abbrev pub AreClaimedAlong : Network → List Happening → Type 0
AreClaimedAlong net hs =
    (first rest : List Happening) → hs ≡ first ++ rest
    → IsClaimed (seen_of (run given net first)) × ((run given net first).injected ≡ net.injected)

-- A schedule of all entries of journals that replay, from a network on, in rounds; the claims along
-- it; and a network that stands where it ends.
pub record IsWoven (net : Network) (journals : List WovenJournal) (schedule : List LabEvent)
    (after : LabNet) : Type 0 where
  pub last : Scene
  pub replayed : AreReplayed net.routers journals
  pub woven : IsWeaving given (happenings_of schedule) (begin net journals) last
  pub stands : StandsFor last.net after
  pub rounds : AreOfRounds net journals (happenings_of schedule)
  pub claimed : AreClaimedAlong net (happenings_of schedule)
