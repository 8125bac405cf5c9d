-- Turns that are played: each is an event of the network (own).
use Rattle.std.specs.Prelude.{◌≡◌, ℕ, List, [], ◌∷◌, ◌++◌, map, Option, Some}
use Rattle.model_router.specs.Places.{nth}
use Rattle.model_router.specs.Routers.{Router}
use Rattle.router_core.specs.Givens.{given}
use Rattle.model_network.specs.declared.end.End.{End}
use Rattle.model_network.specs.Networks.{Network}
use Rattle.model_network.specs.Runs.{Happening, apply, run}
use Rattle.network_lab.specs.declared.event.LabEvent.{LabEvent}
use Rattle.network_lab.specs.Claims.{IsClaimed}
use Rattle.network_lab.specs.LabNets.{Seen, LabNet, StandsFor}
use Rattle.network_lab.specs.LabEvents.{happening_of}
use Rattle.weave_core.specs.declared.moves.Move.{Move as CoreMove}
use Rattle.weave_core.specs.declared.moves.Turn.{Turn}
use Rattle.weave_core.specs.Fits.{turn_by}
use Rattle.weave_core.specs.Scenes.{Scene as CoreScene, start, IsEnd}
use Rattle.weave_model.specs.Weavings.{Move, IsMove, Scene, Front}
use Rattle.weave_model.specs.Coding.{IsGoodMove, turn_for, Matches}
use Rattle.weave_replay.specs.declared.journal.WovenJournal.{WovenJournal}
use Rattle.weave_replay.specs.Replays.{AreReplayed}
use Rattle.weave.specs.Coded.{AreAllCoded}
use Rattle.weave.specs.Woven.{AreRows, happenings_of, AreClaimedAlong}

-- Journals that replay are tracks of letters, and rounds over these end with this left, after these
-- turns.
pub record EndRounds (a : Seen) (journals : List WovenJournal) (left : List (List CoreMove))
    (turns : List Turn) : Type 0 where
  pub wires : List (ℕ × List ℕ)
  pub rows : List (List ℕ)
  pub tracks : List (List CoreMove)
  pub last : CoreScene
  pub replayed : AreReplayed a.routers journals
  pub rows_are : AreRows a.routers a.links rows
  pub coded : AreAllCoded wires rows journals tracks
  pub ends : IsEnd (start tracks) last
  pub left_is : last.tracks ≡ left
  pub turns_are : last.told.turns ≡ turns

-- ---- one event

-- a router is there, and a move is without a fault in its state
pub record IsNext (a : Seen) (router : ℕ) (move : Move) : Type 0 where
  pub r : Router
  pub at : nth a.routers router ≡ Some r
  pub good : IsGoodMove given r move

-- in each network that is stood for an event is a router's move, in a turn that takes this
abbrev pub IsEventOf : LabNet → ℕ → Move → Option ℕ → LabEvent → Type 0
IsEventOf a router move taken event =
    (net : Network) (h : Happening) → StandsFor net a → IsMove net router move h
    → turn_by router taken ≡ turn_for h → happening_of event ≡ h

-- it happened in the network, of which the claims hold then, and joined a schedule
abbrev pub HasHappened : LabNet → ℕ → Move → Option ℕ → List LabEvent → List LabEvent → LabNet
    → Type 0
HasHappened a router move taken old new after =
    (net : Network) (h : Happening) → StandsFor net a → IsMove net router move h
    → turn_by router taken ≡ turn_for h
    → (happenings_of new ≡ happenings_of old ++ h ∷ []) × StandsFor (apply given net h) after
    × IsClaimed after.seen

-- ---- all events

-- what is left of routers' moves, and a network, are those of a scene, which letters match
pub record Stands (plans : List (List Move)) (a : LabNet) (s : Scene) : Type 0 where
  pub tracks : s.tracks ≡ plans
  pub net : StandsFor s.net a
  pub code : ℕ → List ℕ → ℕ
  pub count : ℕ
  pub links : List (List End)
  pub letters : CoreScene
  pub alike : Matches given code count links s letters

-- Behind the events that were done from a network on, with the claims along them, a front goes on from
-- here, in these turns; both are events to a last scene.
pub record Plays (origin : Network) (done : List Happening) (turns : List Turn)
    (plans : List (List Move)) (a : LabNet) (hs : List Happening) (last : Scene) : Type 0 where
  pub here : Scene
  pub rest : List Happening
  pub stands : Stands plans a here
  pub front : Front given rest here last
  pub turns_are : turns ≡ map turn_for rest
  pub whole : hs ≡ done ++ rest
  pub led : run given origin done ≡ here.net
  pub claimed : AreClaimedAlong origin done

-- there are such events
pub record CanPlay (done : List Happening) (turns : List Turn) (plans : List (List Move))
    (a : LabNet) : Type 0 where
  pub origin : Network
  pub hs : List Happening
  pub last : Scene
  pub plays : Plays origin done turns plans a hs last

-- this turn is the next of such
pub record CanTurn (turn : Turn) (plans : List (List Move)) (a : LabNet) : Type 0 where
  pub done : List Happening
  pub more : List Turn
  pub can : CanPlay done (turn ∷ more) plans a

-- wherever the one was played to its end, the other is
abbrev pub PlaysOn : List LabEvent → List Turn → List (List Move) → LabNet → List LabEvent
    → List Turn → List (List Move) → LabNet → Type 0
PlaysOn old turns plans a new more left b =
    (origin : Network) (hs : List Happening) (last : Scene)
    → Plays origin (happenings_of old) turns plans a hs last
    → Plays origin (happenings_of new) more left b hs last
