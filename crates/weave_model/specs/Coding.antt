-- What is woven: moves that need and send letters, which stand for octets on links (own).
use Rattle.std.specs.Prelude.{◌≡◌, ℕ, ◌<◌, ◌-◌, List, [], ◌∷◌, map, length, Option, Some, None, slice_get}
use Rattle.model_router.specs.Places.{nth}
use Rattle.model_router.specs.Givens.{Given}
use Rattle.model_router.specs.Routers.{Router}
use Rattle.model_network.specs.declared.end.End.{End}
use Rattle.model_network.specs.Networks.{Datagram, octets_of, Network, place_in, restarted}
use Rattle.model_network.specs.Runs.{Happening, Tick, PullOn, Deliver, Restart, SetMetric, SetOverload, SetPrefix, Inject}
use Rattle.weave_core.specs.declared.moves.Move.{Move as CoreMove}
use Rattle.weave_core.specs.declared.moves.Sent.{Sent as CoreSent}
use Rattle.weave_core.specs.declared.moves.Turn.{Turn}
use Rattle.weave_core.specs.Fits.{turn_by}
use Rattle.weave_core.specs.Scenes.{Scene as CoreScene}
use Rattle.weave_model.specs.Entries.{Deed, Second, Take, Pull, Metric, Overload, Prefix, Answer, Done, Dropped, Sends, next}
use Rattle.weave_model.specs.Faults.{IsGood}
use Rattle.weave_model.specs.Weavings.{Move, Does, Restarts, Scene}

-- the datagrams that an answer sends (own)
abbrev pub sends_of : Answer → List (List ℕ)
sends_of Done = []
sends_of (Dropped name) = []
sends_of (Sends datagrams) = datagrams

-- a move with an entry of a circuit: it needs this, and sends what the entry says, on the circuit's
-- link (own)
pub record IsOn (code : ℕ → List ℕ → ℕ) (links : List (List End)) (i place : ℕ)
    (needs : ℕ → Option ℕ) (answer : Answer) (m : CoreMove) : Type 0 where
  pub link : ℕ
  pub on : place_in (nth links link) i ≡ Some place
  pub needs_are : m.needs ≡ needs link
  pub sends_are : m.sends ≡ map (code link) (sends_of answer)

-- a move with a take's entry: it needs the letter of these octets on the circuit's link, which is
-- below the count (own)
pub record IsTake (code : ℕ → List ℕ → ℕ) (count : ℕ) (links : List (List End)) (i place : ℕ)
    (octets : List ℕ) (answer : Answer) (m : CoreMove) : Type 0 where
  pub on : IsOn code links i place (λ link. Some (code link octets)) answer m
  pub below : code on.link octets < count

-- it needs and sends nothing (own)
pub record IsQuiet (m : CoreMove) : Type 0 where
  pub needs_are : m.needs ≡ None
  pub sends_are : m.sends ≡ []

-- own
abbrev pub IsDeedCode : (ℕ → List ℕ → ℕ) → ℕ → List (List End) → ℕ → Deed → Answer → CoreMove
    → Type 0
IsDeedCode code count links i Second answer m = IsQuiet m
IsDeedCode code count links i (Take circuit octets) answer m =
    IsTake code count links i (circuit - 1) octets answer m
IsDeedCode code count links i (Pull circuit) answer m =
    IsOn code links i (circuit - 1) (λ link. None) answer m
IsDeedCode code count links i (Metric circuit metric) answer m = IsQuiet m
IsDeedCode code count links i (Overload on) answer m = IsQuiet m
IsDeedCode code count links i (Prefix prefix metric) answer m = IsQuiet m

-- a move of a router as a move of letters (own)
abbrev pub IsMoveCode : (ℕ → List ℕ → ℕ) → ℕ → List (List End) → ℕ → Move → CoreMove → Type 0
IsMoveCode code count links i (Does e) m = IsDeedCode code count links i e.deed e.answer m
IsMoveCode code count links i Restarts m = IsQuiet m

-- own
abbrev pub AreCodes : (ℕ → List ℕ → ℕ) → ℕ → List (List End) → ℕ → List Move → List CoreMove
    → Type 0
AreCodes code count links i [] [] = Unit {0}
AreCodes code count links i [] (m ∷ ms) = ⊥
AreCodes code count links i (x ∷ xs) [] = ⊥
AreCodes code count links i (x ∷ xs) (m ∷ ms) =
    IsMoveCode code count links i x m × AreCodes code count links i xs ms

-- ---- what is left of a track replays

-- own
abbrev pub after_move : Given → Router → Move → Router
after_move given r (Does e) = next given r e.deed
after_move given r Restarts = restarted r

-- own
abbrev pub IsGoodMove : Given → Router → Move → Type 0
IsGoodMove given r (Does e) = IsGood given r e
IsGoodMove given r Restarts = Unit {0}

-- the entries of a track are without a fault, from a state on (own)
abbrev pub IsGoodTrack : Given → Router → List Move → Type 0
IsGoodTrack given r [] = Unit {0}
IsGoodTrack given r (m ∷ ms) = IsGoodMove given r m × IsGoodTrack given (after_move given r m) ms

-- ---- a network and what is woven

-- a datagram as a letter (own)
abbrev pub letter_of : (ℕ → List ℕ → ℕ) → Datagram → CoreSent
letter_of code d = record { letter = code d.link (octets_of d); sender = d.sender }

-- an event as a turn: its router's, a delivery with the datagram of its number (own)
abbrev pub turn_for : Happening → Turn
turn_for (Tick i) = turn_by i None
turn_for (PullOn i link) = turn_by i None
turn_for (Deliver number i) = turn_by i (Some number)
turn_for (Restart i) = turn_by i None
turn_for (SetMetric i place metric) = turn_by i None
turn_for (SetOverload i on) = turn_by i None
turn_for (SetPrefix i prefix metric) = turn_by i None
turn_for (Inject i link octets) = turn_by i None

-- what is left of one router's track, in both; the router's state replays it (own)
pub record IsPair (given : Given) (code : ℕ → List ℕ → ℕ) (count : ℕ) (links : List (List End))
    (i : ℕ) (net : Network) (left : List Move) (ms : List CoreMove) : Type 0 where
  pub r : Router
  pub at : nth net.routers i ≡ Some r
  pub codes : AreCodes code count links i left ms
  pub good : IsGoodTrack given r left

-- a network with what is left of its routers' tracks, and the same by letters; what was sent are
-- the datagrams (own)
pub record Matches (given : Given) (code : ℕ → List ℕ → ℕ) (count : ℕ) (links : List (List End))
    (a : Scene) (s : CoreScene) : Type 0 where
  pub links_are : a.net.links ≡ links
  pub sent : s.told.sent ≡ map (letter_of code) a.net.datagrams
  pub pairs : (i : ℕ) (left : List Move) (ms : List CoreMove) → slice_get a.tracks i ≡ Some left
      → slice_get s.tracks i ≡ Some ms → IsPair given code count links i a.net left ms
  pub size : length a.tracks ≡ length s.tracks
