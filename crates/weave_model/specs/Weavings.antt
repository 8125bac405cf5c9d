-- Weavings: schedules of a network that are journals of its routers (own).
use Rattle.std.specs.Prelude.{◌≡◌, ◌≢◌, ℕ, ◌-◌, ◌≤◌, List, [], ◌∷◌, length, Some, slice_get, set}
use Rattle.model_router.specs.Givens.{Given}
use Rattle.model_network.specs.Networks.{Datagram, octets_of, Network, place_at, numbered}
use Rattle.model_network.specs.Runs.{Happening, Tick, PullOn, Deliver, Restart, SetMetric, SetOverload, SetPrefix, apply}
use Rattle.weave_model.specs.Entries.{Deed, Second, Take, Pull, Metric, Overload, Prefix, Entry}

-- a move of a router: an entry of a journal, or the restart between two journals (own)
pub data Move : Type 0 where
  Does : (e : Entry) → Move
  Restarts : Move

-- own
abbrev pub entries_before : List Entry → List Move → List Move
entries_before [] moves = moves
entries_before (e ∷ es) moves = Does e ∷ entries_before es moves

-- own
abbrev pub behind_restart : List Entry → List (List Entry) → List Move
behind_restart j [] = entries_before j []
behind_restart j (k ∷ ks) = entries_before j (Restarts ∷ behind_restart k ks)

-- the moves of a router's journals: their entries in order, one restart between two journals (own)
abbrev pub track_of : List (List Entry) → List Move
track_of [] = []
track_of (j ∷ js) = behind_restart j js

-- ---- one event

-- a pull is of the circuit's link (own)
pub record Pulls (net : Network) (i place : ℕ) (h : Happening) : Type 0 where
  pub link : ℕ
  pub on : place_at net link i ≡ Some place
  pub event : h ≡ PullOn i link

-- a take is a delivery of an earlier datagram with these octets, sent on the circuit's link by
-- another router (own)
pub record Delivers (net : Network) (i place : ℕ) (octets : List ℕ) (h : Happening) : Type 0 where
  pub number : ℕ
  pub d : Datagram
  pub there : numbered net.datagrams number ≡ Some d
  pub other : d.sender ≢ i
  pub on : place_at net d.link i ≡ Some place
  pub octets_are : octets_of d ≡ octets
  pub event : h ≡ Deliver number i

-- an event of the network is this deed of a router (own)
abbrev pub IsDeed : Network → ℕ → Deed → Happening → Type 0
IsDeed net i Second h = h ≡ Tick i
IsDeed net i (Take circuit octets) h = Delivers net i (circuit - 1) octets h
IsDeed net i (Pull circuit) h = Pulls net i (circuit - 1) h
IsDeed net i (Metric circuit metric) h = h ≡ SetMetric i (circuit - 1) metric
IsDeed net i (Overload on) h = h ≡ SetOverload i on
IsDeed net i (Prefix prefix metric) h = h ≡ SetPrefix i prefix metric

-- own
abbrev pub IsMove : Network → ℕ → Move → Happening → Type 0
IsMove net i (Does e) h = IsDeed net i e.deed h
IsMove net i Restarts h = h ≡ Restart i

-- ---- schedules

-- what is left of each router's moves, and the network (own)
pub record Scene : Type 0 where
  pub tracks : List (List Move)
  pub net : Network

-- an event is the next move of a router (own)
pub record Goes (given : Given) (h : Happening) (a b : Scene) : Type 0 where
  pub router : ℕ
  pub move : Move
  pub more : List Move
  pub there : slice_get a.tracks router ≡ Some (move ∷ more)
  pub says : IsMove a.net router move h
  pub tracks : b.tracks ≡ set a.tracks router more
  pub net : b.net ≡ apply given a.net h

-- A front: a schedule of prefixes of each router's moves, from one scene to another (own).
abbrev pub Front : Given → List Happening → Scene → Scene → Type 0
Front given [] a b = b ≡ a
Front given (h ∷ hs) a b = (mid : Scene) × Goes given h a mid × Front given hs mid b

-- nothing is left (own)
abbrev pub IsDone : Scene → Type 0
IsDone s = (router : ℕ) (left : List Move) → slice_get s.tracks router ≡ Some left → left ≡ []

-- A weaving: a schedule of all moves (own).
pub record IsWeaving (given : Given) (hs : List Happening) (a b : Scene) : Type 0 where
  pub front : Front given hs a b
  pub done : IsDone b

-- a front than which none goes further: of each router's moves any other leaves as many or more
-- (own)
pub record IsFarthest (given : Given) (hs : List Happening) (a b : Scene) : Type 0 where
  pub front : Front given hs a b
  pub farthest : (c : Scene) (gs : List Happening) → Front given gs a c → (router : ℕ)
      (left more : List Move) → slice_get b.tracks router ≡ Some left
      → slice_get c.tracks router ≡ Some more → length left ≤ length more
