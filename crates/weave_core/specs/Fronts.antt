-- Fronts: orders in which parties make their moves, each letter that is needed sent before (own).
use Rattle.std.specs.Prelude.{◌≡◌, ℕ, zero, suc, true, List, [], ◌∷◌, ◌++◌, Option, Some, None, slice_get, set}
use Rattle.weave_core.specs.declared.moves.Move.{Move}
use Rattle.weave_core.specs.declared.moves.Sent.{Sent}
use Rattle.weave_core.specs.declared.moves.Turn.{Turn}
use Rattle.weave_core.specs.Fits.{fits, turn_by, sent_by}
use Rattle.weave_core.specs.Scenes.{Scene}

-- those sent are numbered from 1 (own)
abbrev pub numbered : List Sent → ℕ → Option Sent
numbered sent zero = None
numbered sent (suc place) = slice_get sent place

-- a turn takes one of those sent, which fits (own)
pub record Takes (party letter : ℕ) (sent : List Sent) (turn : Turn) : Type 0 where
  pub number : ℕ
  pub letter_sent : Sent
  pub turn_is : turn ≡ turn_by party (Some number)
  pub there : numbered sent number ≡ Some letter_sent
  pub fitting : fits party letter letter_sent ≡ true

-- a turn with a move that needs this is good, whichever of those that fit it takes (own)
abbrev pub IsTurn : ℕ → Option ℕ → List Sent → Turn → Type 0
IsTurn party None sent turn = turn ≡ turn_by party None
IsTurn party (Some letter) sent turn = Takes party letter sent turn

-- a party makes its next move (own)
pub record Goes (turn : Turn) (a b : Scene) : Type 0 where
  pub next : Move
  pub more : List Move
  pub there : slice_get a.tracks turn.party ≡ Some (next ∷ more)
  pub good : IsTurn turn.party next.needs a.told.sent turn
  pub tracks : b.tracks ≡ set a.tracks turn.party more
  pub sent : b.told.sent ≡ a.told.sent ++ sent_by turn.party next.sends
  pub turns : b.told.turns ≡ a.told.turns ++ (turn ∷ [])

-- turns lead from one scene to the other (own)
abbrev pub Front : List Turn → Scene → Scene → Type 0
Front [] a b = b ≡ a
Front (turn ∷ turns) a b = (mid : Scene) × Goes turn a mid × Front turns mid b

-- one track is what is left of the other behind some moves (own)
pub record IsRest (long short : List Move) : Type 0 where
  pub made : List Move
  pub whole : long ≡ made ++ short

-- of each track no more is left in the one scene than in the other (own)
abbrev pub IsFarther : Scene → Scene → Type 0
IsFarther far near = (party : ℕ) (long : List Move) → slice_get near.tracks party ≡ Some long
    → (short : List Move) × (slice_get far.tracks party ≡ Some short) × IsRest long short
