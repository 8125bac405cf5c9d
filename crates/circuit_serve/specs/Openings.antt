-- How the ports of circuits are opened (own).
use Rattle.std.specs.Prelude.{◌≡◌, ℕ, zero, suc, ◌+◌, List, [], ◌∷◌, ◌++◌, map}
use Rattle.isis_edge.specs.Faults.{one_more}
use Rattle.daemon_edge.specs.declared.place.CircuitPlace.{CircuitPlace}
use Rattle.daemon_edge.specs.Closings.{Opening, opened_at}

-- the circuits from a number on, each at its place (own)
abbrev pub openings : ℕ → List CircuitPlace → List Opening
openings circuit [] = []
openings circuit (place ∷ places) = opened_at circuit place ∷ openings (circuit + 1) places

-- a count after so many more, which stands still at its type's end (own)
abbrev pub counted : ℕ → ℕ → ℕ
counted zero count = count
counted (suc n) count = one_more (counted n count)

-- ports were opened, in order, at the first of these places; at all of them, where all is well (own)
pub record OpenedSo {P : Type 0} (opening : P → Opening) (places : List CircuitPlace) (ports : List P)
    (Well : Type 0) : Type 0 where
  pub used : List CircuitPlace
  pub unused : List CircuitPlace
  pub all : used ++ unused ≡ places
  pub made : map opening ports ≡ openings 1 used
  pub whole : Well → unused ≡ []
