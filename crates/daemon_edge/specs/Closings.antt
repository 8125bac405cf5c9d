-- What is told of how a port was opened, and of one that was closed (own).
use Rattle.std.specs.Prelude.{ℕ, List}
use Rattle.daemon_edge.specs.declared.place.CircuitPlace.{CircuitPlace}

-- the circuit and the place that a port was opened with (own)
pub record Opening : Type 0 where
  pub circuit : ℕ
  pub place : CircuitPlace

-- how it was opened, what it gave and was offered, and the takes asked of it (own)
pub record Closing : Type 0 where
  pub opening : Opening
  pub given : List (List ℕ)
  pub offered : List (List ℕ)
  pub asked : ℕ

-- own
abbrev pub opened_at : ℕ → CircuitPlace → Opening
opened_at circuit place = record { circuit = circuit; place = place }

-- own
abbrev pub closing : Opening → List (List ℕ) → List (List ℕ) → ℕ → Closing
closing opening given offered asked = record {
  opening = opening;
  given = given;
  offered = offered;
  asked = asked;
}
