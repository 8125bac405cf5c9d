-- The greatest candidate for the designated system of a LAN (ISO 10589 8.4.5).
use Rattle.std.specs.Prelude.{◌≡◌, ℕ, Bool, false, List, [], ◌∷◌, if◌then◌else◌}
use Rattle.std.specs.List.{AllByRecursion}
use Rattle.std.specs.Prelude.{Contains}
use Rattle.isis_base.specs.declared.identifiers.SystemId.{SystemId}
use Rattle.model_router.specs.Routers.{LanNeighbour}
use Rattle.model_router.specs.Elections as model
use Rattle.designated_is.specs.declared.candidate.Candidate.{Candidate}
use Rattle.designated_is.specs.Numbers.{candidate_of}

-- whether a candidate stands before another: by priority, then SNPA (ISO 10589 8.4.5), then system
-- (own)
abbrev pub beats : Candidate → Candidate → Bool
beats a b = model.beats (candidate_of a) (candidate_of b)

-- a candidate that no one on the list stands before
abbrev pub IsUnbeaten : List Candidate → Candidate → Type 0
IsUnbeaten candidates best = AllByRecursion (λ other. beats other best ≡ false) candidates

-- the system of a candidate on the list that no one stands before
abbrev pub IsElected : List Candidate → SystemId → Type 0
IsElected candidates system =
    (best : Candidate) × Contains candidates best × (best.system ≡ system)
    × IsUnbeaten candidates best

-- a candidate of the model without its LAN ID, which decides nothing (own)
abbrev pub plain : model.Candidate → model.Candidate
plain c = record c { lan = 0 }

-- the candidates among LAN neighbours: those in state Up (ISO 10589 8.4.5)
abbrev pub up_candidates : List (ℕ × LanNeighbour) → List model.Candidate
up_candidates [] = []
up_candidates (pair ∷ heard) =
    if pair.1.up then plain (model.candidate pair.1.neighbour) ∷ up_candidates heard
    else up_candidates heard

-- the best of a candidate and those of a list
unfoldable pub best_of : Candidate → List Candidate → Candidate
best_of best [] = best
best_of best (c ∷ candidates) = best_of (if beats c best then c else best) candidates
