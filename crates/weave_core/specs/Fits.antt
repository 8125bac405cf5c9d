-- Which letter that was sent fits what a move needs (own).
use Rattle.std.specs.Prelude.{ℕ, ◌+◌, ◌==◌, ◌&&◌, not, Bool, List, [], ◌∷◌, Option, Some, None, if◌then◌else◌}
use Rattle.weave_core.specs.declared.moves.Sent.{Sent}
use Rattle.weave_core.specs.declared.moves.Turn.{Turn}

-- a letter that was sent is this one, and another party sent it (own)
abbrev pub fits : ℕ → ℕ → Sent → Bool
fits party letter s = s.letter == letter && not (s.sender == party)

-- the number of the first of those sent that fits, where so many were sent before (own)
abbrev pub first_fit : ℕ → ℕ → ℕ → List Sent → Option ℕ
first_fit party letter count [] = None
first_fit party letter count (s ∷ sent) =
    if fits party letter s then Some (count + 1) else first_fit party letter (count + 1) sent

-- own
abbrev pub turn_by : ℕ → Option ℕ → Turn
turn_by party taken = record { party = party; taken = taken }

-- own
abbrev pub taking : ℕ → Option ℕ → Option Turn
taking party None = None
taking party (Some number) = Some (turn_by party (Some number))

-- a party's turn with a move that needs this, with the first that fits; none where nothing fits
-- (own)
abbrev pub turn_of : ℕ → Option ℕ → List Sent → Option Turn
turn_of party None sent = Some (turn_by party None)
turn_of party (Some letter) sent = taking party (first_fit party letter 0 sent)

-- letters as a party sends them (own)
abbrev pub sent_by : ℕ → List ℕ → List Sent
sent_by party [] = []
sent_by party (letter ∷ letters) =
    record { letter = letter; sender = party } ∷ sent_by party letters
