-- What ports in memory give and tell (own).
use Rattle.std.specs.Prelude.{◌≡◌, ◌==◌, ℕ, List, [], ◌∷◌, ◌++◌, take, drop, length, map, if◌then◌else◌}
use Rattle.daemon_edge.specs.declared.port.Taken.{Taken}
use Rattle.daemon_edge.specs.declared.port.Taken.TheVariants as taken
use Rattle.daemon_edge.specs.declared.memory_ports.MemoryPort.{MemoryPort}
use Rattle.daemon_edge.specs.declared.memory_ports.Slot.{Slot}
use Rattle.daemon_edge.specs.Kept.{KeptList, empty_of}
use Rattle.daemon_edge.specs.Closings.{Closing, closing, opened_at}

-- the datagrams still to come (own)
abbrev pub ready_at : MemoryPort → List (List ℕ)
ready_at p = drop p.at p.list.items

-- What was ready is what is and, before it, a datagram of which the buffer has what it has room for. Nothing was ready
-- where none came yet (own)
abbrev pub Gives : (before now : List (List ℕ)) → Taken → List ℕ → Type 0
Gives before now (taken.Got count) buffer =
    (d : List ℕ) × (before ≡ d ∷ now) × (take count buffer ≡ take (length buffer) d)
Gives before now taken.NotYet buffer = (before ≡ []) × (now ≡ before)
Gives before now taken.Failed buffer = now ≡ before

-- what a slot has to give, which of its calls fail, and what it has room for (own)
abbrev pub held_in : Slot → List (List ℕ) × List ℕ × KeptList
held_in s = (s.list.items, s.failing.items, s.kept)

-- a slot for each list, with these calls that fail and so much room (own)
abbrev pub slots_for : List ℕ → ℕ → List (List (List ℕ)) → List (List (List ℕ) × List ℕ × KeptList)
slots_for failing room lists = map (λ list. (list, failing, empty_of room)) lists

-- the datagrams that were kept of those offered to the ports of a circuit, in order (own)
abbrev pub kept_of : ℕ → List MemoryPort → List (List ℕ)
kept_of circuit [] = []
kept_of circuit (p ∷ ports) =
    (if p.circuit == circuit then p.kept.datagrams else []) ++ kept_of circuit ports

-- what is told of a closed port (own)
abbrev pub told_of : MemoryPort → Closing
told_of p = closing (opened_at p.circuit p.place) p.given.pieces p.offered.pieces p.asked
