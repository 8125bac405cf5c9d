-- The next hops of a route's line (own).

use Rattle.std.specs.Prelude.{ℕ, List, [], ◌∷◌, ◌++◌, codes, take}
use Rattle.std.specs.Int.{to_be_bytes, w64}
use Rattle.std.specs.List.{flat_map}
use Rattle.isis_base.specs.declared.identifiers.SystemId.{SystemId}
use Rattle.isis_base.specs.Identifiers.{system_from}
use Rattle.isis_base.specs.Texts.{system_text}

-- the system that is a node of this number: the first six of its eight octets (ISO 10589 7.2.3)
abbrev pub system_of_node : ℕ → SystemId
system_of_node node = system_from (take 6 (to_be_bytes w64 node))

-- ` SYSTEM`, by its number
unfoldable pub hop_text : ℕ → List ℕ
hop_text hop = codes " " ++ system_text (system_of_node hop)

-- ` via SYSTEM SYSTEM`; a prefix of the system's own has no next hop, and then nothing is printed
abbrev pub via_text : List ℕ → List ℕ
via_text [] = []
via_text (hop ∷ hops) = codes " via" ++ flat_map hop_text (hop ∷ hops)
