-- Which LSPs a capture holds after it took some: of each LSP ID the one of greatest rank, the first of equals (ISO 10589 7.3.16.1).

use Rattle.std.specs.Prelude.{◌≡◌, ℕ, ◌==◌, ◌&&◌, nat_lt, Bool, not, List, [], ◌∷◌, take, Option, Some, None, Result, Ok, Err, if◌then◌else◌}
use Rattle.isis_base.specs.declared.level.Level.{Level}
use Rattle.isis_base.specs.Identifiers.{lsp_number}
use Rattle.isis_pdu.specs.declared.fault.PduFault.{PduFault}
use Rattle.isis_pdu.specs.Views.{PduView}
use Rattle.isis_pdu.specs.Decoded.{decoded}
use Rattle.lsp_store.specs.declared.entry.Entry.{Entry}
use Rattle.ipv6_reach.specs.declared.head.Head.{Head}
use Rattle.ipv6_reach.specs.declared.took.Took.TheVariants.{Kept}
use Rattle.ipv6_reach.specs.Captured.{CapturedOf, head_of, is_same, is_whole, rank_of, took_of, IsEntryOf, KeepsBy}

-- ---- the LSPs that were taken

-- whether an LSP of these octets is of the level, its number isn't 0, and its checksum holds (ISO 10589 7.3.11)
abbrev pub is_good : Level → List ℕ → Head → Bool
is_good level octets head =
    is_same level head.level && (not (head.number == 0) && is_whole head octets)

-- the header and the octets of such an LSP
abbrev pub where_good : Level → List ℕ → Option Head → Option (Head × List ℕ)
where_good level octets None = None
where_good level octets (Some head) =
    if is_good level octets head then Some (head, octets) else None

abbrev pub lsp_by : Level → List ℕ → Result (PduView × ℕ) PduFault → Option (Head × List ℕ)
lsp_by level octets (Err fault) = None
lsp_by level octets (Ok found) = where_good level (take found.1 octets) (head_of found.0)

-- the LSP that octets begin with, where it is such a one
unfoldable pub lsp_of : Level → List ℕ → Option (Head × List ℕ)
lsp_of level octets = lsp_by level octets (decoded octets)

-- an LSP where its LSP ID has this number
abbrev pub where_id : ℕ → Option (Head × List ℕ) → Option (Head × List ℕ)
where_id n None = None
where_id n (Some lsp) = if lsp_number lsp.0.id == n then Some lsp else None

-- ---- the one that is held

-- the first of two, unless the second has a greater rank
abbrev pub better : Option (Head × List ℕ) → Option (Head × List ℕ) → Option (Head × List ℕ)
better None second = second
better (Some a) None = Some a
better (Some a) (Some b) = if nat_lt (rank_of a.0) (rank_of b.0) then Some b else Some a

-- of an LSP ID's number, the LSP of greatest rank among those that were taken, the first of equals
abbrev pub newest : Level → ℕ → List (List ℕ) → Option (Head × List ℕ)
newest level n [] = None
newest level n (octets ∷ taken) = better (where_id n (lsp_of level octets)) (newest level n taken)

-- what is held is this LSP, or both are nothing
abbrev pub IsHeld : Option Entry → Option (Head × List ℕ) → Type 0
IsHeld None None = Unit {0}
IsHeld None (Some lsp) = ⊥
IsHeld (Some entry) None = ⊥
IsHeld (Some entry) (Some lsp) = IsEntryOf entry lsp.0 lsp.1

-- ---- takes one after another

-- a take that was answered: the LSP is kept, or nothing changes
abbrev pub IsTake : CapturedOf → List ℕ → CapturedOf → Type 0
IsTake old octets new =
    (took_of old octets ≡ Kept → KeepsBy old new octets (decoded octets))
    × ((took_of old octets ≡ Kept → ⊥) → new ≡ old)

-- from one capture to another by taking these, each of which was answered
abbrev pub AreTaken : CapturedOf → List (List ℕ) → CapturedOf → Type 0
AreTaken old [] new = new ≡ old
AreTaken old (octets ∷ taken) new =
    (next : CapturedOf) × IsTake old octets next × AreTaken next taken new
