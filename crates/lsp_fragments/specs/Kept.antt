-- What is kept of own LSPs that are issued, by LSP ID (own).
use Rattle.std.specs.Prelude.{ℕ, ◌-◌, nat_lt, List, [], ◌∷◌, length, Option, Some, None, if◌then◌else◌, Result, MatchResult}
use Rattle.isis_base.specs.Identifiers.{lsp_number}
use Rattle.model_router.specs.Routers.{Issued}
use Rattle.lsp_fragments.specs.declared.kept.Kept.{Kept}
use Rattle.ordered.specs.Keyed.{keyed, IsPlace, IsGap}
use Rattle.model_router.specs.Books.{risen}

-- own
abbrev pub kept_id : Kept → ℕ
kept_id kept = lsp_number kept.id

-- by LSP ID
abbrev pub by_id : List Kept → List (ℕ × Kept)
by_id list = keyed kept_id list

-- an own LSP that is kept, as the router's model has it
abbrev pub issued_of : Kept → Issued
issued_of kept =
    record { contents = record { flags = kept.flags; tlvs = kept.tlvs }; age = kept.age }

-- the own LSPs that are issued, as the router's model has them, and for how many more of them
-- memory is taken already
pub record OwnState : Type 0 where
  pub issued : List (ℕ × Issued)
  pub spare : ℕ

-- each as the router's model has it
abbrev pub issued_pairs : List (ℕ × Kept) → List (ℕ × Issued)
issued_pairs [] = []
issued_pairs (pair ∷ rest) = (pair.0, issued_of pair.1) ∷ issued_pairs rest

-- a list as the router's model has it
abbrev pub all_issued : List Kept → List (ℕ × Issued)
all_issued list = issued_pairs (by_id list)

-- a list and what it has room for, as contracts see them
abbrev pub own_state : List Kept → ℕ → OwnState
own_state list capacity =
    record { issued = all_issued list; spare = capacity - length list }

-- those from an LSP ID on
abbrev pub issued_from : {V : Type 0} → ℕ → List (ℕ × V) → List (ℕ × V)
issued_from start [] = []
issued_from start (pair ∷ rest) =
    if nat_lt pair.0 start then issued_from start rest else pair ∷ rest

-- the first one's LSP ID
abbrev pub first_id : {V : Type 0} → List (ℕ × V) → Option ℕ
first_id [] = None
first_id (pair ∷ rest) = Some pair.0

-- a place of the LSP ID, where it is kept, and else where it would go
abbrev pub IsIdAt : List Kept → ℕ → Result ℕ ℕ → Type 0
IsIdAt list id place = MatchResult place (IsPlace kept_id list id) (IsGap kept_id list id)

-- a second older; the age stands still at the end of 64 bits
abbrev pub older_kept : Kept → Kept
older_kept kept = record kept { age = risen kept.age }
