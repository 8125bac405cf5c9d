-- What an SNP says of what is held where it is taken: when it frees a flag, and what follows where
-- it sets none (ISO 10589 7.3.15.2, 7.3.17; the words: own).
use Rattle.std.specs.Prelude.{◌≡◌, ℕ, ◌<◌, ◌≤◌, ◌==◌, true, false, ◌⊎◌, List, [], ◌∷◌, Some}
use Rattle.model_router.specs.Ranks.{is_live}
use Rattle.model_router.specs.Cells.{Cell}
use Rattle.model_router.specs.Books.{Book, cell_at, rank_at, checksum_of}
use Rattle.model_router.specs.LspTable.{differs}
use Rattle.model_router.specs.SnpTable.{SnpEntry, snp_case, sets_flag, lists, is_missed}
use Rattle.model_router.specs.Routers.{LevelState}
use Rattle.model_router.specs.Takes.{Scene, whose_of, take_entry}

-- ---- a flag that is freed

-- entries list an LSP ID once, with this entry (own)
abbrev pub ListsOnce : List SnpEntry → SnpEntry → Type 0
ListsOnce [] h = ⊥
ListsOnce (e ∷ entries) h =
    ((e ≡ h) × (lists entries h.id ≡ false)) ⊎ (((e.id == h.id) ≡ false) × ListsOnce entries h)

-- an entry is at least as new as what is held, and has its checksum where both are live and of one
-- number (own)
abbrev pub Frees : Book → SnpEntry → Type 0
Frees book h =
    (rank_at book h.id ≤ h.rank) × (differs (cell_at book h.id) h.rank h.checksum ≡ false)

-- ---- a take that sets no flag

-- no entry sets a flag as an SNP is taken (own)
abbrev pub AreClean : Scene → LevelState → ℕ → ℕ → List SnpEntry → Type 0
AreClean scene state system place [] = Unit {0}
AreClean scene state system place (h ∷ entries) =
    (sets_flag (snp_case (whose_of system state h.id) (cell_at state.book h.id) h) ≡ false)
    × AreClean scene (take_entry scene state system place h) system place entries

-- nor does the range of a CSNP (own)
abbrev pub IsRangeClean : LevelState → ℕ → ℕ → List SnpEntry → Type 0
IsRangeClean state start end entries =
    (id : ℕ) (cell : Cell) → cell_at state.book id ≡ Some cell
    → is_missed start end entries id cell ≡ false

-- entries list an LSP ID with this rank and checksum (own)
abbrev pub ListsKey : List SnpEntry → ℕ → ℕ → ℕ → Type 0
ListsKey [] id rank checksum = ⊥
ListsKey (h ∷ entries) id rank checksum =
    ((h.id ≡ id) × (h.rank ≡ rank) × (h.checksum ≡ checksum)) ⊎ ListsKey entries id rank checksum

-- what is held live of an LSP ID is listed with its checksum (own)
abbrev pub IsListed : Book → List SnpEntry → ℕ → Type 0
IsListed book entries id =
    is_live (rank_at book id) ≡ true
    → ListsKey entries id (rank_at book id) (checksum_of (cell_at book id))

-- what is listed live with a checksum and seconds left is held so (own)
abbrev pub IsHeldLive : Book → SnpEntry → Type 0
IsHeldLive book h =
    is_live h.rank ≡ true → 0 < h.lifetime → 0 < h.checksum
    → (rank_at book h.id ≡ h.rank) × (checksum_of (cell_at book h.id) ≡ h.checksum)

-- own
abbrev pub AreHeldLive : Book → List SnpEntry → Type 0
AreHeldLive book [] = Unit {0}
AreHeldLive book (h ∷ entries) = IsHeldLive book h × AreHeldLive book entries
