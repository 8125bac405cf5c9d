-- A CSNP set covers all LSP IDs once, in order (ISO 10589 7.3.15.3).
use Rattle.std.specs.Prelude.{◌≡◌, ℕ, ◌+◌, ◌-◌, ◌^◌, ◌<◌, ◌≤◌, List, [], ◌∷◌, ◌++◌}
use Rattle.std.specs.List.{AllByRecursion}
use Rattle.isis_base.specs.declared.level.Level.{Level}
use Rattle.model_router.specs.Cells.{Cell}
use Rattle.model_router.specs.Books.{Book}
use Rattle.model_router.specs.SnpTable.{SnpEntry}
use Rattle.model_router.specs.Datagrams.{Sent, PointHello, LanHello, Lsp, Csnp, Psnp}

-- an entry lies in a range (9.10)
abbrev pub IsWithin : ℕ → ℕ → SnpEntry → Type 0
IsWithin start end h = (start ≤ h.id) × (h.id ≤ end)

-- CSNPs of a level from a first LSP ID on to the last one of all: each begins one past the end
-- before it, and their entries, each inside its CSNP, are these in order (7.3.15.3)
abbrev pub CoversFrom : Level → ℕ → List Sent → List SnpEntry → Type 0
CoversFrom l start [] entries = ⊥
CoversFrom l start (Csnp m first end piece ∷ []) entries =
    (m ≡ l) × (first ≡ start) × (end ≡ 2 ^ 64 - 1) × (entries ≡ piece)
    × AllByRecursion (IsWithin first end) piece
CoversFrom l start (Csnp m first end piece ∷ next ∷ rest) entries =
    (m ≡ l) × (first ≡ start)
    × ((more : List SnpEntry) × (entries ≡ piece ++ more)
    × AllByRecursion (IsWithin first end) piece × CoversFrom l (end + 1) (next ∷ rest) more)
CoversFrom l start (PointHello state extended names ∷ rest) entries = ⊥
CoversFrom l start (LanHello m lan snpas ∷ rest) entries = ⊥
CoversFrom l start (Lsp m id cell ∷ rest) entries = ⊥
CoversFrom l start (Psnp m piece ∷ rest) entries = ⊥

-- a book's LSP IDs have eight octets (9.8)
abbrev pub HasShortIds : Book → Type 0
HasShortIds book = AllByRecursion (λ (p : ℕ × Cell). p.0 < 2 ^ 64) book.cells
