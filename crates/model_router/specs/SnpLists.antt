-- The CSNP set of a level and the PSNPs that a circuit owes (ISO 10589 7.3.15.3, 7.3.15.4).
use Rattle.std.specs.Prelude.{ℕ, zero, suc, ◌+◌, ◌-◌, ◌^◌, nat_lt, nat_le, Bool, List, [], ◌∷◌, take, drop, length, if◌then◌else◌}
use Rattle.isis_base.specs.declared.level.Level.{Level}
use Rattle.model_router.specs.Sets.{has}
use Rattle.model_router.specs.Ranks.{is_live}
use Rattle.model_router.specs.Cells.{Cell}
use Rattle.model_router.specs.Books.{Book}
use Rattle.model_router.specs.SnpTable.{SnpEntry}
use Rattle.model_router.specs.Datagrams.{Sent, Csnp, Psnp}

-- what an SNP says of what is held: a purge and an empty entry with lifetime and checksum 0 (9.10)
abbrev pub snp_entry : ℕ → Cell → SnpEntry
snp_entry id cell = record {
  id = id;
  rank = cell.rank;
  lifetime = if is_live cell.rank then cell.left else 0;
  checksum = if is_live cell.rank then cell.checksum else 0;
}

-- what is said of the cells that pass a test, in order (own)
abbrev pub entries_where : (Cell → Bool) → List (ℕ × Cell) → List SnpEntry
entries_where test [] = []
entries_where test (pair ∷ cells) =
    if test pair.1 then snp_entry pair.0 pair.1 ∷ entries_where test cells
    else entries_where test cells

-- a list in pieces of 75 (own), of so many pieces at most
abbrev pub pieces : ℕ → List SnpEntry → List (List SnpEntry)
pieces zero entries = []
pieces (suc count) entries =
    if nat_le (length entries) 75 then entries ∷ []
    else take 75 entries ∷ pieces count (drop 75 entries)

-- own
abbrev pub last_id : List SnpEntry → ℕ
last_id [] = 0
last_id (h ∷ []) = h.id
last_id (h ∷ g ∷ entries) = last_id (g ∷ entries)

-- the CSNPs of pieces, from a first LSP ID on: each ends at its last entry, the last one at all
-- ones (7.3.15.3)
abbrev pub csnps : Level → ℕ → List (List SnpEntry) → List Sent
csnps l start [] = []
csnps l start (piece ∷ []) = Csnp l start (2 ^ 64 - 1) piece ∷ []
csnps l start (piece ∷ next ∷ rest) =
    Csnp l start (last_id piece) piece ∷ csnps l (last_id piece + 1) (next ∷ rest)

-- the entries of the keys that are held, in order: purges have one, empty entries none (7.3.15.3)
abbrev pub held_keys : Book → List SnpEntry
held_keys book = entries_where (λ (c : Cell). nat_lt 0 c.rank) book.cells

-- the CSNP set of a book (7.3.15.3)
abbrev pub csnp_set : Level → Book → List Sent
csnp_set l book = csnps l 0 (pieces (suc (length book.cells)) (held_keys book))

-- the entries that are owed on a circuit, in order: where SSN is set (7.3.15.4)
abbrev pub owed : ℕ → Book → List SnpEntry
owed place book = entries_where (λ (c : Cell). has c.ssn place) book.cells

-- 7.3.15.4
abbrev pub psnps : Level → List (List SnpEntry) → List Sent
psnps l [] = []
psnps l (piece ∷ rest) = Psnp l piece ∷ psnps l rest
