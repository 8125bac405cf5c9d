-- A CSNP that is taken without a flag, entry after entry (ISO 10589 7.3.15.2; the words: own).
use Rattle.std.specs.Prelude.{◌≡◌, ℕ, List}
use Rattle.model_router.specs.Books.{Book, cell_at, rank_at, checksum_of}
use Rattle.model_router.specs.SnpTable.{SnpEntry}
use Rattle.model_router.specs.Routers.{LevelState}
use Rattle.model_router.specs.Takes.{Scene, take_entries}
use Rattle.model_router.specs.SweepLaws.{AreClean, IsRangeClean}

-- a book has the keys of the one before it, with their checksums, and no change was counted (own)
pub record KeepsKeys (old new : Book) : Type 0 where
  pub changes : new.changes ≡ old.changes
  pub rank : (id : ℕ) → rank_at new id ≡ rank_at old id
  pub checksum : (id : ℕ) → checksum_of (cell_at new id) ≡ checksum_of (cell_at old id)

-- no entry of a CSNP sets a flag, each by whose its LSP is and at what those before it left; and nor
-- does the range, at what all of them left (7.3.15.2)
pub record IsTakenCleanly (scene : Scene) (state : LevelState) (system place : ℕ) (range : ℕ × ℕ)
    (entries : List SnpEntry) : Type 0 where
  pub listed : AreClean scene state system place entries
  pub missed : IsRangeClean (take_entries scene state system place entries) range.0 range.1 entries
