-- What a reply says is so: of what is held after the step, and in a form that passes the tests of
-- receiving (own).
use Rattle.std.specs.Prelude.{◌≡◌, ℕ, ◌^◌, ◌<◌, ◌≤◌, true, ◌⊎◌, List, [], ◌∷◌, Option, Some, None}
use Rattle.std.specs.List.{AllByRecursion}
use Rattle.isis_base.specs.declared.level.Level.{Level}
use Rattle.model_router.specs.Ranks.{is_live}
use Rattle.model_router.specs.Cells.{Cell}
use Rattle.model_router.specs.Books.{cell_at, rank_of, rank_at, checksum_of}
use Rattle.model_router.specs.SnpTable.{SnpEntry}
use Rattle.model_router.specs.LetGos.{lets_go}
use Rattle.model_router.specs.Routers.{Router, level_of, book_of}
use Rattle.model_router.specs.Good.{IsGoodCell, AreTellable}
use Rattle.model_router.specs.Deeds.{content_of}
use Rattle.model_router.specs.Datagrams.{Sent, PointHello, LanHello, Lsp, Csnp, Psnp}
use Rattle.model_router.specs.Events.{Reply, Done, Dropped, Send}

-- a fact of each datagram of a reply (own)
abbrev pub AllSent : (Sent → Type 0) → Reply → Type 0
AllSent fact Done = Unit {0}
AllSent fact (Dropped cause) = Unit {0}
AllSent fact (Send out) = AllByRecursion fact out

-- ---- ranks

-- a router holds a rank of an LSP ID, or a newer one, or has let the LSP ID go (own)
abbrev pub HasRank : Router → Level → ℕ → ℕ → Type 0
HasRank r level id rank =
    (rank ≤ rank_at (book_of r level) id) ⊎ (lets_go (level_of r level).gone id ≡ true)

-- what a datagram says of LSPs is held (own)
abbrev pub IsHeld : Router → Sent → Type 0
IsHeld r (PointHello state extended names) = Unit {0}
IsHeld r (LanHello level lan snpas) = Unit {0}
IsHeld r (Lsp level id cell) = HasRank r level id cell.rank
IsHeld r (Csnp level start end entries) =
    AllByRecursion (λ (h : SnpEntry). HasRank r level h.id h.rank) entries
IsHeld r (Psnp level entries) =
    AllByRecursion (λ (h : SnpEntry). HasRank r level h.id h.rank) entries

-- own
abbrev pub IsReplyHeld : Router → Reply → Type 0
IsReplyHeld r reply = AllSent (IsHeld r) reply

-- ---- LSPs

-- what is held of an LSP ID was there with this rank and content (own)
abbrev pub WasHeld : Option Cell → Cell → Type 0
WasHeld None cell = ⊥
WasHeld (Some old) cell = (old.rank ≡ cell.rank) × (content_of old ≡ content_of cell)

-- an LSP that is sent is held with this rank and content (own)
abbrev pub IsExact : Router → Sent → Type 0
IsExact r (PointHello state extended names) = Unit {0}
IsExact r (LanHello level lan snpas) = Unit {0}
IsExact r (Lsp level id cell) = WasHeld (cell_at (book_of r level) id) cell
IsExact r (Csnp level start end entries) = Unit {0}
IsExact r (Psnp level entries) = Unit {0}

-- own
abbrev pub IsReplyExact : Router → Reply → Type 0
IsReplyExact r reply = AllSent (IsExact r) reply

-- ---- CSNPs

-- an entry stands in a list (own)
abbrev pub Entry : SnpEntry → List SnpEntry → Type 0
Entry h [] = ⊥
Entry h (x ∷ entries) = (h ≡ x) ⊎ Entry h entries

-- entries list the key that is held of an LSP ID, a live one with its checksum, which isn't 0, and
-- seconds left (own)
pub record ListsHeld (entries : List SnpEntry) (id : ℕ) (held : Option Cell) : Type 0 where
  pub entry : SnpEntry
  pub stands : Entry entry entries
  pub id_is : entry.id ≡ id
  pub rank_is : entry.rank ≡ rank_of held
  pub checksum_is : is_live (rank_of held) ≡ true → entry.checksum ≡ checksum_of held
  pub left : is_live (rank_of held) ≡ true → 0 < entry.lifetime
  pub summed : is_live (rank_of held) ≡ true → 0 < entry.checksum

-- what a CSNP tells of the keys in its range: each one that is held, and none that isn't (own)
pub record TellsKeys (r : Router) (level : Level) (first last : ℕ)
    (entries : List SnpEntry) : Type 0 where
  pub lists : (id : ℕ) → first ≤ id → id ≤ last → 0 < rank_at (book_of r level) id
      → ListsHeld entries id (cell_at (book_of r level) id)
  pub holds : (h : SnpEntry) → Entry h entries → h.rank ≡ rank_at (book_of r level) h.id

-- own
abbrev pub IsTold : Router → Sent → Type 0
IsTold r (PointHello state extended names) = Unit {0}
IsTold r (LanHello level lan snpas) = Unit {0}
IsTold r (Lsp level id cell) = Unit {0}
IsTold r (Csnp level first last entries) = TellsKeys r level first last entries
IsTold r (Psnp level entries) = Unit {0}

-- own
abbrev pub IsReplyTold : Router → Reply → Type 0
IsReplyTold r reply = AllSent (IsTold r) reply

-- ---- form

-- what is sent passes the tests of receiving (own)
abbrev pub IsFine : Sent → Type 0
IsFine (PointHello state extended names) = Unit {0}
IsFine (LanHello level lan snpas) = Unit {0}
IsFine (Lsp level id cell) = (id < 2 ^ 64) × IsGoodCell cell × (0 < cell.rank)
IsFine (Csnp level start end entries) = (start < 2 ^ 64) × (end < 2 ^ 64) × AreTellable entries
IsFine (Psnp level entries) = AreTellable entries

-- own
abbrev pub IsReplyFine : Reply → Type 0
IsReplyFine reply = AllSent IsFine reply
