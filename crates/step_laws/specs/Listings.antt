-- The CSNPs of a reply: that they list exactly the keys in their ranges, are a level's CSNP set, and
-- cover all LSP IDs (ISO 10589 7.3.15.3; the words: own).
use Rattle.std.specs.Prelude.{◌≡◌, ℕ, ◌+◌, ◌^◌, ◌≤◌, nat_le, Bool, false, ◌&&◌, ◌⊎◌, List, [], ◌∷◌, filter}
use Rattle.isis_base.specs.declared.level.Level.{Level}
use Rattle.model_router.specs.Both.{is_level}
use Rattle.model_router.specs.Books.{Book}
use Rattle.model_router.specs.SnpTable.{SnpEntry}
use Rattle.model_router.specs.Routers.{Router, book_of}
use Rattle.model_router.specs.Datagrams.{Sent, PointHello, LanHello, Lsp, Csnp, Psnp}
use Rattle.model_router.specs.SnpLists.{held_keys, csnp_set}
use Rattle.model_router.specs.Events.{Reply, Done, Dropped, Send}
use Rattle.model_router.specs.ReplyLaws.{AllSent}

-- ---- what a CSNP lists

-- whether an entry's LSP ID lies in a range, both ends in (9.10)
abbrev pub lies_within : ℕ → ℕ → SnpEntry → Bool
lies_within first last h = nat_le first h.id && nat_le h.id last

-- the entries of the keys that a book holds in a range, in its order (9.10)
abbrev pub keys_within : Book → ℕ → ℕ → List SnpEntry
keys_within book first last = filter (lies_within first last) (held_keys book)

-- a CSNP's entries are just those of the keys that a router holds in its range (9.10)
abbrev pub ListsExactly : Router → Sent → Type 0
ListsExactly r (PointHello state extended names) = Unit {0}
ListsExactly r (LanHello level lan snpas) = Unit {0}
ListsExactly r (Lsp level id cell) = Unit {0}
ListsExactly r (Csnp level first last entries) = entries ≡ keys_within (book_of r level) first last
ListsExactly r (Psnp level entries) = Unit {0}

-- own
abbrev pub ReplyListsExactly : Router → Reply → Type 0
ReplyListsExactly r reply = AllSent (ListsExactly r) reply

-- ---- the CSNPs of a level

-- whether a datagram is a CSNP of a level (9.10)
abbrev pub is_csnp_of : Level → Sent → Bool
is_csnp_of level (PointHello state extended names) = false
is_csnp_of level (LanHello m lan snpas) = false
is_csnp_of level (Lsp m id cell) = false
is_csnp_of level (Csnp m first last entries) = is_level m level
is_csnp_of level (Psnp m entries) = false

-- the CSNPs of a level in a reply, in order (own)
abbrev pub csnps_in : Level → Reply → List Sent
csnps_in level Done = []
csnps_in level (Dropped cause) = []
csnps_in level (Send out) = filter (is_csnp_of level) out

-- the CSNPs of a level in a reply are none, or a router's CSNP set (7.3.15.3)
abbrev pub AreNoneOrSet : Router → Level → Reply → Type 0
AreNoneOrSet r level reply =
    (csnps_in level reply ≡ []) ⊎ (csnps_in level reply ≡ csnp_set level (book_of r level))

-- CSNPs cover the LSP IDs from one on to the last one of all: each begins one past the end of the
-- one before it (7.3.15.3)
abbrev pub CoverIds : ℕ → List Sent → Type 0
CoverIds start [] = start ≡ 2 ^ 64
CoverIds start (PointHello state extended names ∷ rest) = ⊥
CoverIds start (LanHello level lan snpas ∷ rest) = ⊥
CoverIds start (Lsp level id cell ∷ rest) = ⊥
CoverIds start (Csnp level first last entries ∷ rest) =
    (first ≡ start) × (first ≤ last) × CoverIds (last + 1) rest
CoverIds start (Psnp level entries ∷ rest) = ⊥

-- the CSNPs of a level in a reply are none, or cover all LSP IDs (7.3.15.3)
abbrev pub AreNoneOrCovering : Level → Reply → Type 0
AreNoneOrCovering level reply = (csnps_in level reply ≡ []) ⊎ CoverIds 0 (csnps_in level reply)
