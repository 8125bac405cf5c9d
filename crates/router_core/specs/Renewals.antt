-- What is seen of a level once its second passed, while its own LSPs are followed, kept aside by nodes (own).
use Rattle.std.specs.Prelude.{◌≡◌, ℕ, ◌+◌, ◌≤◌, ◌==◌, nat_le, Bool, true, false, ◌||◌, List, [], ◌∷◌, length, Option, Some, None, if◌then◌else◌}
use Rattle.isis_base.specs.declared.identifiers.LspId.{LspId}
use Rattle.isis_base.specs.declared.identifiers.NodeId.{NodeId}
use Rattle.isis_base.specs.declared.level.Level.{Level}
use Rattle.isis_base.specs.Identifiers.{lsp_number}
use Rattle.isis_base.specs.Keys.{rank}
use Rattle.lsp_store.specs.declared.entry.Entry.{Entry}
use Rattle.lsp_store.specs.Databases as store
use Rattle.lsp_store.specs.Maps as maps
use Rattle.model_router.specs.Books.{Book, cell_at, rank_of}
use Rattle.model_router.specs.Deeds.{Content}
use Rattle.model_router.specs.Maps.{find}
use Rattle.model_router.specs.OwnLsps.{is_held}
use Rattle.model_router.specs.Ranks.{number_of}
use Rattle.model_router.specs.Routers.{Contents, Issued, LevelState, Router, book_of}
use Rattle.model_router.specs.Sorted.{RisesFrom}
use Rattle.router_routes.specs.Moved.{NodesRise, is_among}
use Rattle.router_core.specs.Asides.{AreNamed, node_of, seen, seen_in}
use Rattle.router_core.specs.Calm.{is_ending}

-- ---- what is seen of a level, by LSP ID

-- own
abbrev pub Sight : Type 0
Sight = ℕ → Option (ℕ × Content)

-- what is seen of a book (own)
abbrev pub sight_of : Book → ℕ → Option (ℕ × Content)
sight_of book n = seen (cell_at book n)

-- with what is seen of one LSP ID replaced (own)
abbrev pub with_sight : Sight → ℕ → Option (ℕ × Content) → ℕ → Option (ℕ × Content)
with_sight sight id new n = if id == n then new else sight n

-- once an entry is purged where it is live, and its time ends (ISO 10589 7.3.16.3)
abbrev pub ended_one : Bool → Sight → ℕ → ℕ → Option (ℕ × Content)
ended_one true sight id n = with_sight sight id None n
ended_one false sight id n = sight n

-- the same of all entries (7.3.16.3)
abbrev pub ended : List (LspId × Entry) → Sight → ℕ → Option (ℕ × Content)
ended [] sight n = sight n
ended (pair ∷ entries) sight n = ended entries (ended_one (is_ending pair.1) sight (lsp_number pair.0)) n

-- once an issued LSP is purged where it isn't wanted (7.3.16.4)
abbrev pub withdrawn_one : Sight → ℕ → Option Contents → ℕ → Option (ℕ × Content)
withdrawn_one sight id None n = with_sight sight id None n
withdrawn_one sight id (Some contents) n = sight n

-- the same of all that are issued (7.3.16.4)
abbrev pub withdrawn : List (ℕ × Issued) → List (ℕ × Contents) → Sight → ℕ → Option (ℕ × Content)
withdrawn [] wants sight n = sight n
withdrawn (pair ∷ own) wants sight n = withdrawn own wants (withdrawn_one sight pair.0 (find wants pair.0)) n

-- what is seen is aside of these nodes, which stand in order, and of others what a router holds (own)
pub record IsSightAside (r : Router) (level : Level) (nodes : List NodeId) (sight : Sight)
    (aside : List (LspId × Entry)) : Type 0 where
  pub rises : NodesRise 0 nodes
  pub sees : (n : ℕ) → sight n ≡ (if is_among nodes (node_of n)
      then seen_in (maps.find aside n) else seen (cell_at (book_of r level) n))
  pub within : (n : ℕ) → is_among nodes (node_of n) ≡ false → maps.find aside n ≡ None

-- what is seen of a level is aside so, and its entries have LSP IDs (own)
pub record IsSeenAside (r : Router) (level : Level) (nodes : List NodeId)
    (aside : List (LspId × Entry)) (s : LevelState) : Type 0 where
  pub sees : IsSightAside r level nodes (sight_of s.book) aside
  pub named : AreNamed s.book.cells

-- ---- what is held a second later

-- whether an entry is held a second later, be it as a purge (ISO 10589 7.3.16.3, 7.3.16.4; empty ones: own)
abbrev pub stays : Entry → Bool
stays e = nat_le 2 e.left || store.is_live e

abbrev pub stays_in : Option Entry → Bool
stays_in None = false
stays_in (Some e) = stays e

-- the number that is held then, 0 where none is (7.3.16.3)
abbrev pub number_in : Option Entry → ℕ
number_in None = 0
number_in (Some e) = if stays e then number_of (rank e.key) else 0

-- how many entries stay (own)
abbrev pub staying : List (LspId × Entry) → ℕ
staying [] = 0
staying (pair ∷ entries) = (if stays pair.1 then 1 else 0) + staying entries

-- a level holds so many entries, and of LSP IDs from one on what stays of these entries and these own LSPs (own)
pub record IsForeseen (held : List (LspId × Entry)) (own : List (ℕ × Issued)) (least count : ℕ)
    (s : LevelState) : Type 0 where
  pub own_is : (n : ℕ) → least ≤ n → find s.own n ≡ find own n
  pub number : (n : ℕ) → least ≤ n
      → number_of (rank_of (cell_at s.book n)) ≡ number_in (maps.find held n)
  pub is_there : (n : ℕ) → least ≤ n → is_held (cell_at s.book n) ≡ stays_in (maps.find held n)
  pub long : length s.book.cells ≡ count
  pub sorted : RisesFrom 0 s.book.cells
  pub named : AreNamed s.book.cells

-- the same, and what is seen of it is aside (own)
pub record IsAhead (r : Router) (level : Level) (held : List (LspId × Entry)) (own : List (ℕ × Issued))
    (least count : ℕ) (nodes : List NodeId) (aside : List (LspId × Entry)) (s : LevelState) : Type 0 where
  pub foreseen : IsForeseen held own least count s
  pub seen_aside : IsSightAside r level nodes (sight_of s.book) aside
