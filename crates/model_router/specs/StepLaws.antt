-- The laws of ranks, SRM and SSN from a router to the one after a step (ISO 10589 7.3.15, 7.3.17;
-- the words: own).
use Rattle.std.specs.Prelude.{◌≡◌, ℕ, ◌<◌, ◌≤◌, true, false, ◌⊎◌}
use Rattle.isis_base.specs.declared.level.Level.{Level}
use Rattle.model_router.specs.Sets.{has}
use Rattle.model_router.specs.LetGos.{lets_go}
use Rattle.model_router.specs.Books.{rank_at, srm_at, ssn_at}
use Rattle.model_router.specs.Routers.{Router, level_of, book_of}
use Rattle.model_router.specs.Events.{Event}
use Rattle.model_router.specs.Hearings.{heard_in, named_in, stirs}

-- ---- ranks and flags

-- a rank doesn't fall, unless the LSP ID is let go (own)
abbrev pub RankStays : Router → Router → Type 0
RankStays r t =
    (level : Level) (id : ℕ) → lets_go (level_of t level).gone id ≡ false
    → rank_at (book_of r level) id ≤ rank_at (book_of t level) id

-- whether a point-to-point circuit is open for a level (own)
abbrev pub IsPointOpen : Router → Level → ℕ → Type 0
IsPointOpen r level place =
    (has (book_of r level).opened place ≡ true) × (has (book_of r level).p2p place ≡ true)

-- a flag that stands on a circuit stays, while the circuit is open, unless as new a rank is heard
-- there (own)
abbrev pub FlagStays : Event → Router → Router → Type 0
FlagStays event r t =
    (level : Level) (place id : ℕ) → IsPointOpen r level place → IsPointOpen t level place
    → srm_at (book_of r level) id place ≡ true
    → heard_in event level place id < rank_at (book_of t level) id
    → srm_at (book_of t level) id place ≡ true

-- where a rank rises, the flag stands on each open point-to-point circuit, unless as new a rank was
-- heard there (own)
abbrev pub RiseIsFlagged : Event → Router → Router → Type 0
RiseIsFlagged event r t = (level : Level) (place id : ℕ) → IsPointOpen t level place
    → rank_at (book_of r level) id < rank_at (book_of t level) id
    → heard_in event level place id < rank_at (book_of t level) id
    → srm_at (book_of t level) id place ≡ true

-- a point-to-point circuit that opens has the flag of every key (own)
abbrev pub OpeningIsFlagged : Router → Router → Type 0
OpeningIsFlagged r t =
    (level : Level) (place id : ℕ) → has (book_of r level).opened place ≡ false
    → IsPointOpen t level place
    → 0 < rank_at (book_of t level) id → srm_at (book_of t level) id place ≡ true

-- ---- SSN

-- SSN rises on a circuit only for what a datagram names that is taken there (own)
abbrev pub SsnRises : Event → Router → Router → Type 0
SsnRises event r t =
    (level : Level) (place id : ℕ) → ssn_at (book_of t level) id place ≡ true
    → (ssn_at (book_of r level) id place ≡ true) ⊎ (named_in event level place id ≡ true)

-- SSN of a key that neither changes nor is let go stays on a circuit that is open, unless a
-- datagram that is taken there names it, a hello is taken there, or the circuit is pulled (own)
abbrev pub SsnStays : Event → Router → Router → Type 0
SsnStays event r t = (level : Level) (place id : ℕ) → ssn_at (book_of r level) id place ≡ true
    → has (book_of t level).opened place ≡ true → lets_go (level_of t level).gone id ≡ false
    → rank_at (book_of t level) id ≡ rank_at (book_of r level) id
    → 0 < rank_at (book_of r level) id
    → named_in event level place id ≡ false → stirs event place ≡ false
    → ssn_at (book_of t level) id place ≡ true
