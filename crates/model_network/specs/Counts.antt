-- How many LSP IDs one end of a link is ahead in, and how many of its flags stand there (own).
use Rattle.std.specs.Prelude.{ℕ, ◌+◌, Bool, ◌&&◌, ◌||◌, not, nat_lt, List, [], ◌∷◌, if◌then◌else◌}
use Rattle.isis_base.specs.declared.level.Level.{Level}
use Rattle.model_router.specs.Sets.{has}
use Rattle.model_router.specs.Cells.{Cell}
use Rattle.model_router.specs.LetGos.{lets_go}
use Rattle.model_router.specs.Books.{rank_at}
use Rattle.model_router.specs.Routers.{Router, level_of, book_of}

-- own
abbrev pub count_where : (ℕ → Cell → Bool) → List (ℕ × Cell) → ℕ
count_where test [] = 0
count_where test (pair ∷ cells) = (if test pair.0 pair.1 then 1 else 0) + count_where test cells

-- whether an LSP ID was let go by either end (own)
abbrev pub is_excepted : Router → Router → Level → ℕ → Bool
is_excepted a b level id = lets_go (level_of a level).gone id || lets_go (level_of b level).gone id

-- how many LSP IDs that aren't excepted have a greater rank at the first router (own)
abbrev pub ahead : Router → Router → Level → ℕ
ahead a b level = count_where
    (λ (id : ℕ) (c : Cell). not (is_excepted a b level id)
    && nat_lt (rank_at (book_of b level) id) c.rank)
    (book_of a level).cells

-- how many SRM flags stand on a circuit (ISO 10589 7.3.15)
abbrev pub flags : Router → ℕ → Level → ℕ
flags a place level =
    count_where (λ (_ : ℕ) (c : Cell). has c.srm place) (book_of a level).cells
