-- Parts of all schedules, which may be played apart: by the place of the first loss (own).
use Rattle.std.specs.Prelude.{◌≡◌, ℕ, zero, suc, ◌+◌, ◌%◌, ◌==◌, nat_lt, Bool, true, false, List, [], ◌∷◌, if◌then◌else◌}
use Rattle.losses.specs.Trees.{Tree, places_from}
use Rattle.losses.specs.Schedules.{Schedule, schedules}
use Rattle.losses.specs.Counts.{Count, nothing, with_all}
use Rattle.losses.specs.Claims.{LosesAmong}

-- the part in which these places are lost, of so many parts (own)
abbrev pub part_of : ℕ → List ℕ → ℕ
part_of parts [] = 0
part_of parts (place ∷ places) = place % parts

-- the schedules of a part (own)
abbrev pub of_part : Tree → ℕ → ℕ → List Schedule → List Schedule
of_part tree parts part [] = []
of_part tree parts part (s ∷ list) =
    if part_of parts (places_from 0 tree s.fates) == part then s ∷ of_part tree parts part list
    else of_part tree parts part list

-- ---- what is known of parts, joined

-- places are sooner than others: at the first one that differs, or where the others go on (own)
abbrev pub is_sooner : List ℕ → List ℕ → Bool
is_sooner [] [] = false
is_sooner [] (y ∷ ys) = true
is_sooner (x ∷ xs) [] = false
is_sooner (x ∷ xs) (y ∷ ys) = if x == y then is_sooner xs ys else nat_lt x y

-- a greatest cost, and the places that are lost where it is reached (own)
pub record Worst : Type 0 where
  pub cost : ℕ
  pub places : List ℕ

-- the second is worse: it costs more, or as much where sooner places are lost (own)
abbrev pub is_worse : Worst → Worst → Bool
is_worse a b = if a.cost == b.cost then is_sooner b.places a.places else nat_lt a.cost b.cost

-- own
abbrev pub worse_of : Worst → Worst → Worst
worse_of a b = if is_worse a b then b else a

-- how many schedules there are, how many of them cost more than is wanted, and the worst (own)
pub record Sum : Type 0 where
  pub schedules : ℕ
  pub apart : ℕ
  pub worst : Worst

-- what is known of a run's schedules, by the places that they lose (own)
abbrev pub sum_of : Tree → Count → Sum
sum_of tree count = record {
  schedules = count.schedules;
  apart = count.apart;
  worst = record { cost = count.worst; places = places_from 0 tree count.named };
}

-- own
abbrev pub joined : Sum → Sum → Sum
joined a b = record {
  schedules = a.schedules + b.schedules;
  apart = a.apart + b.apart;
  worst = worse_of a.worst b.worst;
}

-- own
abbrev pub nothing_known : Sum
nothing_known = record { schedules = 0; apart = 0; worst = record { cost = 0; places = [] } }

-- what is known of the first so many parts, joined (own)
abbrev pub all_joined : ℕ → (ℕ → Sum) → Sum
all_joined zero sum = nothing_known
all_joined (suc n) sum = joined (sum n) (all_joined n sum)

-- What is lost in a part is lost in no other; and what is known of all parts, joined, is what is known of
-- the whole (own).
pub record AreParts (tree : Tree) (most wanted parts : ℕ) : Type 0 where
  pub one : (part : ℕ) (places : List ℕ) → LosesAmong tree places (of_part tree parts part (schedules tree most []))
      → part ≡ part_of parts places
  pub all : all_joined parts (λ part. sum_of tree (with_all wanted nothing (of_part tree parts part (schedules tree most []))))
      ≡ sum_of tree (with_all wanted nothing (schedules tree most []))

-- sums are joined in any order (own)
pub record AreJoined (a b c : Sum) : Type 0 where
  pub order : joined a b ≡ joined b a
  pub groups : joined (joined a b) c ≡ joined a (joined b c)
