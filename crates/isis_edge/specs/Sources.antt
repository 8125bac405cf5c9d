-- What a read says of what a source gave (own).
use Rattle.std.specs.Prelude.{◌≡◌, ℕ, ◌<◌, ◌≤◌, Bool, true, false, List, [], ◌++◌, length, take, Option, Some, IfSome, IsSomeAnd}
use Rattle.isis_edge.specs.declared.source.Got.{Got}
use Rattle.isis_edge.specs.declared.source.Got.TheVariants as got
use Rattle.isis_edge.specs.Told.{Took}

-- what a read says of the octets given before and now, with the buffer as it now is, and of whether the source is at
-- its end (own)
abbrev pub Reads : (before now : List ℕ) → (ended ended' : Bool) → Got → List ℕ → Type 0
Reads before now ended ended' (got.Some count) buffer =
    (0 < count) × (count ≤ length buffer) × Took before now (take count buffer) × (ended' ≡ false)
Reads before now ended ended' got.End buffer = (now ≡ before) × (ended' ≡ true)
Reads before now ended ended' got.Failed buffer = (now ≡ before) × (ended' ≡ ended)

-- what a read does to what the reader behind a source has left, where the reader tells that: it takes just what was
-- given, and nothing is left at the end (own)
abbrev pub TakesFrom : (before now : Option (List ℕ)) → Got → List ℕ → Type 0
TakesFrom before now (got.Some count) buffer =
    IfSome before (λ all. IsSomeAnd now (λ rest. all ≡ take count buffer ++ rest))
TakesFrom before now got.End buffer = IfSome before (λ all. (all ≡ []) × (now ≡ Some []))
TakesFrom before now got.Failed buffer = IfSome before (λ all. now ≡ Some all)

-- the fact, where the read failed
abbrev pub OnFailed : Got → Type 0 → Type 0
OnFailed (got.Some count) P = Unit {0}
OnFailed got.End P = Unit {0}
OnFailed got.Failed P = P

-- the fact, where the read didn't fail
abbrev pub UnlessFailed : Got → Type 0 → Type 0
UnlessFailed (got.Some count) P = P
UnlessFailed got.End P = P
UnlessFailed got.Failed P = Unit {0}

-- the fact on the count, where the read gave octets
abbrev pub IfGave : Got → (ℕ → Type 0) → Type 0
IfGave (got.Some count) P = P count
IfGave got.End P = Unit {0}
IfGave got.Failed P = Unit {0}
