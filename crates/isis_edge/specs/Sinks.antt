-- What a write says of what was put into a sink (own).
use Rattle.std.specs.Prelude.{◌≡◌, ℕ, ◌<◌, ◌≤◌, List, ◌++◌, length, take, Option, Some, IfSome}
use Rattle.isis_edge.specs.declared.sink.Put.{Put}
use Rattle.isis_edge.specs.declared.sink.Put.TheVariants as put
use Rattle.isis_edge.specs.Told.{Wrote}

-- what a write says of the octets put before and now (own)
abbrev pub Writes : (before now : List ℕ) → Put → List ℕ → Type 0
Writes before now (put.Some count) piece =
    (0 < count) × (count ≤ length piece) × Wrote before now (take count piece)
Writes before now put.Failed piece = now ≡ before

-- what a write does to what the writer behind a sink holds, where the writer tells that: it adds just what was put (own)
abbrev pub HandsOn : (before now : Option (List ℕ)) → Put → List ℕ → Type 0
HandsOn before now (put.Some count) piece =
    IfSome before (λ held. now ≡ Some (held ++ take count piece))
HandsOn before now put.Failed piece = IfSome before (λ held. now ≡ Some held)

-- the fact, where the write failed
abbrev pub OnFailed : Put → Type 0 → Type 0
OnFailed (put.Some count) P = Unit {0}
OnFailed put.Failed P = P

-- the fact, where the write didn't fail
abbrev pub UnlessFailed : Put → Type 0 → Type 0
UnlessFailed (put.Some count) P = P
UnlessFailed put.Failed P = Unit {0}

-- the fact on the count, where octets were written
abbrev pub IfPut : Put → (ℕ → Type 0) → Type 0
IfPut (put.Some count) P = P count
IfPut put.Failed P = Unit {0}
