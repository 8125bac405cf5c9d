-- What a pacer tells before and after a call (own).
use Rattle.std.specs.Prelude.{◌≡◌, ℕ, ◌+◌, Bool, true, false}
use Rattle.daemon_edge.specs.declared.pacing.Pace.{Pace}
use Rattle.daemon_edge.specs.declared.pacing.Pace.TheVariants as pace

-- a second is one more, and comes only before the end; after the end comes nothing else (own)
abbrev pub Paces : ℕ → Bool → ℕ → Bool → Pace → Type 0
Paces given ended given' ended' pace.Second =
    (given' ≡ given + 1) × (ended ≡ false) × (ended' ≡ false)
Paces given ended given' ended' pace.End = (given' ≡ given) × (ended' ≡ true)
