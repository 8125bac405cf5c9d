-- A second of a level's entries keeps its flooding.
use Rattle.std.proofs.Common.{ℕ}
use Rattle.model_router.specs.Deeds.{Hearing}
use Rattle.model_router.proofs.WayLemmas.{way-keeps}
use Rattle.model_router.proofs.LevelWays.{age-way}
use Rattle.model_router.proofs.laws.flooding.age_keeps.Goals as goal

any : (ℕ → ℕ → ℕ) → Hearing
any heard = record { rank = heard; source = λ id rank content. Unit {0}; sane = ⊥; mine = λ id contents. Unit {0}; names = λ place id. Unit {0}; stirs = λ place. Unit {0} }

pub returns : goal.returns
unfolding any
returns c heard s = way-keeps (any heard) s _ (age-way (any heard) s)
