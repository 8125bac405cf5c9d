-- One's own LSPs, as they are followed, keep their level's flooding.
use Rattle.std.proofs.Common.{ℕ}
use Rattle.model_router.specs.Deeds.{Hearing}
use Rattle.model_router.proofs.WayLemmas.{way-keeps}
use Rattle.model_router.proofs.LevelWays.{all-mine, renew-way}
use Rattle.model_router.proofs.laws.flooding.renew_keeps.Goals as goal

any : (ℕ → ℕ → ℕ) → Hearing
any heard = record { rank = heard; source = λ id rank content. Unit {0}; sane = ⊥; mine = λ id contents. Unit {0}; names = λ place id. Unit {0}; stirs = λ place. Unit {0} }

pub returns : goal.returns
unfolding any
returns c heard given r level s wants = way-keeps (any heard) s _ (renew-way (any heard) given r level (record { source = λ id number contents mine. tt; good = λ sane. absurd sane }) s wants (λ sane. absurd sane) (all-mine wants))
