-- An LSP that is taken keeps a level's flooding: what is let go stays so, ranks don't fall, and flags cover them.
use Rattle.std.proofs.Common.{ℕ}
use Rattle.model_router.specs.Deeds.{Hearing}
use Rattle.model_router.proofs.WayLemmas.{way-keeps}
use Rattle.model_router.proofs.LevelWays.{take_lsp-way}
use Rattle.model_router.proofs.laws.flooding.take_lsp_keeps.Goals as goal

any : (ℕ → ℕ → ℕ) → Hearing
any heard = record { rank = heard; source = λ id rank content. Unit {0}; sane = ⊥; mine = λ id contents. Unit {0}; names = λ place id. Unit {0}; stirs = λ place. Unit {0} }

pub returns : goal.returns
unfolding any
returns c heard scene s place w h k = way-keeps (any heard) s _ (take_lsp-way (any heard) scene (record { source = λ id number contents mine. tt; good = λ sane. absurd sane }) s place w h k tt tt (λ sane. absurd sane) (λ own. tt))
