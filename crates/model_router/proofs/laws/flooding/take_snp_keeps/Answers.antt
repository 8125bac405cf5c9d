-- An SNP that is taken keeps a level's flooding.
use Rattle.std.proofs.Common.{ℕ, List, [], ◌∷◌}
use Rattle.std.specs.List.{AllByRecursion}
use Rattle.model_router.specs.SnpTable.{SnpEntry}
use Rattle.model_router.specs.Deeds.{Hearing}
use Rattle.model_router.proofs.WayLemmas.{way-keeps}
use Rattle.model_router.proofs.LevelWays.{take_snp-way}
use Rattle.model_router.proofs.laws.flooding.take_snp_keeps.Goals as goal

any : (ℕ → ℕ → ℕ) → Hearing
any heard = record { rank = heard; source = λ id rank content. Unit {0}; sane = ⊥; mine = λ id contents. Unit {0}; names = λ place id. Unit {0}; stirs = λ place. Unit {0} }

all-named : (entries : List SnpEntry) → AllByRecursion (λ (h : SnpEntry). Unit {0}) entries
all-named [] = tt
all-named (h ∷ entries) = (tt, all-named entries)

pub returns : goal.returns
unfolding any
returns c heard scene s system place range entries all = way-keeps (any heard) s _ (take_snp-way (any heard) scene (record { source = λ id number contents mine. tt; good = λ sane. absurd sane }) s system place range entries all (all-named entries) (λ sane. absurd sane) (λ id own. tt))
