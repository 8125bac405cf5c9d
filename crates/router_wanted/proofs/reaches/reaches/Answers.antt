use Rattle.std.proofs.Common.{List, ℕ, sym, subst}
use Rattle.model_router.specs.LspPrefixes.{Reach}
use Rattle.model_router.specs.Sorted.{RisesFrom}
use Rattle.router_wanted.proofs.ReachLemmas.{own-rises}
use Rattle.router_wanted.proofs.reaches.reaches.Goals as goal

pub add_leaks-requires : goal.add_leaks-requires
add_leaks-requires c = subst (λ (m : List (ℕ × Reach)). RisesFrom 0 m) (sym c.in-Ok.ensures) (own-rises _ 0 c.requires)
