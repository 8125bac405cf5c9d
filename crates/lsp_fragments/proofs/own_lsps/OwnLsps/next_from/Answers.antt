use Rattle.std.proofs.Common.{subst}
use Rattle.model_router.specs.Sorted.{RisesFrom}
use Rattle.lsp_fragments.specs.Kept.{OwnState, by_id}
use Rattle.lsp_fragments.proofs.ShownLemmas.{issued-rises}
use Rattle.lsp_fragments.proofs.own_lsps.OwnLsps.next_from.Goals as goal

pub returns-clause-rises : goal.returns-clause-rises
returns-clause-rises c = subst (λ (s : OwnState). RisesFrom 0 s.issued) c.self.view_is (issued-rises (by_id c.self.inside.list.items) 0 c.self.invariant)
