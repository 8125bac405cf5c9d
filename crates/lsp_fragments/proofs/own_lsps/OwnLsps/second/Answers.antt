use Rattle.std.proofs.Common.{◌∙◌, ap, ℕ}
use Rattle.model_router.specs.Maps.{each}
use Rattle.model_router.specs.Routers.{Issued}
use Rattle.model_router.specs.Seconds.{older}
use Rattle.lsp_fragments.specs.Kept.{OwnState, all_issued}
use Rattle.lsp_fragments.proofs.ShownLemmas.{each-shown}
use Rattle.lsp_fragments.proofs.own_lsps.OwnLsps.second.Goals as goal

pub returns-clause-issued : goal.returns-clause-issued
returns-clause-issued c =
    ap all_issued c.age_all.ensures.items ∙ each-shown c.self.inside.list.items
    ∙ ap (λ (s : OwnState). each (λ (_ : ℕ) (i : Issued). older i) s.issued) c.self.view_is
