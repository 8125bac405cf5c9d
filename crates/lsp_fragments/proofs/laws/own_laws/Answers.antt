use Rattle.std.proofs.Common.{◌≡◌, ◌==◌, ◌+◌, Some, None, if◌then◌else◌, refl}
use Rattle.model_router.specs.Cells.{purged}
use Rattle.model_router.specs.Routers.{LevelState}
use Rattle.model_router.specs.Ranks.{is_live}
use Rattle.model_router.specs.Maps.{erase}
use Rattle.model_router.specs.OwnLsps.{outbid, install, retire, last_number, issue_cell}
use Rattle.model_router.proofs.BookLemmas.{choose, test}
use Rattle.lsp_fragments.specs.declared.issue.Issue.TheVariants.{Number, Exhausted}
use Rattle.lsp_fragments.specs.Issues.{outbid_by}
use Rattle.lsp_fragments.proofs.laws.own_laws.Goals as goal

pub returns-clause-outbid : goal.returns-clause-outbid
unfolding outbid
returns-clause-outbid c given r level state id above contents last =
    test (λ t. (if t then retire state id last else install state id contents (issue_cell given r level id (above + 1) contents))
    ≡ outbid_by given r level state id contents last (if t then Exhausted else Number (above + 1))) (above == last_number) (λ _. refl) (λ _. refl)

pub returns-clause-issued : goal.returns-clause-issued
unfolding install
returns-clause-issued c state id contents cell = refl

pub returns-clause-dropped : goal.returns-clause-dropped
unfolding retire
returns-clause-dropped c state id purge = refl

pub returns-clause-dropped_held : goal.returns-clause-dropped_held
unfolding retire
returns-clause-dropped_held c state id None = refl
returns-clause-dropped_held c state id (Some cell) =
    choose (λ (s : LevelState). s.own ≡ erase state.own id) (is_live cell.rank) (retire state id (purged cell)) _ (λ _. refl) (λ _. refl)
