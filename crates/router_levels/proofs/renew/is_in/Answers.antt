use Rattle.std.proofs.Common.{◌≡◌, ℕ, List, Result, Ok, Err, is_ok, MatchResult, sym, ◌∙◌}
use Rattle.isis_base.specs.declared.identifiers.LspId.{LspId}
use Rattle.isis_base.specs.Identifiers.{lsp_number}
use Rattle.model_router.specs.LetGos.{contains}
use Rattle.flag_sync.specs.Walks.{numbers_of}
use Rattle.ordered.specs.Keyed.{IsPlace, IsGap}
use Rattle.purge_ageing.proofs.IdLemmas.{has-place, has-gap}
use Rattle.router_levels.proofs.renew.is_in.Goals as goal

found : (ids : List LspId) (n : ℕ) (r : Result ℕ ℕ) → MatchResult r (IsPlace lsp_number ids n) (IsGap lsp_number ids n) → is_ok r ≡ contains (numbers_of ids) n
found ids n (Ok i) at = sym (has-place ids n i at)
found ids n (Err i) gap = sym (has-gap ids n i gap)

pub returns : goal.returns
returns c = c.is_ok.ensures.value ∙ found c.args.ids.now (lsp_number c.args.id) _ c.place_of.ensures
