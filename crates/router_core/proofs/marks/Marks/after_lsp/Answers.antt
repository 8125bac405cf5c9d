use Rattle.std.proofs.Common.{sym, ◌∙◌}
use Rattle.model_router.specs.Events.{LspHeard, Take}
use Rattle.model_router.specs.Steps.{step}
use Rattle.router_core.specs.Givens.{given}
use Rattle.router_core.proofs.KeepLemmas.{lsp-keeps}
use Rattle.router_core.proofs.SettledLemmas.{marks-alone}
use Rattle.router_core.proofs.marks.Marks.after_lsp.Goals as goal

-- src/marks.rt
pub returns : goal.returns
returns c = λ r place l from h is held other.
    marks-alone c.args.self r (step given r (Take place (LspHeard l from h))).router (lsp-keeps given r place l from h other) (sym is ∙ c.if-both.false) held
