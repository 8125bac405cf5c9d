use Rattle.std.proofs.Common.{◌∙◌, List, MatchResult, subst}
use Rattle.isis_base.specs.declared.identifiers.LspId.{LspId}
use Rattle.isis_base.specs.Identifiers.{lsp_number}
use Rattle.ordered.specs.Keyed.{IsPlace, IsGap}
use Rattle.purge_ageing.proofs.IdLemmas.{has-all, has-list}
use Rattle.purge_ageing.proofs.let_go.LetGo.has.Goals as goal

pub returns-then-self : goal.returns-then-self
returns-then-self c = has-all c.self.inside.all c.self.inside.ids.items c.args.self.now (lsp_number c.args.id) c.self.view_is c.if-self.true

pub returns-else-self : goal.returns-else-self
returns-else-self c =
    let n = lsp_number c.args.id in
    let found = subst (λ (ids : List LspId). MatchResult c.place_of.result (IsPlace lsp_number ids n) (IsGap lsp_number ids n)) c.deref.ensures.value c.place_of.ensures in
    c.is_ok.ensures.value ∙ has-list c.self.inside.all c.self.inside.ids.items c.args.self.now n c.self.view_is c.place_of.result c.if-self.false found
