use Rattle.std.proofs.Common.{◌∙◌, List, subst, arith}
use Rattle.isis_base.specs.declared.identifiers.LspId.{LspId}
use Rattle.isis_base.specs.Identifiers.{lsp_number}
use Rattle.ordered.specs.Keyed.{IsPlace, IsGap}
use Rattle.purge_ageing.proofs.IdLemmas.{add-all, add-held, add-new, add-full, listed-more}
use Rattle.purge_ageing.proofs.let_go.LetGo.add.Goals as goal

pub returns-then-self : goal.returns-then-self
returns-then-self c = add-all c.self.inside.all c.self.inside.ids.items c.args.self.now (lsp_number c.args.id) c.self.view_is c.if-self.true

pub invariant_of-self : goal.invariant_of-self
invariant_of-self c =
    let test = c.if-len-lt-MOST.true in
    let len = c.len.ensures ∙ c.self.inside.ids.ok.0 in
    listed-more c.self.inside.ids.items c.put_at.new.ids.items (lsp_number c.args.id) _ _ c.self.invariant (omega (arith, test, len)) c.put_at.ensures.items c.put_at.ensures.room

pub returns-in-Ok : goal.returns-in-Ok
returns-in-Ok c =
    let n = lsp_number c.args.id in
    let at = subst (λ (ids : List LspId). IsPlace lsp_number ids n c.in-Ok.field-0) c.deref.ensures.value c.in-Ok.ensures in
    add-held c.self.inside.all c.self.inside.ids.items c.args.self.now n c.self.view_is c.in-Ok.field-0 c.if-self.false at

pub returns-then-len-lt-MOST : goal.returns-then-len-lt-MOST
returns-then-len-lt-MOST c =
    let n = lsp_number c.args.id in
    let test = c.if-len-lt-MOST.true in
    let len = c.len.ensures ∙ c.self.inside.ids.ok.0 in
    let gap = subst (λ (ids : List LspId). IsGap lsp_number ids n c.in-Err.place) c.deref.ensures.value c.in-Err.ensures in
    add-new c.self.inside.all c.self.inside.ids.items c.args.self.now n c.self.view_is c.in-Err.place c.put_at.new.ids.items c.if-self.false gap (omega (arith, test, len)) c.put_at.ensures.items

pub returns-else-len-lt-MOST : goal.returns-else-len-lt-MOST
returns-else-len-lt-MOST c =
    let n = lsp_number c.args.id in
    let test = c.if-len-lt-MOST.false in
    let len = c.len.ensures ∙ c.self.inside.ids.ok.0 in
    let gap = subst (λ (ids : List LspId). IsGap lsp_number ids n c.in-Err.place) c.deref.ensures.value c.in-Err.ensures in
    add-full c.self.inside.all c.self.inside.ids.items c.args.self.now n c.self.view_is c.in-Err.place c.if-self.false gap (omega (arith, test, len))
