use Rattle.std.proofs.Common.{None, List, ◌∙◌, sym, ap, subst, arith}
use Rattle.spf_tree.specs.declared.label.Label.{Label}
use Rattle.spf_tree.specs.Labels.{at, IsRising, IsPlace}
use Rattle.spf_tree.proofs.LabelLemmas.{at_place, none_at}
use Rattle.spf_tree.proofs.labels.Labels.get_at.Goals as goal

pub returns-then-place-labels : goal.returns-then-place-labels
returns-then-place-labels c =
    let e = c.as_slice-labels.ensures.value in
    let rising : IsRising c.as_slice-labels.result.now = subst (λ (l : List Label). IsRising l) (sym e) c.self.invariant in
    let is : IsPlace c.as_slice-labels.result.now c.args.place c.args.node = subst (λ (l : List Label). IsPlace l c.args.place c.args.node) (sym (e ∙ c.self.view_is)) c.requires in
    let end = c.if-place-labels.true in
    sym (none_at c.as_slice-labels.result.now c.args.place c.args.node (record { node = 0; cost = None }) is.below is.above rising (λ h. absurd (omega arith)))
    ∙ ap (λ (l : List Label). at l c.args.node) (e ∙ c.self.view_is)

pub returns-then-labels-place : goal.returns-then-labels-place
returns-then-labels-place c =
    let e = c.as_slice-labels.ensures.value in
    let rising : IsRising c.as_slice-labels.result.now = subst (λ (l : List Label). IsRising l) (sym e) c.self.invariant in
    let is : IsPlace c.as_slice-labels.result.now c.args.place c.args.node = subst (λ (l : List Label). IsPlace l c.args.place c.args.node) (sym (e ∙ c.self.view_is)) c.requires in
    sym (none_at c.as_slice-labels.result.now c.args.place c.args.node (record { node = 0; cost = None }) is.below is.above rising (λ h. c.if-labels-place.true))
    ∙ ap (λ (l : List Label). at l c.args.node) (e ∙ c.self.view_is)

pub returns : goal.returns
returns c =
    let is : IsPlace c.as_slice-labels.result.now c.args.place c.args.node = subst (λ (l : List Label). IsPlace l c.args.place c.args.node) (sym (c.as_slice-labels.ensures.value ∙ c.self.view_is)) c.requires in
    sym (at_place c.as_slice-labels.result.now c.args.place c.args.node _ (omega arith) is.below c.if-labels-place.false)
    ∙ ap (λ (l : List Label). at l c.args.node) (c.as_slice-labels.ensures.value ∙ c.self.view_is)
