use Rattle.std.proofs.Common.{◌≡◌, ◌∙◌, List, ap, map, take}
use Rattle.std.proofs.lemmas.List.{take_all}
use Rattle.spf_tree.specs.declared.label.Label.{Label}
use Rattle.spf_tree.specs.Labels.{at}
use Rattle.spf_tree.specs.Labels.{names, unknown}
use Rattle.spf_tree.proofs.LabelLemmas.{names_unknown, at_unknown, rising_names}
use Rattle.spf_tree.proofs.labels.Labels.blank.Goals as goal

pub invariant_of-result : goal.invariant_of-result
invariant_of-result c =
    let all = take_all c.loop-label.label-index c.as_slice-label-items.result.now c.loop-label-test.false in
    let is : c.loop-label.items.items ≡ map unknown (names c.self.inside.items.items) =
    c.loop-label.invariant ∙ ap (λ (ls : List Label). map unknown (names ls)) (all ∙ c.as_slice-label-items.ensures.value) in
    rising_names c.self.inside.items.items c.loop-label.items.items (ap names is ∙ names_unknown (names c.self.inside.items.items)) c.self.invariant

pub returns-clause-names : goal.returns-clause-names
returns-clause-names c =
    let all = take_all c.loop-label.label-index c.as_slice-label-items.result.now c.loop-label-test.false in
    let is : c.loop-label.items.items ≡ map unknown (names c.args.self.now) =
    c.loop-label.invariant ∙ ap (λ (ls : List Label). map unknown (names ls)) (all ∙ c.as_slice-label-items.ensures.value ∙ c.self.view_is) in
    ap names is ∙ names_unknown (names c.args.self.now)

pub returns-clause-none : goal.returns-clause-none
returns-clause-none c =
    λ q. ap (λ (ls : List Label). at ls q) c.loop-label.invariant ∙ at_unknown (names (take c.loop-label.label-index c.as_slice-label-items.result.now)) q
