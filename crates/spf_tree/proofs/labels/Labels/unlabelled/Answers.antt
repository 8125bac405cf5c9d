use Rattle.std.proofs.Common.{◌∙◌, List, ap, subst, sym}
use Rattle.spf_tree.specs.declared.label.Label.{Label}
use Rattle.spf_tree.specs.Labels.{at, names, IsRising}
use Rattle.spf_tree.proofs.LabelLemmas.{rising_unknown, names_unknown, at_unknown}
use Rattle.spf_tree.proofs.labels.Labels.unlabelled.Goals as goal

pub invariant_of-result : goal.invariant_of-result
invariant_of-result c = subst (λ (ls : List Label). IsRising ls) (sym c.in-Ok.ensures) (rising_unknown c.args.nodes.now c.requires)

pub returns-in-Ok-clause-names : goal.returns-in-Ok-clause-names
returns-in-Ok-clause-names c = ap names c.in-Ok.ensures ∙ names_unknown c.args.nodes.now

pub returns-in-Ok-clause-none : goal.returns-in-Ok-clause-none
returns-in-Ok-clause-none c = λ q. ap (λ (ls : List Label). at ls q) c.in-Ok.ensures ∙ at_unknown c.args.nodes.now q
