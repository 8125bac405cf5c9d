use Rattle.std.proofs.Common.{◌∙◌, List, ap, sym}
use Rattle.std.specs.Option.{is_some}
use Rattle.spf_tree.specs.declared.label.Label.{Label}
use Rattle.spf_tree.specs.Labels.{at, names}
use Rattle.spf_tree.proofs.LabelLemmas.{names_carry, carry_from, carry_into}
use Rattle.spf_tree.proofs.distances.Distances.of_nodes.Goals as goal

pub returns-in-Ok-carried-clause-names : goal.returns-in-Ok-carried-clause-names
returns-in-Ok-carried-clause-names c = ap names c.in-Ok-carried.ensures ∙ names_carry c.labels-labels.result.now c.in-Ok.marks c.args.nodes.now

pub returns-in-Ok-carried-clause-from : goal.returns-in-Ok-carried-clause-from
returns-in-Ok-carried-clause-from c = λ n k e.
    let old = carry_from c.labels-labels.result.now c.in-Ok.marks c.args.nodes.now n k (sym (ap (λ (ls : List Label). at ls n) c.in-Ok-carried.ensures) ∙ e) in
    sym (c.labels-labels.ensures n) ∙ old.0

pub returns-in-Ok-carried-clause-into : goal.returns-in-Ok-carried-clause-into
returns-in-Ok-carried-clause-into c = λ n h.
    ap (λ (ls : List Label). at ls n) c.in-Ok-carried.ensures ∙ carry_into c.labels-labels.result.now c.in-Ok.marks c.args.nodes.now n h (ap is_some (c.in-Ok.ensures.none n)) ∙ c.labels-labels.ensures n
