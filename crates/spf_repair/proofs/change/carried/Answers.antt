use Rattle.std.proofs.Common.{◌≡◌, ◌∙◌, ℕ, List, ap, map, sym, subst}
use Rattle.std.specs.List.{Contains}
use Rattle.spf_tree.specs.declared.label.Label.{Label}
use Rattle.spf_tree.specs.Labels.{at, carry, names}
use Rattle.spf_tree.proofs.LabelLemmas.{names_carry, carry_from, carry_into}
use Rattle.spf_repair.proofs.change.carried.Goals as goal

pub returns-in-Ok-clause-names : goal.returns-in-Ok-clause-names
returns-in-Ok-clause-names c =
    let nodes = c.args.indexed.now.nodes in
    let is = c.in-Ok.ensures ∙ ap (λ (ns : List ℕ). map (carry c.args.old.now c.args.marks.now) ns) c.nodes.ensures in
    ap names is ∙ names_carry c.args.old.now c.args.marks.now nodes

pub returns-in-Ok-clause-from : goal.returns-in-Ok-clause-from
returns-in-Ok-clause-from c =
    let nodes = c.args.indexed.now.nodes in
    let is = c.in-Ok.ensures ∙ ap (λ (ns : List ℕ). map (carry c.args.old.now c.args.marks.now) ns) c.nodes.ensures in
    λ n v e. carry_from c.args.old.now c.args.marks.now nodes n v (sym (ap (λ (l : List Label). at l n) is) ∙ e)

pub returns-in-Ok-clause-into : goal.returns-in-Ok-clause-into
returns-in-Ok-clause-into c =
    let nodes = c.args.indexed.now.nodes in
    let is = c.in-Ok.ensures ∙ ap (λ (ns : List ℕ). map (carry c.args.old.now c.args.marks.now) ns) c.nodes.ensures in
    let same : names c.in-Ok.labels ≡ nodes = ap names is ∙ names_carry c.args.old.now c.args.marks.now nodes in
    λ n h free. ap (λ (l : List Label). at l n) is ∙ carry_into c.args.old.now c.args.marks.now nodes n (subst (λ (ns : List ℕ). Contains ns n) same h) free
