use Rattle.std.proofs.Common.{◌≡◌, ◌∙◌, List, ℕ, ap, map}
use Rattle.std.proofs.lemmas.List.{take_all}
use Rattle.spf_tree.specs.Labels.{carry, names}
use Rattle.spf_tree.proofs.LabelLemmas.{names_carry, rising_by}
use Rattle.spf_tree.proofs.labels.Labels.carried.Goals as goal

pub invariant_of-result : goal.invariant_of-result
invariant_of-result c =
    let is : c.loop-place.items.items ≡ map (carry c.args.old.now c.args.marks.now) c.args.nodes.now =
    c.loop-place.invariant.items ∙ ap (λ (ns : List ℕ). map (carry c.args.old.now c.args.marks.now) ns) (take_all c.loop-place.place c.args.nodes.now c.loop-place-test.false) in
    rising_by c.args.nodes.now c.loop-place.items.items c.requires.rising (ap names is ∙ names_carry c.args.old.now c.args.marks.now c.args.nodes.now)
