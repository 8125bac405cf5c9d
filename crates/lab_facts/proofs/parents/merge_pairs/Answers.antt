use Rattle.std.proofs.Common.{◌≡◌, ℕ, ◌<◌, List, length, sym, subst}
use Rattle.std.proofs.lemmas.List.{take_all}
use Rattle.lab_facts.specs.Parents.{HaveRoots, AreRooted}
use Rattle.lab_facts.proofs.LabelLemmas.{rooted-flat}
use Rattle.lab_facts.proofs.parents.merge_pairs.Goals as goal

pub returns-clause-labels : goal.returns-clause-labels
returns-clause-labels c =
    let size = c.loop-place.invariant.parents.size in
    rooted-flat c.args.runs.now c.args.pairs.now c.loop-place.parents c.flatten.new.parents
    (subst (λ (ps : List (ℕ × ℕ)). AreRooted c.args.runs.now ps c.loop-place.parents) (take_all c.loop-place.place c.args.pairs.now c.loop-place-test.false) c.loop-place.invariant.roots)
    (subst (λ (n : ℕ). length c.flatten.new.parents ≡ n) size c.flatten.ensures.size)
    (λ roots r h within. c.flatten.ensures.roots roots r (subst (λ (n : ℕ). HaveRoots c.loop-place.parents roots n) (sym size) h) (subst (λ (n : ℕ). r < n) (sym size) within))
