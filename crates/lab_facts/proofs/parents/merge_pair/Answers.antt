use Rattle.std.proofs.Common.{ℕ, ◌<◌, sym, ◌∙◌, subst}
use Rattle.lab_facts.specs.Parents.{HaveRoots, merged}
use Rattle.lab_facts.proofs.LabelLemmas.{part-from, part-not, part-within, rooted-merge, rooted-skip}
use Rattle.lab_facts.proofs.parents.merge_pair.Goals as goal

pub returns-then-not-takes_part-clause-labels : goal.returns-then-not-takes_part-clause-labels
returns-then-not-takes_part-clause-labels c pairs r =
    rooted-skip c.args.runs.now pairs c.args.near c.args.far c.args.parents.now r
    (λ near far. part-not c.args.runs.now c.args.near (sym c.takes_part.ensures ∙ c.if-not-takes_part.true) near)

pub returns-then-not-takes_part-2-clause-labels : goal.returns-then-not-takes_part-2-clause-labels
returns-then-not-takes_part-2-clause-labels c pairs r =
    rooted-skip c.args.runs.now pairs c.args.near c.args.far c.args.parents.now r
    (λ near far. part-not c.args.runs.now c.args.far (sym c.takes_part-2.ensures ∙ c.if-not-takes_part-2.true) far)

pub merge-requires-clause-near : goal.merge-requires-clause-near
merge-requires-clause-near c =
    subst (λ (n : ℕ). c.args.near < n) (sym c.requires.size)
    (part-within c.args.runs.now c.args.near (part-from c.args.runs.now c.args.near (sym c.takes_part.ensures ∙ c.if-not-takes_part.false)))

pub merge-requires-clause-far : goal.merge-requires-clause-far
merge-requires-clause-far c =
    subst (λ (n : ℕ). c.args.far < n) (sym c.requires.size)
    (part-within c.args.runs.now c.args.far (part-from c.args.runs.now c.args.far (sym c.takes_part-2.ensures ∙ c.if-not-takes_part-2.false)))

pub returns-clause-labels : goal.returns-clause-labels
returns-clause-labels c pairs r =
    rooted-merge c.args.runs.now pairs c.args.near c.args.far c.args.parents.now c.merge.new.parents r
    (part-from c.args.runs.now c.args.near (sym c.takes_part.ensures ∙ c.if-not-takes_part.false))
    (part-from c.args.runs.now c.args.far (sym c.takes_part-2.ensures ∙ c.if-not-takes_part-2.false))
    (λ roots h. subst (λ (n : ℕ). HaveRoots c.merge.new.parents (merged roots c.args.near c.args.far) n) c.requires.size
    (c.merge.ensures.roots roots (subst (λ (n : ℕ). HaveRoots c.args.parents.now roots n) (sym c.requires.size) h)))
