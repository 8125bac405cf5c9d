use Rattle.std.proofs.Common.{◌≡◌, ℕ, length, sym, subst, arith}
use Rattle.lab_facts.specs.Parents.{AreParents, HaveRoots}
use Rattle.lab_facts.proofs.ParentLemmas.{merge-first, merge-second}
use Rattle.lab_facts.proofs.parents.merge.Goals as goal

pub returns-then-near-far-clause-roots : goal.returns-then-near-far-clause-roots
returns-then-near-far-clause-roots c roots h =
    let size : length c.root-near.new.parents ≡ length c.args.parents.now = c.root-near.ensures.parents.size in
    let first = c.root-near.ensures.roots roots h in
    let first-there = subst (λ (n : ℕ). HaveRoots c.root-near.new.parents roots n) (sym size) first in
    let second = c.root-far.ensures.roots roots first-there in
    merge-first c.root-far.new.parents roots (length c.args.parents.now) c.root-near.result c.root-far.result _ _
    (subst (λ (n : ℕ). AreParents c.root-far.new.parents n) size c.root-far.ensures.parents)
    (subst (λ (n : ℕ). HaveRoots c.root-far.new.parents roots n) size second)
    c.root-near.ensures.here
    (omega (arith, size, c.root-far.ensures.here))
    (c.root-near.ensures.root roots h)
    (c.root-far.ensures.root roots first-there)
    (first.own c.root-near.result c.root-near.ensures.here c.root-near.ensures.own)
    (second.own c.root-far.result c.root-far.ensures.here c.root-far.ensures.own)
    (omega (arith, c.if-near-far.true))

pub returns-else-near-far-clause-roots : goal.returns-else-near-far-clause-roots
returns-else-near-far-clause-roots c roots h =
    let size : length c.root-near.new.parents ≡ length c.args.parents.now = c.root-near.ensures.parents.size in
    let first = c.root-near.ensures.roots roots h in
    let first-there = subst (λ (n : ℕ). HaveRoots c.root-near.new.parents roots n) (sym size) first in
    let second = c.root-far.ensures.roots roots first-there in
    merge-second c.root-far.new.parents roots (length c.args.parents.now) c.root-near.result c.root-far.result _ _
    (subst (λ (n : ℕ). AreParents c.root-far.new.parents n) size c.root-far.ensures.parents)
    (subst (λ (n : ℕ). HaveRoots c.root-far.new.parents roots n) size second)
    c.root-near.ensures.here
    (omega (arith, size, c.root-far.ensures.here))
    (c.root-near.ensures.root roots h)
    (c.root-far.ensures.root roots first-there)
    (first.own c.root-near.result c.root-near.ensures.here c.root-near.ensures.own)
    (second.own c.root-far.result c.root-far.ensures.here c.root-far.ensures.own)
    c.if-near-far.false
