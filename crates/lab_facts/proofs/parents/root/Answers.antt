use Rattle.std.proofs.Common.{◌≡◌, ◌<◌, ◌≤◌, ℕ, List, length, get_or, ◌∙◌, arith}
use Rattle.lab_facts.specs.Parents.{HaveRoots}
use Rattle.lab_facts.proofs.ParentLemmas.{parents-set, roots-set}
use Rattle.lab_facts.proofs.parents.root.Goals as goal

-- the way goes on at the parent's parent
pub loop-parents-preserved : goal.loop-parents-preserved
loop-parents-preserved c =
    let ps = c.loop-parents.parents in
    let here = c.loop-parents.here in
    let i = c.loop-parents.invariant in
    let up : get_or ps here 0 ≤ here = i.parents.below here i.here in
    let in_up : get_or ps here 0 < length c.args.parents.now = omega (arith, up, i.here) in
    let upper : get_or ps (get_or ps here 0) 0 ≤ get_or ps here 0 = i.parents.below (get_or ps here 0) in_up in
    let moved : (roots : List ℕ) → HaveRoots c.args.parents.now roots (length c.args.parents.now) → get_or roots (get_or ps (get_or ps here 0) 0) 0 ≡ get_or roots here 0 = λ roots h. (i.roots roots h).same (get_or ps here 0) in_up ∙ (i.roots roots h).same here i.here in
    record {
      here = omega (arith, upper, in_up);
      parents = parents-set ps _ here _ i.parents i.here (omega (arith, up, upper));
      root = λ roots h. moved roots h ∙ i.root roots h;
      roots = λ roots h. roots-set ps roots _ here _ i.parents (i.roots roots h) i.here (moved roots h) (λ e. (i.roots roots h).own here i.here (omega (arith, up, upper, e)));
    }
