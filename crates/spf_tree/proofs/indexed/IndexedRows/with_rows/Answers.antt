use Rattle.std.proofs.Common.{◌≡◌, ◌∙◌, ap, List, ℕ, subst, sym}
use Rattle.std.specs.List.{Contains}
use Rattle.std.specs.List.Sorted.{IsStrictlyIncreasing}
use Rattle.spf_tree.specs.Walks.{end}
use Rattle.spf_tree.specs.Places.{IndexedOf}
use Rattle.spf_tree.proofs.indexed.IndexedRows.with_rows.Goals as goal

pub index-requires-clause-kept : goal.index-requires-clause-kept
index-requires-clause-kept c =
    let same : c.in-Ok.nodes.items ≡ c.self.inside.nodes.items = c.in-Ok.ensures.items ∙ c.as_slice.ensures.value in
    record {
      sorted = c.requires.sorted;
      bounded = c.requires.bounded;
      rising = subst (λ (ns : List ℕ). IsStrictlyIncreasing ns) (sym same) c.self.invariant.kept.rising;
      ends = λ row h. subst (λ (ns : List ℕ). Contains ns (end row)) (sym (same ∙ ap (λ (i : IndexedOf). i.nodes) c.self.view_is)) (c.requires.ends row h);
    }
