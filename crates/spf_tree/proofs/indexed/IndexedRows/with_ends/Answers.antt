use Rattle.std.proofs.Common.{ℕ, List, ◌∙◌, ap, sym, subst, inl, inr}
use Rattle.std.specs.List.{Contains}
use Rattle.spf_tree.specs.Walks.{end}
use Rattle.spf_tree.specs.Places.{IndexedOf}
use Rattle.spf_tree.proofs.indexed.IndexedRows.with_ends.Goals as goal

pub moved-requires-clause-all : goal.moved-requires-clause-all
moved-requires-clause-all c = λ node h.
    subst (λ (ns : List ℕ). Contains ns node) (sym c.deref-2.ensures.value)
    (c.in-Ok.ensures.nodes node (subst (λ (ns : List ℕ). Contains ns node) (c.deref-3.ensures.value ∙ sym c.deref.ensures.value) h))

pub index-requires-clause-kept : goal.index-requires-clause-kept
index-requires-clause-kept c =
    let nodes = sym (ap (λ (i : IndexedOf). i.nodes) c.self.view_is) ∙ sym c.deref.ensures.value in
    record {
      sorted = c.requires.sorted;
      bounded = c.requires.bounded;
      rising = c.in-Ok.ensures.rising;
      ends = λ row h.
          elim (c.requires.ends row h) [
            | inl was ↦ c.in-Ok.ensures.nodes (end row) (subst (λ (ns : List ℕ). Contains ns (end row)) nodes was)
            | inr new ↦ subst (λ (n : ℕ). Contains c.in-Ok.nodes.items n) new.2 (c.in-Ok.ensures.ends new.0 new.1)
          ];
    }
