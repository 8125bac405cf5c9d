use Rattle.std.proofs.Common.{◌∙◌, ◌==◌, ◌&&◌, ◌∷◌, ◌++◌, [], List, ℕ, Bool, true, cond, sym, ap}
use Rattle.std.specs.Prelude.{is_some}
use Rattle.lab_script.specs.Links.{has_link}
use Rattle.lab_script.proofs.LinkLemmas.{has_link-push, is_some-cond}
use Rattle.lab_script.proofs.links.Links.add.Goals as goal

pub invariant_of-self-2 : goal.invariant_of-self-2
invariant_of-self-2 c = record {
  finds = λ ends.
      let new = c.ordered-ends.result in
      let list = c.push_reserved.ensures.items ∙ ap (λ (xs : _). xs ++ new ∷ []) c.reserve.ensures.items in
      ap is_some ((c.in_ok-insert.ensures.updates).0 ends)
      ∙ is_some-cond _ _ _
      ∙ ap (λ (h : Bool). cond (new.0 == ends.0 && new.1 == ends.1) true h) (c.self.invariant.finds ends)
      ∙ sym (has_link-push c.self.inside.list.items new ends)
      ∙ ap (λ (xs : List (ℕ × ℕ)). has_link xs ends) (sym list);
}
