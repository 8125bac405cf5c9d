use Rattle.std.proofs.Common.{◌≡◌, ◌∙◌, ℕ, List, subst, sym}
use Rattle.std.specs.List.{Contains}
use Rattle.spf_tree.proofs.table.HopTable.apart.Goals as goal

pub returns-in-Ok-add_lacking : goal.returns-in-Ok-add_lacking
returns-in-Ok-add_lacking c = λ target hop none.
    let pair : ℕ × ℕ = (target, hop) in
    let old : c.as_slice-old.result.now ≡ c.args.self.now = c.as_slice-old.ensures.value ∙ c.self.view_is in
    let new : c.as_slice-new.result.now ≡ c.args.other.now = c.as_slice-new.ensures.value ∙ c.other.view_is in
    let has : List (ℕ × ℕ) → Type 0 = λ xs. Contains xs pair in (
      (λ h. subst has new (c.in-Ok.ensures.lacking pair (subst has (sym old) h) (λ there. none (c.in-Ok-add_lacking.ensures.kept target there)))),
      (λ h. subst has old (c.in-Ok-add_lacking.ensures.lacking pair (subst has (sym new) h) none)),
    )
