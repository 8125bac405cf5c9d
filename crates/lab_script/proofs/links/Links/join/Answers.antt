use Rattle.std.proofs.Common.{◌≡◌, ◌∙◌, List, ℕ, Option, Some, None, refl, ap}
use Rattle.std.specs.Prelude.{is_some}
use Rattle.std.specs.Option.{option_copied}
use Rattle.std.specs.Borrow.{Bor}
use Rattle.lab_keys.specs.KeysNet.{ordered}
use Rattle.lab_script.specs.Links.{has_link}
use Rattle.lab_script.proofs.links.Links.join.Goals as goal

copied : {X : Type 0} (o : Option (Bor X)) → is_some o ≡ is_some (option_copied o)
copied None = refl
copied (Some x) = refl

pub returns : goal.returns
returns c =
    c.is_some.ensures ∙ copied c.get.result ∙ ap is_some c.get.ensures.value ∙ c.self.invariant.finds c.ordered.result
    ∙ ap (λ (ends : ℕ × ℕ). has_link c.self.inside.list.items ends) c.ordered.ensures
    ∙ ap (λ (links : List (ℕ × ℕ)). has_link links (ordered c.args.a c.args.b)) c.self.view_is
