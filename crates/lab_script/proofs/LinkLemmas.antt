-- A link more, and what finds it.
use Rattle.std.proofs.Common.{◌≡◌, ◌∙◌, ℕ, Bool, true, false, cond, List, [], ◌∷◌, ◌++◌, Option, Some, refl, ap}
use Rattle.std.specs.Prelude.{◌==◌, ◌&&◌, ◌||◌, is_some}
use Rattle.lab_script.specs.Links.{has_link}

last : (t : Bool) → (t || false) ≡ cond t true false
last true = refl
last false = refl

swapped : (t n h : Bool) → (t || cond n true h) ≡ cond n true (t || h)
swapped true true h = refl
swapped true false h = refl
swapped false true h = refl
swapped false false h = refl

pub has_link-push : (links : List (ℕ × ℕ)) (link ends : ℕ × ℕ) → has_link (links ++ link ∷ []) ends ≡ cond (link.0 == ends.0 && link.1 == ends.1) true (has_link links ends)
has_link-push [] link ends = last (link.0 == ends.0 && link.1 == ends.1)
has_link-push (c ∷ links) link ends =
    ap (λ (h : Bool). (c.0 == ends.0 && c.1 == ends.1) || h) (has_link-push links link ends)
    ∙ swapped (c.0 == ends.0 && c.1 == ends.1) (link.0 == ends.0 && link.1 == ends.1) (has_link links ends)

pub is_some-cond : {X : Type 0} (t : Bool) (x : X) (o : Option X) → is_some (cond t (Some x) o) ≡ cond t true (is_some o)
is_some-cond true x o = refl
is_some-cond false x o = refl
