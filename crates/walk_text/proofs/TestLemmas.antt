-- What the tests of all routers find together.
use Rattle.std.proofs.Common.{◌≡◌, ℕ, false, List, Option, Some, None, sym, ap, ◌∙◌, subst}
use Rattle.std.specs.Prelude.{MatchOption}
use Rattle.model_router.specs.Places.{nth}
use Rattle.model_router.specs.Routers.{Router}
use Rattle.forward_views.specs.Looks.{Look}
use Rattle.walk_text.specs.Firsts.{AllHave, IsFirstWithout}
use Rattle.walk_text.specs.Views.{view_of}
use Rattle.walk_text.specs.Tests.{AreLooks, IsAlone, HasView}
use Rattle.walk_text.proofs.LookLemmas.{look-at, router-is}

pub match-none : {A : Type 0} (P : Type 0) (Q : A → Type 0) (o : Option A) → MatchOption o P Q → o ≡ None → P
match-none P Q o m e = subst (λ (x : Option _). MatchOption x P Q) e m

pub match-some : {A : Type 0} (P : Type 0) (Q : A → Type 0) (o : Option A) (a : A) → MatchOption o P Q → o ≡ Some a → Q a
match-some P Q o a m e = subst (λ (x : Option _). MatchOption x P Q) e m

pub alone-all : (routers : List Router) (looks : List Look) → AreLooks routers looks → AllHave IsAlone looks → (i : ℕ) (r : Router) → nth routers i ≡ Some r → r.config.runs.two ≡ false
alone-all routers looks are alone i r at = let l = look-at routers looks are i r at in subst (λ (x : Router). x.config.runs.two ≡ false) l.2 (alone i l.0 l.1)

-- the first router's view is that of the router of number 0
pub view-first : (routers : List Router) (looks : List Look) → AreLooks routers looks → (r : Router) (n : ℕ) → nth routers 0 ≡ Some r → IsFirstWithout (λ (look : Look). view_of look.router ≡ view_of r) looks n → IsFirstWithout (HasView looks) looks n
view-first routers looks are r n at w = record {
  item = w.item;
  at = w.at;
  fails = λ has. (let l = look-at routers looks are 0 r at in w.fails (has l.0 l.1 ∙ ap view_of l.2));
  before = λ q look less e first e0. w.before q look less e ∙ ap view_of (sym (router-is routers looks are 0 first r e0 at));
}

pub view-all : (routers : List Router) (looks : List Look) → AreLooks routers looks → (r : Router) → nth routers 0 ≡ Some r → AllHave (λ (look : Look). view_of look.router ≡ view_of r) looks → AllHave (HasView looks) looks
view-all routers looks are r at all = λ q look e first e0. all q look e ∙ ap view_of (sym (router-is routers looks are 0 first r e0 at))
