-- What follows a router where it keeps its routes, once what comes is put in.
use Rattle.std.specs.Prelude.{MatchOption}
use Rattle.std.proofs.Common.{◌≡◌, Bor, Option, None, Some, is_some, option_copied, IfSome, sym, ap, subst}
use Rattle.router_routes.specs.declared.coming.Coming.{Coming}
use Rattle.router_routes.specs.Coming.{FitsIn, IsComing}
use Rattle.router_routes.specs.Following.{FollowingOf, IsFollowing}
use Rattle.router_routes.specs.Outlooks.{Outlook}
use Rattle.router_core.specs.Keeping.{AreCounted, IsPutIn}
use Rattle.router_core.proofs.CountLemmas.{counts-next}
use Rattle.router_core.proofs.MovedLemmas.{follows-next, next-fits}

-- what is lent is what is kept
pub lent-all : {T : Type 0} (P : T → Type 0) (lent : Option (Bor T)) (kept : Option T) → option_copied lent ≡ kept → IfSome kept P → IfSome lent (λ f. P f.now)
lent-all P None kept is all = tt
lent-all {T} P (Some f) kept is all = subst (λ (o : Option T). IfSome o P) (sym is) all

pub lent-some : {T : Type 0} (lent : Option (Bor T)) (kept : Option T) → option_copied lent ≡ kept → is_some lent ≡ is_some kept
lent-some None kept is = ap is_some is
lent-some (Some f) kept is = ap is_some is

some-same : {T : Type 0} (a b : T) → ◌≡◌ {A = Option T} (Some a) (Some b) → a ≡ b
some-same a b e = cc

-- what comes of what is kept, where anything is
abbrev pub Comes : Outlook → Option Coming → Option FollowingOf → Type 0
Comes o next old = IfSome old (λ f. MatchOption next (IsFollowing o f) (λ c. IsComing o f c))

abbrev pub IsNextIn : Option FollowingOf → Option Coming → Option FollowingOf → Type 0
IsNextIn old next new = MatchOption next (new ≡ old) (λ c. IsPutIn old c new)

pub kept-follows : (o : Outlook) (next : Option Coming) (old new : Option FollowingOf) → Comes o next old → IsNextIn old next new → IfSome new (IsFollowing o)
kept-follows o next old None comes is = tt
kept-follows o None None (Some new) comes is = absurd (cc)
kept-follows o (Some c) None (Some new) comes is = absurd (cc)
kept-follows o None (Some old) (Some new) comes is = follows-next o None old new comes (some-same new old is)
kept-follows o (Some c) (Some old) (Some new) comes is = follows-next o (Some c) old new comes is

pub kept-fits : (o : Outlook) (next : Option Coming) (old : Option FollowingOf) → Comes o next old → IfSome next (λ c. IfSome old (λ f. FitsIn f c))
kept-fits o None old comes = tt
kept-fits o (Some c) None comes = tt
kept-fits o (Some c) (Some old) comes = next-fits o (Some c) old comes

pub kept-counts : (o : Outlook) (next : Option Coming) (old new : Option FollowingOf) → Comes o next old → IsNextIn old next new → AreCounted old new
kept-counts o None None new comes is = is
kept-counts o (Some c) None new comes is = is
kept-counts o None (Some old) None comes is = absurd (cc)
kept-counts o (Some c) (Some old) None comes is = is
kept-counts o None (Some old) (Some new) comes is = counts-next o None old new comes (some-same new old is)
kept-counts o (Some c) (Some old) (Some new) comes is = counts-next o (Some c) old new comes is
