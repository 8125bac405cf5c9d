-- Routers as packets meet them, one after another.
use Rattle.std.proofs.Common.{◌≡◌, ◌∙◌, ℕ, zero, suc, List, [], ◌∷◌, ◌++◌, length, take, Some, refl, sym, ap, subst}
use Rattle.isis_base.specs.declared.identifiers.SystemId.{SystemId}
use Rattle.model_router.specs.Numbers.{system_id, system_number}
use Rattle.model_router.specs.Places.{nth}
use Rattle.model_router.specs.Routers.{Router}
use Rattle.router_routes.specs.Outlooks.{outlook_of}
use Rattle.packet_trace.specs.declared.forwarder.Forwarder.{Forwarder}
use Rattle.trace_text.specs.Forwarders.{IsForwarder, AreForwarders}

some-same : {A : Type 0} (a b : A) → Some a ≡ Some b → a ≡ b
some-same a b e = cc

-- one router more
pub one-more : (rs : List Router) (place : ℕ) (r : Router) (fs : List Forwarder) (f : Forwarder) → AreForwarders (take place rs) fs → nth rs place ≡ Some r → IsForwarder r f → AreForwarders (take (suc place) rs) (fs ++ (f ∷ []))
one-more [] place r fs f are at is = absurd (cc)
one-more (x ∷ rs) zero r [] f are at is = (subst (λ (y : Router). IsForwarder y f) (sym (some-same x r at)) is, tt)
one-more (x ∷ rs) zero r (y ∷ fs) f are at is = absurd are
one-more (x ∷ rs) (suc place) r [] f are at is = absurd are
one-more (x ∷ rs) (suc place) r (y ∷ fs) f are at is = (are.0, one-more rs place r fs f are.1 at is)

-- all of them
pub all-of : (rs : List Router) → take (length rs) rs ≡ rs
all-of [] = refl
all-of (r ∷ rs) = ap (λ (xs : List Router). r ∷ xs) (all-of rs)

pub as-many : (rs : List Router) (fs : List Forwarder) → AreForwarders rs fs → length rs ≡ length fs
as-many [] [] are = refl
as-many [] (f ∷ fs) are = absurd are
as-many (r ∷ rs) [] are = absurd are
as-many (r ∷ rs) (f ∷ fs) are = ap suc (as-many rs fs are.1)

-- a router's system is its root's
pub root-system : (r : Router) (system : SystemId) → system_number system ≡ r.config.system → system_id (system_number system) ≡ system → system ≡ (outlook_of r).root.system
unfolding outlook_of
root-system r system e f = sym f ∙ ap system_id e
