-- What is looked up is the longest prefix that has the address.
use Rattle.std.proofs.Common.{◌≡◌, ◌⊎◌, ℕ, zero, suc, ◌≤◌, Bool, true, false, nat_lt, List, [], ◌∷◌, if◌then◌else◌, Option, Some, None, inl, inr, refl, sym, ap, ◌∙◌, subst, arith}
use Rattle.std.specs.Prelude.{MatchOption}
use Rattle.std.specs.List.{Contains}
use Rattle.std.proofs.lemmas.Bool.{eqb-true, eq-eqb, ltb-true, ltb-false}
use Rattle.std.proofs.lemmas.List.Elements.{Contains-append_right}
use Rattle.isis_base.specs.declared.prefix.Prefix.{Prefix}
use Rattle.route_table.specs.declared.route.Route.{Route}
use Rattle.route_table.specs.Routes.{AreRising}
use Rattle.route_table.specs.Lookups.{Has, HasNone, IsLongest}
use Rattle.packet_trace.specs.Steps.{has_address, longer, looked_up, IsLookedUp}

differ : false ≡ true → ⊥
differ e = cc

has-is : (p : Prefix) (a : ℕ) → has_address p a ≡ true → Has p a
has-is p a e = eqb-true _ _ e

has-not : (p : Prefix) (a : ℕ) → has_address p a ≡ false → Has p a → ⊥
has-not p a e h = differ (sym e ∙ eq-eqb _ _ h)

one-of : (r : Route) (rs : List Route) (x : Route) → Contains (r ∷ rs) x → (r ≡ x) ⊎ Contains rs x
one-of r rs x (zero, low, is) = inl is
one-of r rs x (suc k, low, is) = inr (k, omega (arith, low), is)

later : (r : Route) (rs : List Route) (x : Route) → Contains rs x → Contains (r ∷ rs) x
later r rs x h = Contains-append_right (r ∷ []) rs x h

-- a route more, which hasn't the address
skipped : (r : Route) (rs : List Route) (a : ℕ) (o : Option Route) → (Has r.prefix a → ⊥) → IsLookedUp rs a o → IsLookedUp (r ∷ rs) a o
skipped r rs a None none rest = λ x h has.
    elim (one-of r rs x h) [
      | inl e ↦ none (subst (λ (y : Route). Has y.prefix a) (sym e) has)
      | inr m ↦ rest x m has
    ]
skipped r rs a (Some w) none rest = record {
  listed = later r rs w rest.listed;
  has = rest.has;
  longest = λ x h has.
      elim (one-of r rs x h) [
        | inl e ↦ absurd (none (subst (λ (y : Route). Has y.prefix a) (sym e) has))
        | inr m ↦ rest.longest x m has
      ];
}

-- a route more, which has it
joined : (r : Route) (rs : List Route) (a : ℕ) (o : Option Route) → Has r.prefix a → IsLookedUp rs a o → IsLookedUp (r ∷ rs) a (longer r o)
joined r rs a None here rest = record {
  listed = (0, omega arith, refl);
  has = here;
  longest = λ x h has.
      elim (one-of r rs x h) [
        | inl e ↦ subst (λ (y : Route). y.prefix.length ≤ r.prefix.length) e (omega arith)
        | inr m ↦ absurd (rest x m has)
      ];
}
joined r rs a (Some w) here rest = by (nat_lt r.prefix.length w.prefix.length) refl
  where
    by : (t : Bool) → nat_lt r.prefix.length w.prefix.length ≡ t → IsLookedUp (r ∷ rs) a (if t then Some w else Some r)
    by true k =
        let less = ltb-true r.prefix.length w.prefix.length k in
        record {
          listed = later r rs w rest.listed;
          has = rest.has;
          longest = λ x h has.
              elim (one-of r rs x h) [
                | inl e ↦ subst (λ (y : Route). y.prefix.length ≤ w.prefix.length) e (omega (arith, less))
                | inr m ↦ rest.longest x m has
              ];
        }
    by false k =
        let no_less = ltb-false r.prefix.length w.prefix.length k in
        record {
          listed = (0, omega arith, refl);
          has = here;
          longest = λ x h has.
              elim (one-of r rs x h) [
                | inl e ↦ subst (λ (y : Route). y.prefix.length ≤ r.prefix.length) e (omega arith)
                | inr m ↦ (let l = rest.longest x m has in omega (arith, l, no_less))
              ];
        }

pub looked : (routes : List Route) (address : ℕ) → IsLookedUp routes address (looked_up routes address)
looked [] a = λ x h has. absurd (let l = h.1 in omega (arith, l))
looked (r ∷ rs) a = by (has_address r.prefix a) refl (looked rs a)
  where
    by : (t : Bool) → has_address r.prefix a ≡ t → IsLookedUp rs a (looked_up rs a) → IsLookedUp (r ∷ rs) a (if t then longer r (looked_up rs a) else looked_up rs a)
    by true e rest = joined r rs a (looked_up rs a) (has-is r.prefix a e) rest
    by false e rest = skipped r rs a (looked_up rs a) (has-not r.prefix a e) rest

-- nothing else is
pub only : (one : (routes : List Route) (address : ℕ) (a b : Route) → AreRising routes → IsLongest routes address a → IsLongest routes address b → a ≡ b)
    → (routes : List Route) (address : ℕ) → AreRising routes → (o : Option Route) → IsLookedUp routes address o → looked_up routes address ≡ o
only one routes address rising o is = by (looked_up routes address) o (looked routes address) is
  where
    by : (a b : Option Route) → IsLookedUp routes address a → IsLookedUp routes address b → a ≡ b
    by None None p q = refl
    by None (Some y) p q = absurd (p y q.listed q.has)
    by (Some x) None p q = absurd (q x p.listed p.has)
    by (Some x) (Some y) p q = ap Some (one routes address x y rising p q)

-- what a look-up answers, by reference
pub found : {X : Type 0} (p : Option X) (f : X → Route) (one : (routes : List Route) (address : ℕ) (a b : Route) → AreRising routes → IsLongest routes address a → IsLongest routes address b → a ≡ b)
    → (routes : List Route) (address : ℕ) → AreRising routes → MatchOption p (HasNone routes address) (λ x. IsLongest routes address (f x))
    → MatchOption p (looked_up routes address ≡ None) (λ x. looked_up routes address ≡ Some (f x))
found None f one routes address rising none = only one routes address rising None none
found (Some x) f one routes address rising longest = only one routes address rising (Some (f x)) longest
