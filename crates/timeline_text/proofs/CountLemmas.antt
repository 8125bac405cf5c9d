-- Routers counted one after another.
use Rattle.std.proofs.Common.{◌≡◌, ℕ, zero, suc, ◌+◌, ◌≤◌, ◌⊎◌, ⊎_elim, inl, inr, Bool, true, false, List, [], ◌∷◌, ◌++◌, length, Option, Some, refl, sym, ap, ◌∙◌, subst, arith}
use Rattle.model_router.specs.Places.{nth}
use Rattle.model_network.specs.RunLines.{is_excepted}
use Rattle.trace_core.specs.declared.outcomes.Outcomes.{Outcomes}
use Rattle.trace_core.specs.Whichever.{AreOutcomes}
use Rattle.packet_trace.specs.declared.forwarder.Forwarder.{Forwarder}
use Rattle.packet_trace.specs.Steps.{steps_at}
use Rattle.timeline_text.specs.declared.fates.Counts.{Counts}
use Rattle.timeline_text.specs.Fates.{steps_where, only_arrives, may_loop, may_be_lost, one_of, count_from, with_fate, AreCounted}

some-same : {A : Type 0} (a b : A) → Some a ≡ Some b → a ≡ b
some-same a b e = cc

-- the first so many routers are counted
pub record IsCountedSo (forwarders : List Forwarder) (address : ℕ) (except : Option ℕ) (many : ℕ) (counts : Counts) : Type 0 where
  pub outcomes : List Outcomes
  pub many_are : length outcomes ≡ many
  pub are : (place : ℕ) (o : Outcomes) → nth outcomes place ≡ Some o → AreOutcomes (steps_where except (steps_at forwarders address)) place o
  pub arrive : counts.arrive ≡ count_from only_arrives except 0 outcomes
  pub loops : counts.loops ≡ count_from may_loop except 0 outcomes
  pub lost : counts.lost ≡ count_from may_be_lost except 0 outcomes

one-few : (is excepted : Bool) → one_of is excepted ≤ 1
one-few true true = omega arith
one-few true false = omega arith
one-few false true = omega arith
one-few false false = omega arith

pub count-few : (is : Outcomes → Bool) (except : Option ℕ) (place : ℕ) (os : List Outcomes) → count_from is except place os ≤ length os
count-few is except place [] = omega arith
count-few is except place (o ∷ os) =
    let rest = count-few is except (place + 1) os in
    let one = one-few (is o) (is_excepted except place) in
    omega (arith, rest, one)

pub count-more : (is : Outcomes → Bool) (except : Option ℕ) (place : ℕ) (os : List Outcomes) (o : Outcomes) → count_from is except place (os ++ (o ∷ [])) ≡ count_from is except place os + one_of (is o) (is_excepted except (place + length os))
count-more is except place [] o =
    let same : place ≡ place + 0 = omega arith in
    let last = ap (λ (p : ℕ). one_of (is o) (is_excepted except p)) same in
    omega (arith, last)
count-more is except place (x ∷ os) o =
    let rest = count-more is except (place + 1) os o in
    let same : place + 1 + length os ≡ place + length (x ∷ os) = omega arith in
    let last = ap (λ (p : ℕ). one_of (is o) (is_excepted except p)) same in
    omega (arith, rest, last)

-- what is found behind one more is that, or was found before
nth-more : (os : List Outcomes) (o : Outcomes) (p : ℕ) (x : Outcomes) → nth (os ++ (o ∷ [])) p ≡ Some x → (nth os p ≡ Some x) ⊎ ((length os ≡ p) × (o ≡ x))
nth-more [] o zero x e = inr (refl, some-same o x e)
nth-more [] o (suc p) x e = absurd (cc)
nth-more (y ∷ os) o zero x e = inl e
nth-more (y ∷ os) o (suc p) x e = ⊎_elim (λ (h : nth os p ≡ Some x). inl h) (λ (h : (length os ≡ p) × (o ≡ x)). inr (let same = h.0 in omega (arith, same), h.1)) (nth-more os o p x e)

length-more : (os : List Outcomes) (o : Outcomes) → length (os ++ (o ∷ [])) ≡ length os + 1
length-more [] o = refl
length-more (x ∷ os) o = let e = length-more os o in omega (arith, e)

pub none-counted : (forwarders : List Forwarder) (address : ℕ) (except : Option ℕ) → IsCountedSo forwarders address except 0 (record { arrive = 0; loops = 0; lost = 0 })
none-counted forwarders address except = record {
  outcomes = [];
  many_are = refl;
  are = λ place o e. absurd (cc);
  arrive = refl;
  loops = refl;
  lost = refl;
}

pub one-more : (forwarders : List Forwarder) (address : ℕ) (except : Option ℕ) (many : ℕ) (counts : Counts) (o : Outcomes) → IsCountedSo forwarders address except many counts → AreOutcomes (steps_where except (steps_at forwarders address)) many o
    → IsCountedSo forwarders address except (many + 1) (with_fate counts (is_excepted except many) o)
one-more forwarders address except many counts o c is = record {
  outcomes = c.outcomes ++ (o ∷ []);
  many_are = length-more c.outcomes o ∙ ap (λ (n : ℕ). n + 1) c.many_are;
  are = λ place x e. ⊎_elim (λ (h : nth c.outcomes place ≡ Some x). c.are place x h) (last place x) (nth-more c.outcomes o place x e);
  arrive = counted only_arrives counts.arrive c.arrive;
  loops = counted may_loop counts.loops c.loops;
  lost = counted may_be_lost counts.lost c.lost;
}
  where
    last : (place : ℕ) (x : Outcomes) → (length c.outcomes ≡ place) × (o ≡ x) → AreOutcomes (steps_where except (steps_at forwarders address)) place x
    last place x h =
        subst (λ (z : Outcomes). AreOutcomes (steps_where except (steps_at forwarders address)) place z) h.1
        (subst (λ (n : ℕ). AreOutcomes (steps_where except (steps_at forwarders address)) n o) (sym c.many_are ∙ h.0) is)

    counted : (test : Outcomes → Bool) (n : ℕ) → n ≡ count_from test except 0 c.outcomes → n + one_of (test o) (is_excepted except many) ≡ count_from test except 0 (c.outcomes ++ (o ∷ []))
    counted test n e =
        let m = c.many_are in
        let all = count-more test except 0 c.outcomes o in
        let same : 0 + length c.outcomes ≡ many = omega (arith, m) in
        let this = ap (λ (p : ℕ). one_of (test o) (is_excepted except p)) same in
        omega (arith, e, all, this)

pub few : (forwarders : List Forwarder) (address : ℕ) (except : Option ℕ) (many : ℕ) (counts : Counts) → IsCountedSo forwarders address except many counts → (counts.arrive ≤ many) × (counts.loops ≤ many) × (counts.lost ≤ many)
few forwarders address except many counts c =
    let a = count-few only_arrives except 0 c.outcomes in
    let l = count-few may_loop except 0 c.outcomes in
    let d = count-few may_be_lost except 0 c.outcomes in
    let m = c.many_are in
    let x = c.arrive in
    let y = c.loops in
    let z = c.lost in
    (omega (arith, a, m, x), omega (arith, l, m, y), omega (arith, d, m, z))

pub all-counted : (forwarders : List Forwarder) (address : ℕ) (except : Option ℕ) (counts : Counts) → IsCountedSo forwarders address except (length forwarders) counts → AreCounted forwarders address except counts
all-counted forwarders address except counts c = record {
  outcomes = c.outcomes;
  outcomes_are = record { each_one = c.many_are; are = c.are };
  arrive = c.arrive;
  loops = c.loops;
  lost = c.lost;
}
