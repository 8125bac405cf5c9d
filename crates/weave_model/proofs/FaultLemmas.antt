-- A journal has at most one first fault, and none where all is good.
use Rattle.std.proofs.Common.{◌≡◌, ℕ, zero, suc, ◌<◌, ◌⊎◌, inl, inr, true, false, List, [], ◌∷◌, take, Option, Some, None, refl, sym, ap, ◌∙◌, subst, arith}
use Rattle.model_router.specs.Places.{nth}
use Rattle.model_router.specs.Givens.{Given}
use Rattle.model_router.specs.Routers.{Router}
use Rattle.weave_model.specs.Entries.{Entry, next, replay}
use Rattle.weave_model.specs.Faults.{IsGood, AreGood, Fault, OfEvent, OfReply, IsFaulty, IsFirstFault}

same-entry : (x y : Entry) → Some x ≡ Some y → x ≡ y
same-entry x y e = ap (λ (o : Option Entry). of o) e
  where
    of : Option Entry → Entry
    of None = x
    of (Some z) = z

-- a good entry has neither fault
good-faultless : (given : Given) (r : Router) (e : Entry) (fault : Fault) → IsGood given r e → IsFaulty given r e fault → ⊥
good-faultless given r e OfEvent g f = contra (sym f ∙ g.fitting)
  where
    contra : false ≡ true → ⊥
    contra x = cc
good-faultless given r e OfReply g f = f.1 g.answered

-- and none has both
one-fault : (given : Given) (r : Router) (e : Entry) (fault second : Fault) → IsFaulty given r e fault → IsFaulty given r e second → fault ≡ second
one-fault given r e OfEvent OfEvent f g = refl
one-fault given r e OfReply OfReply f g = refl
one-fault given r e OfEvent OfReply f g = absurd (contra (sym f ∙ g.0))
  where
    contra : false ≡ true → ⊥
    contra x = cc
one-fault given r e OfReply OfEvent f g = absurd (contra (sym g ∙ f.0))
  where
    contra : false ≡ true → ⊥
    contra x = cc

-- each entry of a good journal is good where it stands
good-at : (given : Given) (r : Router) (es : List Entry) (before : ℕ) (e : Entry) → AreGood given r es → nth es before ≡ Some e → IsGood given (replay given r (take before es)) e
good-at given r [] before e g at = absurd (cc)
good-at given r (x ∷ es) zero e g at = subst (λ (y : Entry). IsGood given r y) (same-entry x e at) g.0
good-at given r (x ∷ es) (suc before) e g at = good-at given (next given r x.deed) es before e g.1 at

-- and so is each before a first fault
good-before : (given : Given) (r : Router) (es : List Entry) (before other : ℕ) (e : Entry) → before < other → AreGood given r (take other es) → nth es before ≡ Some e → IsGood given (replay given r (take before es)) e
good-before given r es before zero e lt g at = absurd (omega (arith, lt))
good-before given r [] before (suc other) e lt g at = absurd (cc)
good-before given r (x ∷ es) zero (suc other) e lt g at = subst (λ (y : Entry). IsGood given r y) (same-entry x e at) g.0
good-before given r (x ∷ es) (suc before) (suc other) e lt g at = good-before given (next given r x.deed) es before other e (omega (arith, lt)) g.1 at

pub no-fault : (given : Given) (r : Router) (es : List Entry) (before : ℕ) (fault : Fault) → AreGood given r es → IsFirstFault given r es before fault → ⊥
no-fault given r es before fault g f = good-faultless given (replay given r (take before es)) f.entry fault (good-at given r es before f.entry g f.at) f.faulty

not-before : (given : Given) (r : Router) (es : List Entry) (before other : ℕ) (fault second : Fault) → IsFirstFault given r es before fault → IsFirstFault given r es other second → before < other → ⊥
not-before given r es before other fault second f g lt = good-faultless given (replay given r (take before es)) f.entry fault (good-before given r es before other f.entry lt g.good f.at) f.faulty

same-place : (given : Given) (r : Router) (es : List Entry) (before : ℕ) (fault second : Fault) → IsFirstFault given r es before fault → IsFirstFault given r es before second → fault ≡ second
same-place given r es before fault second f g =
    one-fault given (replay given r (take before es)) g.entry fault second
    (subst (λ (y : Entry). IsFaulty given (replay given r (take before es)) y fault) (same-entry f.entry g.entry (sym f.at ∙ g.at)) f.faulty) g.faulty

-- two numbers are one, or one of them is less
order : (m n : ℕ) → (m < n) ⊎ ((n < m) ⊎ (m ≡ n))
order zero zero = inr (inr refl)
order zero (suc n) = inl (omega arith)
order (suc m) zero = inr (inl (omega arith))
order (suc m) (suc n) = on (order m n)
  where
    on : (m < n) ⊎ ((n < m) ⊎ (m ≡ n)) → (suc m < suc n) ⊎ ((suc n < suc m) ⊎ (suc m ≡ suc n))
    on (inl h) = inl (omega (arith, h))
    on (inr (inl h)) = inr (inl (omega (arith, h)))
    on (inr (inr h)) = inr (inr (ap suc h))

pub first-once : (given : Given) (r : Router) (es : List Entry) (before other : ℕ) (fault second : Fault) → IsFirstFault given r es before fault → IsFirstFault given r es other second → (before ≡ other) × (fault ≡ second)
first-once given r es before other fault second f g = by (order before other)
  where
    by : (before < other) ⊎ ((other < before) ⊎ (before ≡ other)) → (before ≡ other) × (fault ≡ second)
    by (inl h) = absurd (not-before given r es before other fault second f g h)
    by (inr (inl h)) = absurd (not-before given r es other before second fault g f h)
    by (inr (inr h)) = (h, same-place given r es other fault second (subst (λ (n : ℕ). IsFirstFault given r es n fault) h f) g)
