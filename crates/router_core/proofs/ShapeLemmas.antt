-- A list of circuits where one changes but for its kind and key.
use Rattle.std.proofs.Common.{◌≡◌, ℕ, zero, suc, ◌<◌, List, [], ◌∷◌, map, get_or, length, Option, Some, None, Bool, false, Bor, is_some, option_copied, ◌&&◌, IfSome, Result, Ok, Err, IfOk, OnOk, refl, sym, ap, ◌∙◌, subst, arith}
use Rattle.std.specs.Prelude.{slice_set}
use Rattle.std.specs.List.{AllByRecursion}
use Rattle.router_core.specs.Machines.{IsFit}
use Rattle.model_router.specs.Places.{nth, with_nth}
use Rattle.model_router.specs.Both.{Both}
use Rattle.model_router.specs.Configs.{Config}
use Rattle.model_router.specs.declared.drop_name.DropName.{DropName}
use Rattle.model_router.specs.declared.drop_name.DropName.TheVariants.{NoThreeWay}
use Rattle.model_router.specs.Drops.{or_else}
use Rattle.model_router.specs.Routers.{Circuit, Router, with_circuit}
use Rattle.model_router.specs.Adjacencies.{Hello, Handshake, common_of}
use Rattle.model_router.specs.Hellos.{point_circuit}
use Rattle.model_router.specs.HelloTests.{point_drop, hello_drop, shake_drop, full_drop}

-- a configuration of these, and nothing else
abbrev pub bare : ℕ → List (List ℕ) → Both Bool → Config
bare system areas runs = record {
  system = system;
  areas = areas;
  runs = runs;
  leak = false;
  overload = false;
  prefixes = [];
  keys = record { one = None; two = None };
}

pub set-keeps : {A B : Type 0} (f : A → B) (xs : List A) (i : ℕ) (x y : A) → i < length xs → x ≡ get_or xs i x → f y ≡ f x → map f (slice_set xs i y) ≡ map f xs
set-keeps f [] i x y h e same = absurd (omega (arith, h))
set-keeps f (z ∷ xs) zero x y h e same = ap (λ (b : _). b ∷ map f xs) (same ∙ ap f e)
set-keeps f (z ∷ xs) (suc i) x y h e same = ap (λ (bs : List _). f z ∷ bs) (set-keeps f xs i x y (omega (arith, h)) e same)

-- what holds of an item that stands at a place holds of the place
pub at-place : {A : Type 0} (Q : A → List A → Type 0) (xs : List A) (i : ℕ) (x y : A) → i < length xs → x ≡ get_or xs i x → Q x (with_nth xs i y) → IfSome (nth xs i) (λ c. Q c (slice_set xs i y))
at-place Q [] i x y h e q = absurd (omega (arith, h))
at-place Q (z ∷ xs) zero x y h e q = subst (λ (c : _). Q c (y ∷ xs)) e q
at-place Q (z ∷ xs) (suc i) x y h e q = at-place (λ c ys. Q c (z ∷ ys)) xs i x y (omega (arith, h)) e q

lan-at : {A R E : Type 0} (r : Result R E) (f : A → A) (xs : List A) (i : ℕ) (x y : A) → i < length xs → x ≡ get_or xs i x → IfOk r (λ _. y ≡ f x) → IfOk r (λ _. IfSome (nth xs i) (λ c. slice_set xs i y ≡ with_nth xs i (f c)))
lan-at (Err b) f xs i x y h e q = q
lan-at (Ok a) f xs i x y h e q = at-place (λ c ys. ys ≡ with_nth xs i (f c)) xs i x y h e (ap (λ (z : _). with_nth xs i z) q)

point-at : {A S E : Type 0} (r : Result Bool E) (o : Option S) (f : A → S → A) (g : A → S → Bool) (xs : List A) (i : ℕ) (x y : A) → i < length xs → x ≡ get_or xs i x → IfOk r (λ _. IfSome o (λ s. y ≡ f x s)) → IfOk r (λ v. IfSome o (λ s. v ≡ g x s)) → IfOk r (λ v. IfSome (nth xs i) (λ c. IfSome o (λ s. (slice_set xs i y ≡ with_nth xs i (f c s)) × (v ≡ g c s))))
point-at (Err b) o f g xs i x y h e p q = p
point-at (Ok v) None f g xs i x y h e p q = at-place (λ c ys. IfSome None (λ s. (ys ≡ with_nth xs i (f c s)) × (v ≡ g c s))) xs i x y h e p
point-at (Ok v) (Some s) f g xs i x y h e p q = at-place (λ c ys. (ys ≡ with_nth xs i (f c s)) × (v ≡ g c s)) xs i x y h e (ap (λ (z : _). with_nth xs i z) p, q)

-- what holds of an item at a place, which is named in another way
pub here-holds : {A : Type 0} (P : A → Type 0) (xs : List A) (i j : ℕ) → i ≡ j → (x : A) → i < length xs → x ≡ get_or xs i x → P x → IfSome (nth xs j) P
here-holds P xs i j k x h e p = subst (λ (n : ℕ). IfSome (nth xs n) P) k (at-place (λ c _. P c) xs i x x h e p)

-- a hello that was taken has a handshake
pub has-shake : (a : Option DropName) (cause : DropName) (b : Option DropName) → or_else (or_else a (Some cause)) b ≡ None → ⊥
has-shake None cause b e = cc
has-shake (Some a) cause b e = cc

pub point-keeps : (P : Circuit → Type 0) (config : Config) (extended : ℕ) (boots : List (ℕ × ℕ)) (h : Hello) (common : Both Bool) (x y : Circuit) → point_drop config extended boots h ≡ None → IfSome h.handshake (λ s. y ≡ point_circuit x common h s) → ((s : Handshake) → y ≡ point_circuit x common h s → P y) → P y
point-keeps P config extended boots h common x y t k f = of h.handshake t k
  where
    tests : Option DropName
    tests = hello_drop config boots (common_of config h) (config.runs.one && h.runs.one) h

    of : (o : Option Handshake) → or_else (or_else tests (shake_drop config extended o)) (full_drop boots h.source) ≡ None → IfSome o (λ s. y ≡ point_circuit x common h s) → P y
    of None e s = absurd (has-shake tests NoThreeWay (full_drop boots h.source) e)
    of (Some shake) e s = f shake s

-- the same, of a place that is named in another way
pub lan-into : {A R E : Type 0} (r : Result R E) (f : A → A) (xs : List A) (i j : ℕ) → i ≡ j → (x y : A) → i < length xs → x ≡ get_or xs i x → IfOk r (λ _. y ≡ f x) → IfOk r (λ _. IfSome (nth xs j) (λ c. slice_set xs i y ≡ with_nth xs j (f c)))
lan-into {R = R} r f xs i j k x y h e q = subst (λ (n : ℕ). IfOk r (λ (_ : R). IfSome (nth xs n) (λ c. slice_set xs i y ≡ with_nth xs n (f c)))) k (lan-at r f xs i x y h e q)

pub point-into : {A S E : Type 0} (r : Result Bool E) (o : Option S) (f : A → S → A) (g : A → S → Bool) (xs : List A) (i j : ℕ) → i ≡ j → (x y : A) → i < length xs → x ≡ get_or xs i x → IfOk r (λ _. IfSome o (λ s. y ≡ f x s)) → IfOk r (λ v. IfSome o (λ s. v ≡ g x s)) → IfOk r (λ v. IfSome (nth xs j) (λ c. IfSome o (λ s. (slice_set xs i y ≡ with_nth xs j (f c s)) × (v ≡ g c s))))
point-into r o f g xs i j k x y h e p q = subst (λ (n : ℕ). IfOk r (λ (v : Bool). IfSome (nth xs n) (λ c. IfSome o (λ s. (slice_set xs i y ≡ with_nth xs n (f c s)) × (v ≡ g c s))))) k (point-at r o f g xs i x y h e p q)

-- a router whose circuits are another list's, which one circuit's change made
pub circuits-set : (f : Config → Circuit → Circuit) (place : ℕ) (items : List Circuit) (r s : Router) → r ≡ s → IfSome (nth r.circuits place) (λ c. items ≡ with_nth r.circuits place (f r.config c)) → IfSome (nth s.circuits place) (λ c. record r { circuits = items } ≡ with_circuit s place (f s.config c))
circuits-set f place items r s e h = subst (λ (t : Router). IfSome (nth t.circuits place) (λ c. record r { circuits = items } ≡ with_circuit t place (f t.config c))) e (of (nth r.circuits place) h)
  where
    of : (o : Option Circuit) → IfSome o (λ c. items ≡ with_nth r.circuits place (f r.config c)) → IfSome o (λ c. record r { circuits = items } ≡ with_circuit r place (f r.config c))
    of None h = h
    of (Some c) h = ap (λ (cs : List Circuit). record r { circuits = cs }) h

-- ---- one circuit of a router hears a hello

-- what was answered has both
pub ok-both : {A E : Type 0} (P Q : A → Type 0) (q : Result A E) → IfOk q P → IfOk q Q → IfOk q (λ a. P a × Q a)
ok-both P Q (Ok a) f g = (f, g)
ok-both P Q (Err e) f g = tt

pub lan-set : {R E : Type 0} (res : Result R E) (f : Config → Circuit → Circuit) (place : ℕ) (items : List Circuit) (r s : Router) → r ≡ s → IfOk res (λ _. IfSome (nth r.circuits place) (λ c. items ≡ with_nth r.circuits place (f r.config c))) → OnOk res (IfSome (nth s.circuits place) (λ c. record r { circuits = items } ≡ with_circuit s place (f s.config c)))
lan-set (Ok v) f place items r s e h = circuits-set f place items r s e h
lan-set (Err b) f place items r s e h = tt

pub point-set : {E : Type 0} (res : Result Bool E) (o : Option Handshake) (f : Config → Circuit → Handshake → Circuit) (g : Config → Circuit → Handshake → Bool) (place : ℕ) (items : List Circuit) (r s : Router) → r ≡ s → IfOk res (λ v. IfSome (nth r.circuits place) (λ c. IfSome o (λ sh. (items ≡ with_nth r.circuits place (f r.config c sh)) × (v ≡ g r.config c sh)))) → IfOk res (λ v. IfSome (nth s.circuits place) (λ c. IfSome o (λ sh. (record r { circuits = items } ≡ with_circuit s place (f s.config c sh)) × (v ≡ g s.config c sh))))
point-set {E} res o f g place items r s e h = subst (λ (t : Router). IfOk res (λ (v : Bool). IfSome (nth t.circuits place) (λ c. IfSome o (λ sh. (record r { circuits = items } ≡ with_circuit t place (f t.config c sh)) × (v ≡ g t.config c sh))))) e (on res h)
  where
    under : (v : Bool) (p : Option Handshake) (c : Circuit) → IfSome p (λ sh. (items ≡ with_nth r.circuits place (f r.config c sh)) × (v ≡ g r.config c sh)) → IfSome p (λ sh. (record r { circuits = items } ≡ with_circuit r place (f r.config c sh)) × (v ≡ g r.config c sh))
    under v None c h = h
    under v (Some sh) c h = (ap (λ (cs : List Circuit). record r { circuits = cs }) h.0, h.1)

    at : (v : Bool) (x : Option Circuit) → IfSome x (λ c. IfSome o (λ sh. (items ≡ with_nth r.circuits place (f r.config c sh)) × (v ≡ g r.config c sh))) → IfSome x (λ c. IfSome o (λ sh. (record r { circuits = items } ≡ with_circuit r place (f r.config c sh)) × (v ≡ g r.config c sh)))
    at v None h = h
    at v (Some c) h = under v o c h

    on : (q : Result Bool E) → IfOk q (λ v. IfSome (nth r.circuits place) (λ c. IfSome o (λ sh. (items ≡ with_nth r.circuits place (f r.config c sh)) × (v ≡ g r.config c sh)))) → IfOk q (λ v. IfSome (nth r.circuits place) (λ c. IfSome o (λ sh. (record r { circuits = items } ≡ with_circuit r place (f r.config c sh)) × (v ≡ g r.config c sh))))
    on (Ok v) h = at v (nth r.circuits place) h
    on (Err b) h = h

-- what holds of all circuits holds where one changed that keeps it
pub set-all : {A : Type 0} (P : A → Type 0) (xs : List A) (i : ℕ) (x y : A) → i < length xs → x ≡ get_or xs i x → (P x → P y) → AllByRecursion P xs → AllByRecursion P (slice_set xs i y)
set-all P [] i x y h e f a = absurd (omega (arith, h))
set-all P (z ∷ xs) zero x y h e f a = (f (subst P (sym e) a.0), a.1)
set-all P (z ∷ xs) (suc i) x y h e f a = (a.0, set-all P xs i x y (omega (arith, h)) e f a.1)

pub fit-same : (x y z : Circuit) → y ≡ z → z.metric ≡ x.metric → z.priority ≡ x.priority → IsFit x → IsFit y
fit-same x y z e m p f = subst IsFit (sym e) (record { metric = omega (arith, m, f.metric); priority = omega (arith, p, f.priority) })

copied-some : {T : Type 0} (o : Option (Bor T)) → is_some (option_copied o) ≡ is_some o
copied-some None = refl
copied-some (Some x) = refl

-- whether there is a key
pub signed-by : {T : Type 0} (o : Option (Bor T)) (key : Option T) (b : Bool) → option_copied o ≡ key → b ≡ is_some o → is_some key ≡ b
signed-by o key b e f = ap is_some (sym e) ∙ (copied-some o ∙ sym f)
