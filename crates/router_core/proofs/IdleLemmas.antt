-- CSNP counters after an event that changed one circuit, or none.
use Rattle.std.proofs.Common.{◌≡◌, ℕ, zero, suc, ◌+◌, List, [], ◌∷◌, Option, Some, None, Bool, true, false, IfSome, refl, sym, ap, ◌∙◌, subst, arith}
use Rattle.isis_base.specs.declared.level.Level.{Level}
use Rattle.isis_base.specs.declared.level.Level.TheVariants as level
use Rattle.model_router.specs.Both.{at}
use Rattle.model_router.specs.Places.{nth, with_nth}
use Rattle.model_router.specs.Configs.{Config}
use Rattle.model_router.specs.Routers.{Circuit, CircuitLevel, Router, with_circuit}
use Rattle.model_router.specs.Elections.{idle, idle_level, idle_all, is_designated}
use Rattle.model_router.specs.AdjacencyLaws.{IsIdle, AreIdle}
use Rattle.model_router.specs.Hellos.{follow}
use Rattle.model_router.specs.Events.{Reply, settled}

level-same : (own : Bool) (part : CircuitLevel) → (own ≡ false → part.csnp ≡ 0) → idle_level own part ≡ part
level-same true part h = refl
level-same false part h = ap (λ (n : ℕ). record part { csnp = n }) (sym (h refl))

-- an idle circuit stays as it is
pub idle-same : (config : Config) (place : ℕ) (c : Circuit) → ((l : Level) → is_designated config place c l ≡ false → (at c.levels l).csnp ≡ 0) → idle config place c ≡ c
idle-same config place c h =
    ap (λ (one : CircuitLevel). record c { levels = record { one = one; two = idle_level (is_designated config place c level.Two) c.levels.two } }) (level-same (is_designated config place c level.One) c.levels.one (h level.One))
    ∙ ap (λ (two : CircuitLevel). record c { levels = record { one = c.levels.one; two = two } }) (level-same (is_designated config place c level.Two) c.levels.two (h level.Two))

-- all circuits of a list are idle, from a place on
abbrev pub AllIdle : Config → ℕ → List Circuit → Type 0
AllIdle config k cs = (i : ℕ) → IfSome (nth cs i) (λ c. idle config (k + i) c ≡ c)

tail-idle : (config : Config) (k : ℕ) (c : Circuit) (cs : List Circuit) → AllIdle config k (c ∷ cs) → AllIdle config (k + 1) cs
tail-idle config k c cs h i = subst (λ (n : ℕ). IfSome (nth cs i) (λ x. idle config n x ≡ x)) (omega arith) (h (suc i))

pub all-same : (config : Config) (k : ℕ) (cs : List Circuit) → AllIdle config k cs → idle_all config k cs ≡ cs
all-same config k [] h = refl
all-same config k (c ∷ cs) h =
    ap (λ (x : Circuit). x ∷ idle_all config (k + 1) cs) (subst (λ (n : ℕ). idle config n c ≡ c) (omega arith) (h zero))
    ∙ ap (λ (xs : List Circuit). c ∷ xs) (all-same config (k + 1) cs (tail-idle config k c cs h))

pub all-with : (config : Config) (k : ℕ) (cs : List Circuit) (i : ℕ) (x : Circuit) → AllIdle config k cs → idle_all config k (with_nth cs i x) ≡ with_nth cs i (idle config (k + i) x)
all-with config k [] i x h = refl
all-with config k (c ∷ cs) zero x h =
    ap (λ (xs : List Circuit). idle config k x ∷ xs) (all-same config (k + 1) cs (tail-idle config k c cs h))
    ∙ subst (λ (n : ℕ). idle config k x ∷ cs ≡ idle config n x ∷ cs) (omega arith) refl
all-with config k (c ∷ cs) (suc i) x h =
    ap (λ (y : Circuit). y ∷ idle_all config (k + 1) (with_nth cs i x)) (subst (λ (n : ℕ). idle config n c ≡ c) (omega arith) (h zero))
    ∙ ap (λ (xs : List Circuit). c ∷ xs) (all-with config (k + 1) cs i x (tail-idle config k c cs h) ∙ subst (λ (n : ℕ). with_nth cs i (idle config (k + 1 + i) x) ≡ with_nth cs i (idle config n x)) (omega arith) refl)

-- a router's idle circuits
are-idle : (r : Router) → AreIdle r → AllIdle r.config 0 r.circuits
are-idle r h i = of (nth r.circuits i) (λ l. h.on i l)
  where
    of : (o : Option Circuit) → ((l : Level) → IsIdle r i o l) → IfSome o (λ c. idle r.config (0 + i) c ≡ c)
    of None f = tt
    of (Some c) f = subst (λ (n : ℕ). idle r.config n c ≡ c) (omega arith) (idle-same r.config i c f)

-- nothing changed on the circuits
pub settled-same : (r s : Router) (reply : Reply) → AreIdle r → s.circuits ≡ r.circuits → s.config.system ≡ r.config.system → (settled (record { router = s; reply = reply })).router ≡ s
settled-same r s reply h e k = ap (λ (cs : List Circuit). record s { circuits = cs }) (all-same s.config 0 s.circuits (subst (λ (cs : List Circuit). AllIdle s.config 0 cs) (sym e) other))
  where
    part : (i : ℕ) (c : Circuit) → idle s.config i c ≡ idle r.config i c
    part i c = subst (λ (system : ℕ). idle (record s.config { system = system }) i c ≡ idle r.config i c) (sym k) refl

    of : (i : ℕ) (o : Option Circuit) → IfSome o (λ c. idle r.config (0 + i) c ≡ c) → IfSome o (λ c. idle s.config (0 + i) c ≡ c)
    of i None h = h
    of i (Some c) h = part (0 + i) c ∙ h

    other : AllIdle s.config 0 r.circuits
    other i = of i (nth r.circuits i) (are-idle r h i)

-- one circuit changed
pub settled-with : (r s : Router) (reply : Reply) (place : ℕ) (x : Circuit) → AreIdle r → s.circuits ≡ with_nth r.circuits place x → s.config ≡ r.config → (settled (record { router = s; reply = reply })).router ≡ record s { circuits = with_nth r.circuits place (idle r.config place x) }
settled-with r s reply place x h e k =
    ap (λ (cs : List Circuit). record s { circuits = cs })
    (subst (λ (config : Config). idle_all config 0 s.circuits ≡ with_nth r.circuits place (idle r.config place x)) (sym k)
    (subst (λ (cs : List Circuit). idle_all r.config 0 cs ≡ with_nth r.circuits place (idle r.config place x)) (sym e)
    (all-with r.config 0 r.circuits place x (are-idle r h) ∙ subst (λ (n : ℕ). with_nth r.circuits place (idle r.config (0 + place) x) ≡ with_nth r.circuits place (idle r.config n x)) (omega arith) refl)))

bad : {A : Type 0} (x : A) → None ≡ Some x → ⊥
bad x e = cc

pub nth-with : {A : Type 0} (xs : List A) (i : ℕ) (x y : A) → nth xs i ≡ Some x → nth (with_nth xs i y) i ≡ Some y
nth-with [] i x y e = absurd (bad x e)
nth-with (z ∷ xs) zero x y e = refl
nth-with (z ∷ xs) (suc i) x y e = nth-with xs i x y e

pub with-twice : {A : Type 0} (xs : List A) (i : ℕ) (x y : A) → with_nth (with_nth xs i x) i y ≡ with_nth xs i y
with-twice [] i x y = refl
with-twice (z ∷ xs) zero x y = refl
with-twice (z ∷ xs) (suc i) x y = ap (λ (ys : List _). z ∷ ys) (with-twice xs i x y)

pub from-some : {A : Type 0} (P : A → Type 0) (o : Option A) (x : A) → o ≡ Some x → IfSome o P → P x
from-some P o x e h = subst (λ (q : Option _). IfSome q P) e h

-- the circuit that changed is settled
pub settle-with : (r s t : Router) (reply : Reply) (place : ℕ) (c x : Circuit) → AreIdle r → nth r.circuits place ≡ Some c → s.circuits ≡ with_nth r.circuits place x → s.config ≡ r.config → IfSome (nth s.circuits place) (λ y. t ≡ with_circuit s place (idle s.config place y)) → t ≡ (settled (record { router = s; reply = reply })).router
settle-with r s t reply place c x h n e k f =
    from-some (λ y. t ≡ with_circuit s place (idle s.config place y)) (nth s.circuits place) x here f
    ∙ (ap (λ (cs : List Circuit). record s { circuits = with_nth cs place (idle s.config place x) }) e
    ∙ (ap (λ (config : Config). record s { circuits = with_nth (with_nth r.circuits place x) place (idle config place x) }) k
    ∙ (ap (λ (cs : List Circuit). record s { circuits = cs }) (with-twice r.circuits place x (idle r.config place x))
    ∙ sym (settled-with r s reply place x h e k))))
  where
    here : nth s.circuits place ≡ Some x
    here = ap (λ (cs : List Circuit). nth cs place) e ∙ nth-with r.circuits place c x n

-- a circuit changed, and both levels follow it
pub follow-with : (r a b : Router) (anew : Bool) (place : ℕ) (c x : Circuit) → nth r.circuits place ≡ Some c → a ≡ with_circuit r place x → IfSome (nth a.circuits place) (λ y. b ≡ follow a anew place y) → b ≡ follow (with_circuit r place x) anew place x
follow-with r a b anew place c x n e f =
    from-some (λ y. b ≡ follow (with_circuit r place x) anew place y) (nth (with_nth r.circuits place x) place) x (nth-with r.circuits place c x n)
    (subst (λ (q : Router). IfSome (nth q.circuits place) (λ y. b ≡ follow q anew place y)) e f)

pub each-some : {A : Type 0} (o : Option A) (P : A → Type 0) → ((x : A) → o ≡ Some x → P x) → IfSome o P
each-some None P f = tt
each-some (Some x) P f = f x refl

-- a circuit changed, both levels follow it, and it is settled
pub heard-with : (r a b t : Router) (reply : Reply) (anew : Bool) (place : ℕ) (c x : Circuit) → AreIdle r → nth r.circuits place ≡ Some c → a ≡ with_circuit r place x → IfSome (nth a.circuits place) (λ y. b ≡ follow a anew place y) → IfSome (nth b.circuits place) (λ y. t ≡ with_circuit b place (idle b.config place y)) → t ≡ (settled (record { router = follow (with_circuit r place x) anew place x; reply = reply })).router
heard-with r a b t reply anew place c x h n e f g =
    settle-with r (follow (with_circuit r place x) anew place x) t reply place c x h n refl refl
    (subst (λ (q : Router). IfSome (nth q.circuits place) (λ y. t ≡ with_circuit q place (idle q.config place y))) (follow-with r a b anew place c x n e f) g)
