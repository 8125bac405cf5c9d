-- Changes of the configuration, and what is asked.
use Rattle.std.proofs.Common.{◌≡◌, ℕ, zero, suc, ◌-◌, ◌<◌, ◌≤◌, List, [], ◌∷◌, length, get_or, Option, Some, None, Bool, IfSome, Result, Ok, Err, OnOk, refl, sym, ap, ◌∙◌, subst, arith}
use Rattle.model_router.specs.AdjacencyLaws.{IsIdle, AreIdle}
use Rattle.model_router.specs.Drops.{count_or}
use Rattle.model_router.specs.Elections.{idle}
use Rattle.model_router.specs.Events.{Done, Metric, Overload, Prefix, settled}
use Rattle.model_router.specs.Places.{nth}
use Rattle.model_router.specs.Routers.{Circuit, Router, with_circuit}
use Rattle.model_router.specs.Steps.{step, with_metric, with_prefix}
use Rattle.router_core.specs.Givens.{given}
use Rattle.router_core.proofs.IdleLemmas.{idle-same, settled-same, settled-with}

pub index-nth : (xs : List ℕ) (i : ℕ) → get_or xs i 0 ≡ count_or (nth xs i)
index-nth [] i = refl
index-nth (x ∷ xs) zero = refl
index-nth (x ∷ xs) (suc i) = index-nth xs i

pub not-there : {A : Type 0} (xs : List A) (i : ℕ) → i < length xs → nth xs i ≡ None → ⊥
not-there [] i h e = omega (arith, h)
not-there (x ∷ xs) zero h e = cc
not-there (x ∷ xs) (suc i) h e = not-there xs i (omega (arith, h)) e

-- an idle circuit of another metric is idle
idle-metric : (r : Router) (place metric : ℕ) (c : Circuit) → AreIdle r → nth r.circuits place ≡ Some c → idle r.config place (record c { metric = metric }) ≡ record c { metric = metric }
idle-metric r place metric c h e =
    ap (λ (x : Circuit). record x { metric = metric }) (idle-same r.config place c (λ l. subst (λ (o : Option Circuit). IsIdle r place o l) e (h.on place l)))

metric-settled : (r s : Router) (place metric : ℕ) (o : Option Circuit) → place < length r.circuits → AreIdle r → nth r.circuits place ≡ o → IfSome o (λ c. s ≡ with_circuit r place (record c { metric = metric })) → s ≡ (settled (record { router = with_metric r place metric o; reply = Done })).router
metric-settled r s place metric None h idles e k = absurd (not-there r.circuits place h e)
metric-settled r s place metric (Some c) h idles e k =
    let x : Circuit = record c { metric = metric } in
    k ∙ (ap (λ (y : Circuit). with_circuit r place y) (sym (idle-metric r place metric c idles e))
    ∙ sym (settled-with r (with_circuit r place x) Done place x idles refl refl))

pub metric-change : (r s : Router) (circuit metric : ℕ) → ((1 ≤ circuit) × (circuit ≤ length r.circuits)) × (metric ≤ 16777215) → AreIdle r → IfSome (nth r.circuits (circuit - 1)) (λ c. s ≡ with_circuit r (circuit - 1) (record c { metric = metric })) → s ≡ (step given r (Metric (circuit - 1) metric)).router
unfolding step
metric-change r s circuit metric fits idles k = metric-settled r s (circuit - 1) metric (nth r.circuits (circuit - 1)) (let h = fits.0 in omega (arith, h)) idles refl k

pub prefix-change : {R E : Type 0} (res : Result R E) (r s : Router) (prefix : ℕ) (metric : Option ℕ) → AreIdle r → OnOk res (s ≡ with_prefix r prefix metric) → OnOk res (s ≡ (step given r (Prefix prefix metric)).router)
unfolding step
prefix-change (Ok v) r s prefix metric idles k = k ∙ sym (settled-same r (with_prefix r prefix metric) Done idles refl refl)
prefix-change (Err b) r s prefix metric idles k = tt

pub overload-change : (r s : Router) (on : Bool) → AreIdle r → s ≡ record r { config = record r.config { overload = on } } → s ≡ (step given r (Overload on)).router
unfolding step
overload-change r s on idles k = k ∙ sym (settled-same r (record r { config = record r.config { overload = on } }) Done idles refl refl)
