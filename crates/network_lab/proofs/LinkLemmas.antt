-- A router's circuits grow, and lists with another item at a place.
use Rattle.std.proofs.Common.{◌≡◌, ℕ, zero, suc, ◌<◌, ◌≤◌, List, [], ◌∷◌, map, length, Some, unwrap_or, refl, sym, ap, ◌∙◌, subst, arith, length-append}
use Rattle.std.specs.List.{AllByRecursion}
use Rattle.std.specs.Option.{option_map}
use Rattle.isis_base.specs.declared.level.CircuitKind.{CircuitKind}
use Rattle.model_router.specs.Places.{nth, with_nth}
use Rattle.model_router.proofs.ListLemmas.{all-append}
use Rattle.router_desk.specs.declared.config.Config.{Config}
use Rattle.router_desk.specs.Limits.{IsCircuit, IsValid}
use Rattle.network_lab.specs.LabNets.{router_of, new_circuit, with_circuit}
use Rattle.network_lab.specs.LabInside.{counts_of}
use Rattle.network_lab.proofs.PlaceLemmas.{some-same, nth-map}
use Rattle.network_lab.proofs.LabLemmas.{router-count}

pub valid-more : (config : Config) (kind : CircuitKind) (metric : ℕ) → IsValid config → length config.circuits < 64 → metric ≤ 16777215 → IsValid (with_circuit (new_circuit kind metric) config)
valid-more config kind metric v room fits = record {
  some_area = v.some_area;
  areas = v.areas;
  few_circuits = let n = length-append config.circuits (new_circuit kind metric ∷ []) in omega (arith, room, n);
  circuits = all-append IsCircuit config.circuits (new_circuit kind metric ∷ []) v.circuits (record { metric = fits; priority = omega arith; key = tt }, tt);
  few_prefixes = v.few_prefixes;
  metrics = v.metrics;
  once = v.once;
  area_key = v.area_key;
  domain_key = v.domain_key;
}

pub all-with : {A : Type 0} (P : A → Type 0) (xs : List A) (i : ℕ) (y : A) → AllByRecursion P xs → P y → AllByRecursion P (with_nth xs i y)
all-with P [] i y h p = tt
all-with P (x ∷ xs) zero y h p = (p, h.1)
all-with P (x ∷ xs) (suc i) y h p = (h.0, all-with P xs i y h.1 p)

pub all-at : {A : Type 0} (P : A → Type 0) (xs : List A) (i : ℕ) (y : A) → AllByRecursion P xs → nth xs i ≡ Some y → P y
all-at P [] i y h e = absurd (cc)
all-at P (x ∷ xs) zero y h e = subst P (some-same x y e) h.0
all-at P (x ∷ xs) (suc i) y h e = all-at P xs i y h.1 e

pub setup-counts : (configs : List Config) → counts_of (map router_of configs) ≡ map (λ (c : Config). length c.circuits) configs
setup-counts [] = refl
setup-counts (c ∷ configs) = both (router-count c) (setup-counts configs)
  where
    both : {m n : ℕ} {xs ys : List ℕ} → m ≡ n → xs ≡ ys → m ∷ xs ≡ n ∷ ys
    both e f = cc

pub more-with : (xs : List ℕ) (i y : ℕ) → unwrap_or (nth xs i) 0 ≤ y → (r : ℕ) → unwrap_or (nth xs r) 0 ≤ unwrap_or (nth (with_nth xs i y) r) 0
more-with [] i y h r = omega arith
more-with (x ∷ xs) zero y h zero = h
more-with (x ∷ xs) zero y h (suc r) = omega arith
more-with (x ∷ xs) (suc i) y h zero = omega arith
more-with (x ∷ xs) (suc i) y h (suc r) = more-with xs i y h r

pub count-here : (ports : List (List ℕ)) (configs : List Config) (i : ℕ) (p : List ℕ) (c : Config) → map (λ (c : Config). length c.circuits) configs ≡ map length ports → nth ports i ≡ Some p → nth configs i ≡ Some c → length c.circuits ≡ length p
count-here ports configs i p c same at at_c = some-same _ _ (sym (nth-map (λ (c : Config). length c.circuits) configs i ∙ ap (option_map (λ (c : Config). length c.circuits)) at_c) ∙ (ap (λ (xs : List ℕ). nth xs i) same ∙ (nth-map length ports i ∙ ap (option_map length) at)))
