-- Another configuration of a router before the run.
use Rattle.std.proofs.Common.{◌≡◌, ℕ, zero, suc, ◌+◌, ◌-◌, ◌≤◌, List, [], ◌∷◌, ◌++◌, map, take, length, true, false, Option, Some, sym, ap, ◌∙◌, subst, arith}
use Rattle.std.specs.Option.{option_map}
use Rattle.model_router.specs.Numbers.{system_number}
use Rattle.model_router.specs.Places.{nth, with_nth}
use Rattle.model_router.specs.Routers.{Router}
use Rattle.model_network.specs.declared.end.End.{End}
use Rattle.router_desk.specs.declared.circuit_config.CircuitConfig.{CircuitConfig}
use Rattle.router_desk.specs.declared.config.Config.{Config}
use Rattle.router_desk.specs.Limits.{IsCircuit, IsKey, IsValid}
use Rattle.router_core.specs.Reached.{IsReached}
use Rattle.network_lab.specs.LabNets.{LabNet, AreDistinct, systems_of, router_of, reconfigured, configured, with_config, with_changed, at_circuit}
use Rattle.network_lab.specs.LabInside.{counts_of, IsFit, IsSetUp, IsNet}
use Rattle.network_lab.specs.LabSteps.{with_circuit_at}
use Rattle.network_lab.proofs.PlaceLemmas.{some-same, nth-map, map-with, length-with}
use Rattle.network_lab.proofs.LinkLemmas.{all-with, setup-counts}
use Rattle.network_lab.proofs.StepLemmas.{counts-with}

pub valid-with : (config : Config) (place : ℕ) (c : CircuitConfig) → IsValid config → IsCircuit c → IsValid (with_circuit_at config place c)
valid-with config place c v fits = record {
  some_area = v.some_area;
  areas = v.areas;
  few_circuits = let n = length-with config.circuits place c in let m = v.few_circuits in omega (arith, n, m);
  circuits = all-with IsCircuit config.circuits place c v.circuits fits;
  few_prefixes = v.few_prefixes;
  metrics = v.metrics;
  once = v.once;
  area_key = v.area_key;
  domain_key = v.domain_key;
}

-- another configuration of a router, of the same system
pub systems-with : (rs : List Router) (configs : List Config) (i : ℕ) (config new : Config) → rs ≡ map router_of configs → nth configs i ≡ Some config → new.system ≡ config.system → systems_of (with_nth rs i (router_of new)) ≡ systems_of rs
systems-with rs configs i config new are at own =
    counts-with (λ (r : Router). r.config.system) rs i (router_of config) (router_of new)
    (ap (λ (rs : List Router). nth rs i) are ∙ (nth-map router_of configs i ∙ ap (option_map router_of) at)) (ap system_number own)

pub net-config : (ports : List (List ℕ)) (ordered : List (List End)) (a : LabNet) (i : ℕ) (config new : Config) → IsNet ports ordered a → a.begun ≡ false → nth a.configs i ≡ Some config → IsFit new → length new.circuits ≡ length config.circuits → new.system ≡ config.system
    → IsNet ports ordered (with_config a i new)
net-config ports ordered a i config new h begun at fit same own = record {
  routers = ap counts_of routers_are ∙ (setup-counts (with_nth a.configs i new) ∙ configs_are);
  configs = configs_are;
  systems = subst AreDistinct (sym (systems-with a.seen.routers a.configs i config new s.routers at own)) h.systems;
  ends = h.ends;
  ported = h.ported;
  sorted = h.sorted;
  wired = h.wired;
  apart = h.apart;
  few = h.few;
  small = h.small;
  setup = λ e. record {
    fit = all-with IsFit a.configs i new s.fit fit;
    routers = routers_are;
    nothing = s.nothing;
    none = s.none;
    unnoted = s.unnoted;
  };
  run = λ e _ _. absurd (let clash : true ≡ false = sym e ∙ begun in cc);
}
  where
    s : IsSetUp a.configs a.seen
    s = h.setup begun

    routers_are : with_nth a.seen.routers i (router_of new) ≡ map router_of (with_nth a.configs i new)
    routers_are = ap (λ (rs : List Router). with_nth rs i (router_of new)) s.routers ∙ sym (map-with router_of a.configs i new)

    configs_are : map (λ (c : Config). length c.circuits) (with_nth a.configs i new) ≡ map length ports
    configs_are = counts-with (λ (c : Config). length c.circuits) a.configs i config new at same ∙ h.configs

pub config-is : (a : LabNet) (i circuit : ℕ) (change : CircuitConfig → CircuitConfig) (config : Config) (c : CircuitConfig) → nth a.configs i ≡ Some config → nth config.circuits (circuit - 1) ≡ Some c → reconfigured a i (with_changed change circuit) ≡ with_config a i (with_circuit_at config (circuit - 1) (change c))
config-is a i circuit change config c at here =
    ap (configured a i (with_changed change circuit)) at
    ∙ ap (λ (o : Option CircuitConfig). with_config a i (record config { circuits = at_circuit change (circuit - 1) config.circuits o })) here

pub take-nth : {A : Type 0} (xs : List A) (i : ℕ) (x : A) → nth xs i ≡ Some x → take (i + 1) xs ≡ take i xs ++ (x ∷ [])
take-nth [] i x e = absurd (cc)
take-nth (y ∷ xs) zero x e = ap (λ (z : _). z ∷ []) (some-same y x e)
take-nth (y ∷ xs) (suc i) x e = ap (λ (n : ℕ). take n (y ∷ xs)) (shift i) ∙ ap (λ (zs : _). y ∷ zs) (take-nth xs i x e)
  where
    shift : (k : ℕ) → suc k + 1 ≡ suc (k + 1)
    shift k = omega arith

pub key-fits : (c : CircuitConfig) (key : List ℕ) → IsCircuit c → IsKey key → IsCircuit (record c { key = Some key })
key-fits c key h k = record { metric = h.metric; priority = h.priority; key = k }

pub priority-fits : (c : CircuitConfig) (priority : ℕ) → IsCircuit c → priority ≤ 127 → IsCircuit (record c { priority = priority })
priority-fits c priority h k = record { metric = h.metric; priority = k; key = h.key }

-- another circuit of a configuration
pub fit-with : (config : Config) (place : ℕ) (c : CircuitConfig) → IsFit config → IsCircuit c → IsReached (router_of (with_circuit_at config place c)) → IsFit (with_circuit_at config place c)
fit-with config place c f fits reached = record { valid = valid-with config place c f.valid fits; system = f.system; reached = reached }
