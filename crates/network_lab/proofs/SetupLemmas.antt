-- A network that is set up, as its parts change.
use Rattle.std.proofs.Common.{◌≡◌, ◌≢◌, ℕ, ◌-◌, ◌<◌, ◌≤◌, List, [], ◌∷◌, ◌++◌, length, get_or, arith, Bool, false, Option, Some, refl, sym, ap, ◌∙◌, subst}
use Rattle.std.specs.List.{AllByRecursion}
use Rattle.model_router.specs.Numbers.{system_id, system_number}
use Rattle.model_router.specs.Places.{nth, with_nth}
use Rattle.model_router.specs.Routers.{Router}
use Rattle.model_network.specs.declared.end.End.{End}
use Rattle.router_desk.specs.declared.circuit_config.CircuitConfig.{CircuitConfig}
use Rattle.router_desk.specs.declared.config.Config.{Config}
use Rattle.router_desk.specs.Limits.{IsCircuit, IsValid}
use Rattle.router_core.specs.Reached.{IsReached}
use Rattle.network_lab.specs.declared.notes.Notes.{Notes}
use Rattle.network_lab.specs.declared.sent.SentDatagram.{SentDatagram}
use Rattle.lab_keys.specs.declared.faults.LabFault.{LabFault}
use Rattle.network_lab.specs.LabNets.{LabNet, router_of, reconfigured, with_changed, with_config}
use Rattle.network_lab.specs.LabInside.{IsFit, IsNet}
use Rattle.network_lab.specs.LabSteps.{with_circuit_at}
use Rattle.network_lab.specs.LabCauses.{HasCircuit}
use Rattle.network_lab.proofs.LabLemmas.{net-router}
use Rattle.network_lab.proofs.LinkLemmas.{all-at}
use Rattle.network_lab.proofs.PlaceLemmas.{some-same, nth-get, of-place, length-with}
use Rattle.std.proofs.lemmas.List.{length-map}
use Rattle.network_lab.proofs.ConfigLemmas.{net-config, config-is, fit-with}

abbrev pub lab : List Config → List Router → List (List End) → List SentDatagram → ℕ → Notes → Bool → Option LabFault → LabNet
lab configs rs links ds n ts begun stopped = record {
  configs = configs;
  seen = record { routers = rs; links = links; sent = ds; injected = n; noted = ts };
  begun = begun;
  stopped = stopped;
}

pub router-more : (ports ports_now : List (List ℕ)) (ordered links : List (List End)) (configs configs_now : List Config) (rs rs_now : List Router) (ds : List SentDatagram) (n : ℕ) (ts : Notes) (begun : Bool) (stopped : Option LabFault) (config : Config)
    → IsNet ports ordered (lab configs rs links ds n ts begun stopped) → begun ≡ false → IsValid config → IsReached (router_of config) → config.circuits ≡ []
    → system_id (system_number config.system) ≡ config.system → AllByRecursion (λ (other : Config). other.system ≢ config.system) configs
    → configs_now ≡ configs ++ (config ∷ []) → rs_now ≡ rs ++ (router_of config ∷ []) → ports_now ≡ ports ++ ([] ∷ [])
    → IsNet ports_now ordered (lab configs_now rs_now links ds n ts begun stopped)
router-more ports ports_now ordered links configs configs_now rs rs_now ds n ts begun stopped config h b valid reached bare known fresh c r p =
    subst (λ (xs : List (List ℕ)). IsNet xs ordered (lab configs_now rs_now links ds n ts begun stopped)) (sym p)
    (subst (λ (xs : List Router). IsNet (ports ++ ([] ∷ [])) ordered (lab configs_now xs links ds n ts begun stopped)) (sym r)
    (subst (λ (xs : List Config). IsNet (ports ++ ([] ∷ [])) ordered (lab xs (rs ++ (router_of config ∷ [])) links ds n ts begun stopped)) (sym c)
    (net-router ports ordered (lab configs rs links ds n ts begun stopped) config h b (record { valid = valid; system = known; reached = reached }) bare fresh)))

pub config-new : (ports : List (List ℕ)) (ordered links : List (List End)) (configs configs_now : List Config) (rs rs_now : List Router) (ds : List SentDatagram) (n : ℕ) (ts : Notes) (begun : Bool) (stopped : Option LabFault) (i : ℕ) (config new : Config)
    → IsNet ports ordered (lab configs rs links ds n ts begun stopped) → begun ≡ false → nth configs i ≡ Some config → IsFit new → length new.circuits ≡ length config.circuits → new.system ≡ config.system
    → configs_now ≡ with_nth configs i new → rs_now ≡ with_nth rs i (router_of new)
    → IsNet ports ordered (lab configs_now rs_now links ds n ts begun stopped)
config-new ports ordered links configs configs_now rs rs_now ds n ts begun stopped i config new h b at fit same own c r =
    subst (λ (xs : List Router). IsNet ports ordered (lab configs_now xs links ds n ts begun stopped)) (sym r)
    (subst (λ (xs : List Config). IsNet ports ordered (lab xs (with_nth rs i (router_of new)) links ds n ts begun stopped)) (sym c)
    (net-config ports ordered (lab configs rs links ds n ts begun stopped) i config new h b at fit same own))

pub config-view : (links : List (List End)) (configs configs_now : List Config) (rs rs_now : List Router) (ds : List SentDatagram) (n : ℕ) (ts : Notes) (begun : Bool) (stopped : Option LabFault) (old : LabNet) (i : ℕ) (new : Config)
    → lab configs rs links ds n ts begun stopped ≡ old → configs_now ≡ with_nth configs i new → rs_now ≡ with_nth rs i (router_of new)
    → lab configs_now rs_now links ds n ts begun stopped ≡ with_config old i new
config-view links configs configs_now rs rs_now ds n ts begun stopped old i new is c r =
    ap (λ (xs : List Config). lab xs rs_now links ds n ts begun stopped) c
    ∙ (ap (λ (xs : List Router). lab (with_nth configs i new) xs links ds n ts begun stopped) r
    ∙ ap (λ (a : LabNet). with_config a i new) is)

pub both-there : (ports : List (List ℕ)) (ordered : List (List End)) (a old : LabNet) (i : ℕ) → a ≡ old → IsNet ports ordered a → i < length old.configs → (i < length a.configs) × (i < length a.seen.routers)
both-there ports ordered a old i is h l =
    let s = ap (λ (x : LabNet). length x.configs) is in
    let m = sym (length-map a.configs (λ (c : Config). length c.circuits)) ∙ (ap length (h.configs ∙ sym h.routers) ∙ length-map a.seen.routers (λ (r : Router). length r.circuits)) in
    (omega (arith, l, s), omega (arith, l, s, m))

pub fit-at : (ports : List (List ℕ)) (ordered : List (List End)) (a : LabNet) (i : ℕ) (config : Config) → IsNet ports ordered a → a.begun ≡ false → nth a.configs i ≡ Some config → IsFit config
fit-at ports ordered a i config h b at = all-at IsFit a.configs i config (h.setup b).fit at

pub valid-at : (ports : List (List ℕ)) (ordered : List (List End)) (a : LabNet) (i : ℕ) (config : Config) → IsNet ports ordered a → a.begun ≡ false → nth a.configs i ≡ Some config → IsValid config
valid-at ports ordered a i config h b at = (fit-at ports ordered a i config h b at).valid

-- a list of ports that an index gives
pub port-at : (ports : List (List ℕ)) (ordered : List (List End)) (a : LabNet) (i : ℕ) (p : List ℕ) → IsNet ports ordered a → i < length a.configs → p ≡ get_or ports i p → nth ports i ≡ Some p
port-at ports ordered a i p h l e = nth-get ports i p (let m = sym (length-map a.configs (λ (c : Config). length c.circuits)) ∙ (ap length h.configs ∙ length-map ports length) in omega (arith, l, m)) e

-- ---- another circuit of a router

pub change-setup : (change : CircuitConfig → CircuitConfig) (ports : List (List ℕ)) (ordered links : List (List End)) (configs configs_now : List Config) (rs rs_now : List Router) (ds : List SentDatagram) (n : ℕ) (ts : Notes) (begun : Bool) (stopped : Option LabFault) (old : LabNet) (i circuit from : ℕ) (first config setup_config : Config) (setup_router : Router) (slice : List CircuitConfig) (item changed : CircuitConfig)
    → lab configs rs links ds n ts begun stopped ≡ old → IsNet ports ordered (lab configs rs links ds n ts begun stopped) → old.begun ≡ false → HasCircuit old i circuit
    → first ≡ get_or configs i first → config ≡ get_or configs i config → slice ≡ first.circuits → from ≡ circuit → item ≡ get_or slice (from - 1) item → changed ≡ item → (IsCircuit item → IsCircuit (change item))
    → setup_config ≡ with_circuit_at config (from - 1) (change changed) → setup_router ≡ router_of (with_circuit_at config (from - 1) (change changed)) → IsReached setup_router → configs_now ≡ with_nth configs i setup_config → rs_now ≡ with_nth rs i setup_router
    → IsNet ports ordered (lab configs_now rs_now links ds n ts begun stopped) × (lab configs_now rs_now links ds n ts begun stopped ≡ reconfigured old i (with_changed change circuit))
change-setup change ports ordered links configs configs_now rs rs_now ds n ts begun stopped old i circuit from first config setup_config setup_router slice item changed is h b there e1 e2 sl fr it ch fits sc sr reached cn rn = (
  config-new ports ordered links configs configs_now rs rs_now ds n ts begun stopped i config new h begun_is at fit (length-with config.circuits (circuit - 1) (change item)) refl configs_are routers_are,
  config-view links configs configs_now rs rs_now ds n ts begun stopped old i new is configs_are routers_are ∙ sym (config-is old i circuit change config item (ap (λ (l : LabNet). nth l.configs i) (sym is) ∙ at) here),
)
  where
    inside : i < length configs
    inside = let l = ap (λ (l : LabNet). length l.configs) is in let t = there.0 in omega (arith, l, t)

    at : nth configs i ≡ Some config
    at = nth-get configs i config inside e2

    same : first ≡ config
    same = some-same first config (sym (nth-get configs i first inside e1) ∙ at)

    counts : (1 ≤ circuit) × (circuit ≤ length config.circuits)
    counts = of-place (λ (c : Config). (1 ≤ circuit) × (circuit ≤ length c.circuits)) (nth old.configs i) config (ap (λ (l : LabNet). nth l.configs i) (sym is) ∙ at) there.1

    slice_is : slice ≡ config.circuits
    slice_is = sl ∙ ap (λ (c : Config). c.circuits) same

    here : nth config.circuits (circuit - 1) ≡ Some item
    here = ap (λ (xs : List CircuitConfig). nth xs (circuit - 1)) (sym slice_is) ∙ (ap (λ (k : ℕ). nth slice (k - 1)) (sym fr)
        ∙ nth-get slice (from - 1) item (let m = ap length slice_is in let lo = counts.0 in let hi = counts.1 in omega (arith, m, lo, hi, fr)) it)

    new : Config
    new = with_circuit_at config (circuit - 1) (change item)

    new_is : with_circuit_at config (from - 1) (change changed) ≡ new
    new_is = ap (λ (k : ℕ). with_circuit_at config (k - 1) (change changed)) fr ∙ ap (λ (x : CircuitConfig). with_circuit_at config (circuit - 1) (change x)) ch

    begun_is : begun ≡ false
    begun_is = ap (λ (l : LabNet). l.begun) is ∙ b

    old_fit : IsFit config
    old_fit = fit-at ports ordered (lab configs rs links ds n ts begun stopped) i config h begun_is at

    fit : IsFit new
    fit = fit-with config (circuit - 1) (change item) old_fit (fits (all-at IsCircuit config.circuits (circuit - 1) item old_fit.valid.circuits here))
        (subst IsReached (sr ∙ ap router_of new_is) reached)

    configs_are : configs_now ≡ with_nth configs i new
    configs_are = cn ∙ ap (with_nth configs i) (sc ∙ new_is)

    routers_are : rs_now ≡ with_nth rs i (router_of new)
    routers_are = rn ∙ ap (with_nth rs i) (sr ∙ ap router_of new_is)
