-- What holds of a network's parts, as it is set up and goes on.
use Rattle.std.proofs.Common.{◌≡◌, ◌≢◌, ℕ, zero, suc, ◌+◌, ◌<◌, ◌≤◌, ◌==◌, ◌||◌, ◌&&◌, Bool, true, false, List, [], ◌∷◌, ◌++◌, map, length, Option, Some, None, IfSome, unwrap_or, if◌then◌else◌, refl, sym, ap, ◌∙◌, subst, arith}
use Rattle.std.specs.List.{AllByRecursion}
use Rattle.std.proofs.lemmas.Bool.Decides.{nat_tests}
use Rattle.std.proofs.lemmas.List.{map-append, length-map}
use Rattle.model_router.specs.Places.{nth, with_nth}
use Rattle.model_router.specs.Routers.{Router}
use Rattle.model_router.specs.Numbers.{system_id, system_number}
use Rattle.model_router.proofs.ListLemmas.{all-map, all-append}
use Rattle.model_router.proofs.BookLemmas.{same-or}
use Rattle.model_network.specs.declared.end.End.{End}
use Rattle.model_network.specs.RunLines.{is_end, link_of}
use Rattle.router_desk.specs.declared.config.Config.{Config}
use Rattle.network_lab.specs.declared.notes.Notes.{Notes}
use Rattle.network_lab.specs.declared.sent.SentDatagram.{SentDatagram}
use Rattle.lab_keys.specs.declared.faults.LabFault.{LabFault}
use Rattle.network_lab.specs.LabNets.{LabNet, router_of, with_router, AreDistinct, systems_of}
use Rattle.network_lab.specs.LabInside.{counts_of, shapes_of, IsEndThere, AreEndsThere, ArePorts, IsFit, IsSetUp, IsNet}
use Rattle.network_lab.specs.Reached.{AreSmall, HasRun}
use Rattle.network_lab.proofs.PlaceLemmas.{if-no, self, differ, some-same}

-- ---- a run

counts-in : (rs : List Router) → map (λ (s : ℕ × ℕ). s.1) (shapes_of rs) ≡ counts_of rs
counts-in [] = refl
counts-in (r ∷ rs) = ap (λ (ns : List ℕ). length r.circuits ∷ ns) (counts-in rs)

systems-in : (rs : List Router) → map (λ (s : ℕ × ℕ). s.0) (shapes_of rs) ≡ systems_of rs
systems-in [] = refl
systems-in (r ∷ rs) = ap (λ (ns : List ℕ). r.config.system ∷ ns) (systems-in rs)

pub net-goes : (ports : List (List ℕ)) (ordered : List (List End)) (old : LabNet) (rs : List Router) (ds : List SentDatagram) (n : ℕ) (ts : Notes) (stop : Option LabFault) → IsNet ports ordered old → shapes_of rs ≡ shapes_of old.seen.routers → length ds ≤ 262144
    → AreSmall ds → (stop ≡ None → n ≡ 0 → HasRun (record { routers = rs; links = old.seen.links; sent = ds; injected = n; noted = ts }))
    → IsNet ports ordered (record { configs = old.configs; seen = record { routers = rs; links = old.seen.links; sent = ds; injected = n; noted = ts }; begun = true; stopped = stop })
net-goes ports ordered old rs ds n ts stop h same few small run = record {
  routers = sym (counts-in rs) ∙ (ap (map (λ (s : ℕ × ℕ). s.1)) same ∙ (counts-in old.seen.routers ∙ h.routers));
  configs = h.configs;
  systems = subst AreDistinct (sym (systems-in old.seen.routers) ∙ (ap (map (λ (s : ℕ × ℕ). s.0)) (sym same) ∙ systems-in rs)) h.systems;
  ends = h.ends;
  ported = h.ported;
  sorted = h.sorted;
  wired = h.wired;
  apart = h.apart;
  few = few;
  small = small;
  setup = λ e. absurd (cc);
  run = λ _ going none. run going none;
}

-- another configuration of a router, with as many circuits
counts-put : (configs : List Config) (i : ℕ) (config : Config) → IfSome (nth configs i) (λ (c : Config). length config.circuits ≡ length c.circuits) → map (λ (c : Config). length c.circuits) (with_nth configs i config) ≡ map (λ (c : Config). length c.circuits) configs
counts-put [] i config h = refl
counts-put (c ∷ configs) zero config h = ap (λ (n : ℕ). n ∷ map (λ (c : Config). length c.circuits) configs) h
counts-put (c ∷ configs) (suc i) config h = ap (λ (ns : List ℕ). length c.circuits ∷ ns) (counts-put configs i config h)

pub net-put : (ports : List (List ℕ)) (ordered : List (List End)) (old : LabNet) (i : ℕ) (config : Config) → IsNet ports ordered old → old.begun ≡ true → IfSome (nth old.configs i) (λ (c : Config). length config.circuits ≡ length c.circuits)
    → IsNet ports ordered (record old { configs = with_nth old.configs i config })
net-put ports ordered old i config h begun count = record {
  routers = h.routers;
  configs = counts-put old.configs i config count ∙ h.configs;
  systems = h.systems;
  ends = h.ends;
  ported = h.ported;
  sorted = h.sorted;
  wired = h.wired;
  apart = h.apart;
  few = h.few;
  small = h.small;
  setup = λ e. absurd (let clash = sym begun ∙ e in cc);
  run = h.run;
}

-- there is a configuration for each router
pub config-there : (ports : List (List ℕ)) (ordered : List (List End)) (a : LabNet) → IsNet ports ordered a → length a.configs ≡ length a.seen.routers
config-there ports ordered a h =
    sym (length-map a.configs (λ (c : Config). length c.circuits))
    ∙ (ap length h.configs ∙ (sym (ap length h.routers) ∙ length-map a.seen.routers (λ (r : Router). length r.circuits)))

-- ---- lists with an item more

abbrev pub first_of : {A : Type 0} → Option A → Option A → Option A
first_of None b = b
first_of (Some a) b = Some a

eqb-suc : (a b : ℕ) → (suc a == suc b) ≡ (a == b)
eqb-suc a b = same-or (λ t. (suc a == suc b) ≡ t) a b (λ e. ap (λ (n : ℕ). suc a == suc n) (sym e) ∙ self (suc a)) (λ n. differ (suc a) (suc b) (λ q. n (omega (arith, q))))

pub nth-snoc : {A : Type 0} (xs : List A) (x : A) (i : ℕ) → nth (xs ++ (x ∷ [])) i ≡ first_of (nth xs i) (if length xs == i then Some x else None)
nth-snoc [] x zero = refl
nth-snoc [] x (suc i) = sym (if-no _ _ _ (differ 0 (suc i) (λ q. omega (arith, q))))
nth-snoc (y ∷ xs) x zero = refl
nth-snoc (y ∷ xs) x (suc i) = nth-snoc xs x i ∙ ap (λ (b : Bool). first_of (nth xs i) (if b then Some x else None)) (sym (eqb-suc (length xs) i))

pub link-snoc : (router place from : ℕ) (links : List (List End)) (ends : List End) → link_of router place from (links ++ (ends ∷ [])) ≡ first_of (link_of router place from links) (if is_end router place ends then Some (from + length links) else None)
link-snoc router place from [] ends = ap (λ (n : ℕ). if is_end router place ends then Some n else None) (omega arith)
link-snoc router place from (x ∷ links) ends = of (is_end router place x) (link-snoc router place (from + 1) links ends)
  where
    of : (b : Bool) → link_of router place (from + 1) (links ++ (ends ∷ [])) ≡ first_of (link_of router place (from + 1) links) (if is_end router place ends then Some (from + 1 + length links) else None) → (if b then Some from else link_of router place (from + 1) (links ++ (ends ∷ []))) ≡ first_of (if b then Some from else link_of router place (from + 1) links) (if is_end router place ends then Some (from + length (x ∷ links)) else None)
    of true r = refl
    of false r = r ∙ ap (λ (n : ℕ). first_of (link_of router place (from + 1) links) (if is_end router place ends then Some n else None)) (omega arith)

-- ---- ends

pub end-less : (counts : List ℕ) (i place : ℕ) → place < unwrap_or (nth counts i) 0 → i < length counts
end-less [] i place h = absurd (omega (arith, h))
end-less (c ∷ counts) zero place h = omega arith
end-less (c ∷ counts) (suc i) place h = let k = end-less counts i place h in omega (arith, k)

pub ends-more : (counts more : List ℕ) → ((i : ℕ) → unwrap_or (nth counts i) 0 ≤ unwrap_or (nth more i) 0) → (links : List (List End)) → AllByRecursion (AreEndsThere counts) links → AllByRecursion (AreEndsThere more) links
ends-more counts more m links h = all-map (AreEndsThere counts) (AreEndsThere more) links (λ ends t. all-map (IsEndThere counts) (IsEndThere more) ends (λ e k. let n = m e.router in omega (arith, k, n)) t) h

not-end : (counts : List ℕ) (ends : List End) → AllByRecursion (IsEndThere counts) ends → (router place : ℕ) → length counts ≤ router → is_end router place ends ≡ false
not-end counts [] h router place past = refl
not-end counts (e ∷ ends) h router place past =
    let inside = end-less counts e.router e.place h.0 in
    ap (λ (b : Bool). (b && e.place == place) || is_end router place ends) (differ e.router router (λ q. omega (arith, inside, past, q))) ∙ not-end counts ends h.1 router place past

no-link : (counts : List ℕ) (links : List (List End)) → AllByRecursion (AreEndsThere counts) links → (router place from : ℕ) → length counts ≤ router → link_of router place from links ≡ None
no-link counts [] h router place from past = refl
no-link counts (ends ∷ links) h router place from past = if-no _ _ _ (not-end counts ends h.0 router place past) ∙ no-link counts links h.1 router place (from + 1) past

-- ---- a router more

ports-router : (ports : List (List ℕ)) (links : List (List End)) → AllByRecursion (AreEndsThere (map length ports)) links → ArePorts ports links → ArePorts (ports ++ ([] ∷ [])) links
ports-router ports links there h = record {
  each = λ router list e place. of router list place (nth ports router) refl (length ports == router) refl (sym (nth-snoc ports [] router) ∙ e);
}
  where
    of : (router : ℕ) (list : List ℕ) (place : ℕ) (o : Option (List ℕ)) → nth ports router ≡ o → (b : Bool) → (length ports == router) ≡ b → first_of o (if b then Some [] else None) ≡ Some list → link_of router place 0 links ≡ nth list place
    of router list place (Some old) q b t e = h.each router list (q ∙ e) place
    of router list place None q true t e =
        let same : length ports ≡ router = grind (arith, nat_tests, t) in
        no-link (map length ports) links there router place 0 (let n = length-map ports length in omega (arith, n, same)) ∙ ap (λ (xs : List ℕ). nth xs place) (some-same [] list e)
    of router list place None q false t e = absurd (cc)

counts-snoc : (counts : List ℕ) (n i : ℕ) → unwrap_or (nth counts i) 0 ≤ unwrap_or (nth (counts ++ (n ∷ [])) i) 0
counts-snoc [] n i = omega arith
counts-snoc (c ∷ counts) n zero = omega arith
counts-snoc (c ∷ counts) n (suc i) = counts-snoc counts n i

pub router-count : (config : Config) → length (router_of config).circuits ≡ length config.circuits
router-count config = length-map _ _ ∙ length-map _ _

pub distinct-snoc : (xs : List ℕ) (y : ℕ) → AreDistinct xs → AllByRecursion (λ x. x ≢ y) xs → AreDistinct (xs ++ (y ∷ []))
distinct-snoc [] y h off = (tt, tt)
distinct-snoc (x ∷ xs) y h off = (all-append (λ z. x ≢ z) xs (y ∷ []) h.0 (off.0, tt), distinct-snoc xs y h.1 off.1)

-- other system IDs have other numbers
other-systems : (config : Config) → IsFit config → (configs : List Config) → AllByRecursion IsFit configs → AllByRecursion (λ (other : Config). other.system ≢ config.system) configs
    → AllByRecursion (λ n. n ≢ system_number config.system) (systems_of (map router_of configs))
other-systems config fit [] fits fresh = tt
other-systems config fit (other ∷ configs) fits fresh =
    ((λ e. fresh.0 (sym fits.0.system ∙ (ap system_id e ∙ fit.system))), other-systems config fit configs fits.1 fresh.1)

pub net-router : (ports : List (List ℕ)) (ordered : List (List End)) (old : LabNet) (config : Config) → IsNet ports ordered old → old.begun ≡ false → IsFit config → config.circuits ≡ [] → AllByRecursion (λ (other : Config). other.system ≢ config.system) old.configs
    → IsNet (ports ++ ([] ∷ [])) ordered (with_router old config)
net-router ports ordered old config h begun fit bare fresh = record {
  routers = map-append _ old.seen.routers (router_of config ∷ []) ∙ (two h.routers (router-count config ∙ ap length bare) ∙ sym (map-append length ports ([] ∷ [])));
  configs = map-append _ old.configs (config ∷ []) ∙ (two h.configs (ap length bare) ∙ sym (map-append length ports ([] ∷ [])));
  systems = subst AreDistinct (sym (map-append (λ (r : Router). r.config.system) old.seen.routers (router_of config ∷ [])))
      (distinct-snoc (systems_of old.seen.routers) (system_number config.system) h.systems
      (subst (λ (rs : List Router). AllByRecursion (λ n. n ≢ system_number config.system) (systems_of rs)) (sym s.routers) (other-systems config fit old.configs s.fit fresh)));
  ends = subst (λ (counts : List ℕ). AllByRecursion (AreEndsThere counts) old.seen.links) (sym (map-append length ports ([] ∷ []))) (ends-more (map length ports) (map length ports ++ (0 ∷ [])) (counts-snoc (map length ports) 0) old.seen.links h.ends);
  ported = ports-router ports old.seen.links h.ends h.ported;
  sorted = h.sorted;
  wired = h.wired;
  apart = h.apart;
  few = h.few;
  small = h.small;
  setup = λ e. record {
    fit = all-append IsFit old.configs (config ∷ []) s.fit (fit, tt);
    routers = ap (λ (rs : List Router). rs ++ (router_of config ∷ [])) s.routers ∙ sym (map-append router_of old.configs (config ∷ []));
    nothing = s.nothing;
    none = s.none;
    unnoted = s.unnoted;
  };
  run = λ e _ _. absurd (let clash : true ≡ false = sym e ∙ begun in cc);
}
  where
    s : IsSetUp old.configs old.seen
    s = h.setup begun

    two : {xs ys : List ℕ} {m n : ℕ} → xs ≡ ys → m ≡ n → xs ++ (m ∷ []) ≡ ys ++ (n ∷ [])
    two e f = cc
