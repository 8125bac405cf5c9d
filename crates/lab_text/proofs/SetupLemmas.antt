-- What each call that sets a network up keeps.
use Rattle.std.proofs.Common.{◌≡◌, ◌≢◌, ℕ, zero, suc, ◌+◌, ◌<◌, ◌≤◌, ◌-◌, nat_le, Bool, true, false, ◌==◌, ◌||◌, List, [], ◌∷◌, ◌++◌, length, map, take, drop, get_or, Option, Some, None, IfSome, cond, refl, sym, ap, ◌∙◌, subst, arith, length-append}
use Rattle.std.proofs.lemmas.Bool.Decides.{nat_tests}
use Rattle.std.proofs.lemmas.List.{drop_more, at_drop_more, take-append-drop, map-append, length-map}
use Rattle.std.specs.List.{AllByRecursion, list_any}
use Rattle.isis_base.specs.declared.identifiers.SystemId.{SystemId}
use Rattle.isis_base.specs.declared.level.CircuitKind.{CircuitKind}
use Rattle.isis_base.specs.declared.level.CircuitKind.TheVariants.{PointToPoint, Lan}
use Rattle.model_router.specs.Places.{nth, with_nth}
use Rattle.model_router.proofs.BookLemmas.{test}
use Rattle.model_router.proofs.ListLemmas.{all-map}
use Rattle.router_desk.specs.declared.circuit_config.CircuitConfig.{CircuitConfig}
use Rattle.router_desk.specs.declared.config.Config.{Config}
use Rattle.model_network.specs.declared.end.End as model
use Rattle.network_lab.specs.LabNets.{LabNet, empty_lab, router_of, with_router, configured, reconfigured, new_circuit, with_circuit, with_circuits, circuit_count as config_count, next_place, next_end, with_ends, at_circuit, with_changed, with_key, AreDistinct as AreApart}
use Rattle.network_lab.specs.LabCauses.{HasCircuit, has_full}
use Rattle.lab_script.specs.declared.setup.End.{End}
use Rattle.lab_script.specs.declared.setup.LabLink.{LabLink}
use Rattle.lab_script.specs.declared.setup.LabRouter.{LabRouter}
use Rattle.lab_script.specs.LabScripts.{end_routers, is_among, is_end, circuit_count}
use Rattle.lab_script.specs.LabSound.{AreDistinct, IsLaidLink}
use Rattle.lab_text.specs.Played.{end_in, ends_of}
use Rattle.lab_text.specs.Layouts.{priority_in, with_own_priority, with_priorities, with_priorities_on, with_laid}
use Rattle.lab_text.specs.Setups.{IsSetup, HasRouters, HasLinks, HasEnd, IsNextLink}
use Rattle.lab_text.proofs.EndLemmas.{count-append}

-- ---- lists

length-with : {A : Type 0} (xs : List A) (i : ℕ) (y : A) → length (with_nth xs i y) ≡ length xs
length-with [] i y = refl
length-with (x ∷ xs) zero y = refl
length-with (x ∷ xs) (suc i) y = ap (λ (n : ℕ). suc n) (length-with xs i y)

nth-with : {A : Type 0} (xs : List A) (i : ℕ) (x y : A) → nth xs i ≡ Some x → nth (with_nth xs i y) i ≡ Some y
nth-with [] i x y e = absurd (cc)
nth-with (z ∷ xs) zero x y e = refl
nth-with (z ∷ xs) (suc i) x y e = nth-with xs i x y e

nth-beside : {A : Type 0} (xs : List A) (i k : ℕ) (y : A) → (i ≡ k → ⊥) → nth (with_nth xs i y) k ≡ nth xs k
nth-beside [] i k y apart = refl
nth-beside (x ∷ xs) zero zero y apart = absurd (apart refl)
nth-beside (x ∷ xs) zero (suc k) y apart = refl
nth-beside (x ∷ xs) (suc i) zero y apart = refl
nth-beside (x ∷ xs) (suc i) (suc k) y apart = nth-beside xs i k y (λ e. apart (ap (λ (n : ℕ). suc n) e))

not-none : {A : Type 0} (xs : List A) (i : ℕ) → i < length xs → nth xs i ≡ None → ⊥
not-none [] i h e = omega (arith, h)
not-none (x ∷ xs) zero h e = absurd (cc)
not-none (x ∷ xs) (suc i) h e = not-none xs i (omega (arith, h)) e

nth-last : {A : Type 0} (xs : List A) (y : A) (k : ℕ) → k < length xs → nth (xs ++ y ∷ []) k ≡ nth xs k
nth-last [] y k h = absurd (omega (arith, h))
nth-last (x ∷ xs) y zero h = refl
nth-last (x ∷ xs) y (suc k) h = nth-last xs y k (omega (arith, h))

nth-past : {A : Type 0} (xs : List A) (k : ℕ) → length xs ≤ k → nth xs k ≡ None
nth-past [] k h = refl
nth-past (x ∷ xs) zero h = absurd (omega (arith, h))
nth-past (x ∷ xs) (suc k) h = nth-past xs k (omega (arith, h))

nth-end : {A : Type 0} (xs : List A) (y : A) (k : ℕ) → k ≡ length xs → nth (xs ++ y ∷ []) k ≡ Some y
nth-end [] y zero e = refl
nth-end [] y (suc k) e = absurd (omega (arith, e))
nth-end (x ∷ xs) y zero e = absurd (omega (arith, e))
nth-end (x ∷ xs) y (suc k) e = nth-end xs y k (omega (arith, e))

-- ---- a router more

bare-last : (configs : List Config) (config : Config) → config.circuits ≡ [] → ((k : ℕ) → config_count (nth configs k) ≡ 0) → (k : ℕ) → config_count (nth (configs ++ config ∷ []) k) ≡ 0
bare-last configs config none bare k =
    test (λ b. (k == length configs) ≡ b → config_count (nth (configs ++ config ∷ []) k) ≡ 0) (k == length configs)
    (λ _ yes. ap (λ (o : Option Config). config_count o) (nth-end configs config k (grind (arith, nat_tests, yes))) ∙ ap (λ (cs : List CircuitConfig). length cs) none)
    (λ _ no. within configs k bare (λ e. grind (arith, nat_tests, no, e))) refl
  where
    within : (configs : List Config) (k : ℕ) → ((k : ℕ) → config_count (nth configs k) ≡ 0) → (k ≡ length configs → ⊥) → config_count (nth (configs ++ config ∷ []) k) ≡ 0
    within [] zero bare a = absurd (a refl)
    within [] (suc k) bare a = refl
    within (c ∷ configs) zero bare a = bare 0
    within (c ∷ configs) (suc k) bare a = within configs k (λ n. bare (suc n)) (λ e. a (ap (λ (n : ℕ). suc n) e))

pub router-more : (routers : List LabRouter) (a : LabNet) (router : LabRouter) (config : Config) → config.system ≡ router.system → config.circuits ≡ [] → HasRouters routers a → HasRouters (routers ++ router ∷ []) (with_router a config)
router-more routers a router config same none h = record {
  setup = record {
    early = h.setup.early;
    going = h.setup.going;
    unsent = h.setup.unsent;
    clean = h.setup.clean;
    unnoted = h.setup.unnoted;
    same = length-append a.seen.routers (router_of config ∷ []) ∙ ap (λ (n : ℕ). n + 1) h.setup.same ∙ sym (length-append a.configs (config ∷ []));
  };
  systems = map-append (λ (c : Config). c.system) a.configs (config ∷ []) ∙ ap (λ (ss : List SystemId). ss ++ config.system ∷ []) h.systems ∙ ap (λ (s : SystemId). map (λ (r : LabRouter). r.system) routers ++ s ∷ []) same ∙ sym (map-append (λ (r : LabRouter). r.system) routers (router ∷ []));
  bare = bare-last a.configs config none h.bare;
  linkless = h.linkless;
}

pub no-routers : HasRouters [] empty_lab
no-routers = record {
  setup = record { early = refl; going = refl; unsent = refl; clean = refl; unnoted = refl; same = refl };
  systems = refl;
  bare = λ k. refl;
  linkless = refl;
}

pub routers-links : (routers : List LabRouter) (a : LabNet) → HasRouters routers a → HasLinks (length routers) [] a
routers-links routers a h = record {
  setup = h.setup;
  count_is = sym (length-map a.configs (λ (c : Config). c.system)) ∙ ap (λ (ss : List SystemId). length ss) h.systems ∙ length-map routers (λ (r : LabRouter). r.system);
  links_are = h.linkless;
  places = h.bare;
}

-- each system so far is another than that of the router at the next place
all-from : (P : Config → Type 0) (configs : List Config) → ((k : ℕ) (c : Config) → nth configs k ≡ Some c → P c) → AllByRecursion P configs
all-from P [] f = tt
all-from P (c ∷ configs) f = (f 0 c refl, all-from P configs (λ k x e. f (suc k) x e))

pub systems-fresh : (routers : List LabRouter) (n : ℕ) (router : LabRouter) (configs : List Config) → n < length routers → router ≡ get_or routers n router → AreDistinct (map (λ (r : LabRouter). r.system) routers)
    → map (λ (c : Config). c.system) configs ≡ map (λ (r : LabRouter). r.system) (take n routers) → AllByRecursion (λ (other : Config). other.system ≢ router.system) configs
systems-fresh routers n router configs h is distinct same = all-from (λ (other : Config). other.system ≢ router.system) configs (λ k c e q.
    let here : k < length configs = nth-within configs k c e in
    let count : length configs ≡ length (take n routers) = sym (length-map configs (λ (x : Config). x.system)) ∙ ap (λ (ss : List SystemId). length ss) same ∙ length-map (take n routers) (λ (r : LabRouter). r.system) in
    let low : k < n = below-take routers k n (subst (λ (m : ℕ). k < m) count here) in
    let mine : c.system ≡ get_or (map (λ (x : Config). x.system) configs) k c.system = map-at (λ (x : Config). x.system) configs k c e in
    let theirs : get_or (map (λ (x : Config). x.system) configs) k c.system ≡ get_or (map (λ (r : LabRouter). r.system) routers) k c.system =
    ap (λ (ss : List SystemId). get_or ss k c.system) same ∙ at-take (λ (r : LabRouter). r.system) routers n k c.system low in
    let last : get_or (map (λ (r : LabRouter). r.system) routers) n c.system ≡ router.system = at-map (λ (r : LabRouter). r.system) routers n router c.system h ∙ ap (λ (r : LabRouter). r.system) (sym is) in
    distinct k n c.system low (subst (λ (m : ℕ). n < m) (sym (length-map routers (λ (r : LabRouter). r.system))) h) (sym theirs ∙ sym mine ∙ q ∙ sym last))
  where
    nth-within : (configs : List Config) (k : ℕ) (c : Config) → nth configs k ≡ Some c → k < length configs
    nth-within [] k c e = absurd (cc)
    nth-within (x ∷ configs) zero c e = omega arith
    nth-within (x ∷ configs) (suc k) c e = let rest = nth-within configs k c e in omega (arith, rest)

    below-take : (rs : List LabRouter) (k n : ℕ) → k < length (take n rs) → k < n
    below-take rs k zero h = absurd (omega (arith, h))
    below-take [] k (suc n) h = absurd (omega (arith, h))
    below-take (r ∷ rs) zero (suc n) h = omega arith
    below-take (r ∷ rs) (suc k) (suc n) h = let rest = below-take rs k n (omega (arith, h)) in omega (arith, rest)

    or-first : Config → Option Config → Config
    or-first x None = x
    or-first x (Some c) = c

    of-some : (x c : Config) → ◌≡◌ {A = Option Config} (Some x) (Some c) → x ≡ c
    of-some x c e = ap (λ (o : Option Config). or-first x o) e

    map-at : (f : Config → SystemId) (configs : List Config) (k : ℕ) (c : Config) → nth configs k ≡ Some c → f c ≡ get_or (map f configs) k (f c)
    map-at f [] k c e = absurd (cc)
    map-at f (x ∷ configs) zero c e = ap f (sym (of-some x c e))
    map-at f (x ∷ configs) (suc k) c e = map-at f configs k c e

    at-take : (f : LabRouter → SystemId) (rs : List LabRouter) (n k : ℕ) (d : SystemId) → k < n → get_or (map f (take n rs)) k d ≡ get_or (map f rs) k d
    at-take f rs zero k d h = absurd (omega (arith, h))
    at-take f [] (suc n) k d h = refl
    at-take f (r ∷ rs) (suc n) zero d h = refl
    at-take f (r ∷ rs) (suc n) (suc k) d h = at-take f rs n k d (omega (arith, h))

    at-map : (f : LabRouter → SystemId) (rs : List LabRouter) (n : ℕ) (r : LabRouter) (d : SystemId) → n < length rs → get_or (map f rs) n d ≡ f (get_or rs n r)
    at-map f [] n r d h = absurd (omega (arith, h))
    at-map f (x ∷ rs) zero r d h = refl
    at-map f (x ∷ rs) (suc n) r d h = at-map f rs n r d (omega (arith, h))

-- ---- a configuration changes

setup-kept : (a : LabNet) (i : ℕ) (change : Config → Config) (o : Option Config) → IsSetup a → IsSetup (configured a i change o)
setup-kept a i change None h = h
setup-kept a i change (Some config) h = record {
  early = h.early;
  going = h.going;
  unsent = h.unsent;
  clean = h.clean;
  unnoted = h.unnoted;
  same = length-with a.seen.routers i (router_of (change config)) ∙ h.same ∙ sym (length-with a.configs i (change config));
}

count-kept : (a : LabNet) (i : ℕ) (change : Config → Config) (o : Option Config) → length (configured a i change o).configs ≡ length a.configs
count-kept a i change None = refl
count-kept a i change (Some config) = length-with a.configs i (change config)

begun-kept : (a : LabNet) (i : ℕ) (change : Config → Config) (o : Option Config) → (configured a i change o).begun ≡ a.begun
begun-kept a i change None = refl
begun-kept a i change (Some config) = refl

links-kept : (a : LabNet) (i : ℕ) (change : Config → Config) (o : Option Config) → (configured a i change o).seen.links ≡ a.seen.links
links-kept a i change None = refl
links-kept a i change (Some config) = refl

place-beside : (a : LabNet) (i k : ℕ) (change : Config → Config) (o : Option Config) → (i ≡ k → ⊥) → next_place (configured a i change o) k ≡ next_place a k
place-beside a i k change None apart = refl
place-beside a i k change (Some config) apart = ap (λ (o : Option Config). config_count o) (nth-beside a.configs i k (change config) apart)

place-at : (a : LabNet) (i : ℕ) (change : Config → Config) (more : ℕ) (o : Option Config) → nth a.configs i ≡ o → i < length a.configs → ((config : Config) → length (change config).circuits ≡ length config.circuits + more)
    → next_place (configured a i change o) i ≡ next_place a i + more
place-at a i change more None e h grows = absurd (not-none a.configs i h e)
place-at a i change more (Some config) e h grows =
    ap (λ (o : Option Config). config_count o) (nth-with a.configs i config (change config) e) ∙ grows config ∙ ap (λ (o : Option Config). config_count o + more) (sym e)

-- ---- circuits more, one of each of some routers

one-more : (c : CircuitConfig) (config : Config) → length (with_circuit c config).circuits ≡ length config.circuits + 1
one-more c config = length-append config.circuits (c ∷ [])

circuits-setup : (c : CircuitConfig) (ms : List ℕ) (a : LabNet) → IsSetup a → IsSetup (with_circuits c ms a)
circuits-setup c [] a h = h
circuits-setup c (m ∷ ms) a h = circuits-setup c ms (reconfigured a m (with_circuit c)) (setup-kept a m (with_circuit c) (nth a.configs m) h)

circuits-count : (c : CircuitConfig) (ms : List ℕ) (a : LabNet) → length (with_circuits c ms a).configs ≡ length a.configs
circuits-count c [] a = refl
circuits-count c (m ∷ ms) a = circuits-count c ms (reconfigured a m (with_circuit c)) ∙ count-kept a m (with_circuit c) (nth a.configs m)

circuits-links : (c : CircuitConfig) (ms : List ℕ) (a : LabNet) → (with_circuits c ms a).seen.links ≡ a.seen.links
circuits-links c [] a = refl
circuits-links c (m ∷ ms) a = circuits-links c ms (reconfigured a m (with_circuit c)) ∙ links-kept a m (with_circuit c) (nth a.configs m)

none-beside : (m : ℕ) (ms : List ℕ) → AllByRecursion (λ j. m ≢ j) ms → list_any (λ (j : ℕ). j == m) ms ≡ false
none-beside m [] h = refl
none-beside m (j ∷ ms) h =
    let other : (j == m) ≡ false = grind (arith, nat_tests, h.0) in
    ap (λ (t : Bool). t || list_any (λ (j : ℕ). j == m) ms) other ∙ none-beside m ms h.1

circuits-places : (c : CircuitConfig) (ms : List ℕ) (a : LabNet) (k : ℕ) → AllByRecursion (λ m. m < length a.configs) ms → AreApart ms
    → next_place (with_circuits c ms a) k ≡ next_place a k + cond {A = ℕ} (list_any (λ (m : ℕ). m == k) ms) 1 0
circuits-places c [] a k there apart = omega arith
circuits-places c (m ∷ ms) a k there apart =
    let b = reconfigured a m (with_circuit c) in
    let rest = circuits-places c ms b k (subst (λ (n : ℕ). AllByRecursion (λ j. j < n) ms) (sym (count-kept a m (with_circuit c) (nth a.configs m))) there.1) apart.1 in
    test (λ t. (m == k) ≡ t → next_place (with_circuits c ms b) k ≡ next_place a k + cond {A = ℕ} (m == k || list_any (λ (j : ℕ). j == k) ms) 1 0) (m == k)
    (λ _ yes. let same : m ≡ k = grind (arith, nat_tests, yes) in
    let add : cond {A = ℕ} (m == k || list_any (λ (j : ℕ). j == k) ms) 1 0 ≡ 1 = ap (λ (t : Bool). cond {A = ℕ} (t || list_any (λ (j : ℕ). j == k) ms) 1 0) yes in
    let none : cond {A = ℕ} (list_any (λ (j : ℕ). j == k) ms) 1 0 ≡ 0 = ap (λ (t : Bool). cond {A = ℕ} t 1 0) (subst (λ (n : ℕ). list_any (λ (j : ℕ). j == n) ms ≡ false) same (none-beside m ms apart.0)) in
    let here : next_place b k ≡ next_place a k + 1 = subst (λ (n : ℕ). next_place b n ≡ next_place a n + 1) same (place-at a m (with_circuit c) 1 (nth a.configs m) refl there.0 (one-more c)) in
    omega (arith, rest, here, none, add))
    (λ _ no. let add : cond {A = ℕ} (m == k || list_any (λ (j : ℕ). j == k) ms) 1 0 ≡ cond {A = ℕ} (list_any (λ (j : ℕ). j == k) ms) 1 0 = ap (λ (t : Bool). cond {A = ℕ} (t || list_any (λ (j : ℕ). j == k) ms) 1 0) no in
    let here : next_place b k ≡ next_place a k = place-beside a m k (with_circuit c) (nth a.configs m) (λ e. grind (arith, nat_tests, no, e)) in
    omega (arith, rest, here, add)) refl

circuits-begun : (c : CircuitConfig) (ms : List ℕ) (a : LabNet) → (with_circuits c ms a).begun ≡ a.begun
circuits-begun c [] a = refl
circuits-begun c (m ∷ ms) a = circuits-begun c ms (reconfigured a m (with_circuit c)) ∙ begun-kept a m (with_circuit c) (nth a.configs m)

-- ---- a link or LAN more

any-router : (ends : List End) (k : ℕ) → list_any (λ (m : ℕ). m == k) (end_routers ends) ≡ is_among ends k
any-router [] k = refl
any-router (e ∷ ends) k = ap (λ (t : Bool). e.router == k || t) (any-router ends k)

row-same : (a : LabNet) (ends : List End) → AllByRecursion (λ e. e.place ≡ next_place a e.router) ends → map (next_end a.configs) (end_routers ends) ≡ map end_in ends
row-same a [] h = refl
row-same a (e ∷ ends) h =
    ap (λ (n : ℕ). record { router = e.router; place = n } ∷ map (next_end a.configs) (end_routers ends)) (sym h.0)
    ∙ ap (λ (es : List model.End). end_in e ∷ es) (row-same a ends h.1)

pub ends-more : (count : ℕ) (links : List LabLink) (a : LabNet) (l : LabLink) (c : CircuitConfig) → IsNextLink a l → HasLinks count links a → HasLinks count (links ++ l ∷ []) (with_ends a (end_routers l.ends) c)
ends-more count links a l c next h = record {
  setup = record { early = kept.early; going = kept.going; unsent = kept.unsent; clean = kept.clean; unnoted = kept.unnoted; same = kept.same };
  count_is = circuits-count c (end_routers l.ends) a ∙ h.count_is;
  links_are = ap (λ (ls : List (List model.End)). ls ++ map (next_end a.configs) (end_routers l.ends) ∷ []) (circuits-links c (end_routers l.ends) a ∙ h.links_are)
      ∙ ap (λ (es : List model.End). map ends_of links ++ es ∷ []) (row-same a l.ends next.places)
      ∙ sym (map-append ends_of links (l ∷ []));
  places = λ k. let new = circuits-places c (end_routers l.ends) a k next.there next.apart in
      let more = count-append links (l ∷ []) k in
      let old = h.places k in
      let is : cond {A = ℕ} (list_any (λ (m : ℕ). m == k) (end_routers l.ends)) 1 0 ≡ cond {A = ℕ} (is_end l k) 1 0 = ap (λ (t : Bool). cond {A = ℕ} t 1 0) (any-router l.ends k) in
      omega (arith, new, more, old, is);
}
  where
    kept : IsSetup (with_circuits c (end_routers l.ends) a)
    kept = circuits-setup c (end_routers l.ends) a h.setup

-- an end of a link that is still to come has room
pub room-at : (links : List LabLink) (i : ℕ) (l : LabLink) (router : ℕ) → i < length links → l ≡ get_or links i l → is_end l router ≡ true → circuit_count links router ≤ 64 → circuit_count (take i links) router < 64
room-at links i l router h is end few =
    let whole : circuit_count links router ≡ circuit_count (take i links) router + circuit_count (drop i links) router = ap (λ (ls : List LabLink). circuit_count ls router) (sym (take-append-drop i links)) ∙ count-append (take i links) (drop i links) router in
    let rest : circuit_count (drop i links) router ≡ (0 + cond (is_end l router) 1 0) + circuit_count (drop (i + 1) links) router =
    ap (λ (ls : List LabLink). circuit_count ls router) (drop_more links i l h ∙ ap (λ (x : LabLink). x ∷ drop (i + 1) links) (sym is)) ∙ count-append (l ∷ []) (drop (i + 1) links) router in
    let one : cond {A = ℕ} (is_end l router) 1 0 ≡ 1 = ap (λ (t : Bool). cond {A = ℕ} t 1 0) end in
    omega (arith, whole, rest, one, few)

-- ---- a circuit changes

same-count : (change : CircuitConfig → CircuitConfig) (circuit : ℕ) (config : Config) → length (with_changed change circuit config).circuits ≡ length config.circuits + 0
same-count change circuit config = of (nth config.circuits (circuit - 1))
  where
    of : (o : Option CircuitConfig) → length (at_circuit change (circuit - 1) config.circuits o) ≡ length config.circuits + 0
    of None = omega arith
    of (Some c) = let e = length-with config.circuits (circuit - 1) (change c) in omega (arith, e)

pub changed-places : (a : LabNet) (router circuit : ℕ) (f : CircuitConfig → CircuitConfig) (k : ℕ) → next_place (reconfigured a router (with_changed f circuit)) k ≡ next_place a k
changed-places a router circuit f k =
    test (λ t. (router == k) ≡ t → next_place (reconfigured a router change) k ≡ next_place a k) (router == k)
    (λ _ yes. subst (λ (n : ℕ). next_place (reconfigured a router change) n ≡ next_place a n) (grind (arith, nat_tests, yes)) (here (nth a.configs router) refl))
    (λ _ no. place-beside a router k change (nth a.configs router) (λ e. grind (arith, nat_tests, no, e))) refl
  where
    change : Config → Config
    change = with_changed f circuit

    here : (o : Option Config) → nth a.configs router ≡ o → next_place (configured a router change o) router ≡ next_place a router
    here None e = refl
    here (Some config) e =
        let grown = same-count f circuit config in
        let new : next_place (configured a router change (Some config)) router ≡ length (change config).circuits = ap (λ (o : Option Config). config_count o) (nth-with a.configs router config (change config) e) in
        let old : next_place a router ≡ length config.circuits = ap (λ (o : Option Config). config_count o) e in
        omega (arith, grown, new, old)

pub changed-count : (a : LabNet) (router circuit : ℕ) (f : CircuitConfig → CircuitConfig) → length (reconfigured a router (with_changed f circuit)).configs ≡ length a.configs
changed-count a router circuit f = count-kept a router (with_changed f circuit) (nth a.configs router)

pub changed-more : (count : ℕ) (links : List LabLink) (a : LabNet) (router circuit : ℕ) (f : CircuitConfig → CircuitConfig) → HasLinks count links a → HasLinks count links (reconfigured a router (with_changed f circuit))
changed-more count links a router circuit f h = record {
  setup = setup-kept a router (with_changed f circuit) (nth a.configs router) h.setup;
  count_is = changed-count a router circuit f ∙ h.count_is;
  links_are = links-kept a router (with_changed f circuit) (nth a.configs router) ∙ h.links_are;
  places = λ k. changed-places a router circuit f k ∙ h.places k;
}

pub key-more : (count : ℕ) (links : List LabLink) (a : LabNet) (router circuit : ℕ) (key : List ℕ) → HasLinks count links a → HasLinks count links (with_key a router circuit key)
key-more count links a router circuit key h = changed-more count links a router circuit (λ (c : CircuitConfig). record c { key = Some key }) h

-- ---- priorities

priorities-more : (count : ℕ) (links : List LabLink) (routers : List LabRouter) (ends : List End) (a : LabNet) → HasLinks count links a → HasLinks count links (with_priorities routers ends a)
priorities-more count links routers [] a h = h
priorities-more count links routers (e ∷ ends) a h =
    priorities-more count links routers ends (with_own_priority routers e a)
    (changed-more count links a e.router (e.place + 1) (λ (c : CircuitConfig). record c { priority = priority_in (nth routers e.router) }) h)

priorities-on : (count : ℕ) (links : List LabLink) (routers : List LabRouter) (k : CircuitKind) (ends : List End) (a : LabNet) → HasLinks count links a → HasLinks count links (with_priorities_on k routers ends a)
priorities-on count links routers PointToPoint ends a h = h
priorities-on count links routers Lan ends a h = priorities-more count links routers ends a h

pub laid-more : (count : ℕ) (links : List LabLink) (routers : List LabRouter) (a : LabNet) (l : LabLink) → IsNextLink a l → HasLinks count links a → HasLinks count (links ++ l ∷ []) (with_laid routers l a)
laid-more count links routers a l next h =
    priorities-on count (links ++ l ∷ []) routers l.kind l.ends (with_ends a (end_routers l.ends) (new_circuit l.kind l.metric))
    (ends-more count links a l (new_circuit l.kind l.metric) next h)

-- ---- the next link

-- numbers at other places differ
apart-here : (n : ℕ) (ns : List ℕ) → ((j : ℕ) → j < length ns → n ≢ get_or ns j 0) → AllByRecursion (λ j. n ≢ j) ns
apart-here n [] h = tt
apart-here n (m ∷ ns) h = (h 0 (omega arith), apart-here n ns (λ j lt. h (suc j) (omega (arith, lt))))

are-apart : (ns : List ℕ) → AreDistinct ns → AreApart ns
are-apart [] h = tt
are-apart (n ∷ ns) h =
    (apart-here n ns (λ j lt. h 0 (suc j) 0 (omega arith) (omega (arith, lt))), are-apart ns (λ i j d less lt. h (suc i) (suc j) d (omega (arith, less)) (omega (arith, lt))))

routers-there : (n : ℕ) (ends : List End) → AllByRecursion (λ e. e.router < n) ends → AllByRecursion (λ r. r < n) (end_routers ends)
routers-there n [] h = tt
routers-there n (e ∷ ends) h = (h.0, routers-there n ends h.1)

places-next : (links : List LabLink) (a : LabNet) (ends : List End) → ((router : ℕ) → next_place a router ≡ circuit_count links router) → AllByRecursion (λ e. e.place ≡ circuit_count links e.router) ends → AllByRecursion (λ e. e.place ≡ next_place a e.router) ends
places-next links a [] same h = tt
places-next links a (e ∷ ends) same h = (h.0 ∙ sym (same e.router), places-next links a ends same h.1)

same-number : (n : ℕ) → (n == n) ≡ true
same-number n = grind (arith, nat_tests)

or-true : (b : Bool) → (b || true) ≡ true
or-true true = refl
or-true false = refl

among-first : (e : End) (ends : List End) → is_among (e ∷ ends) e.router ≡ true
among-first e ends = ap (λ (t : Bool). t || is_among ends e.router) (same-number e.router)

among-behind : (e : End) (ends : List End) (r : ℕ) → is_among ends r ≡ true → is_among (e ∷ ends) r ≡ true
among-behind e ends r h = ap (λ (t : Bool). e.router == r || t) h ∙ or-true (e.router == r)

room-among : (a : LabNet) (l : LabLink) (ends : List End) → ((router : ℕ) → is_end l router ≡ true → next_place a router < 64) → ((router : ℕ) → is_among ends router ≡ true → is_end l router ≡ true) → AllByRecursion (λ r. next_place a r < 64) (end_routers ends)
room-among a l [] room within = tt
room-among a l (e ∷ ends) room within =
    (room e.router (within e.router (among-first e ends)), room-among a l ends room (λ r h. within r (among-behind e ends r h)))

none-full : (a : LabNet) (ns : List ℕ) → AllByRecursion (λ r. next_place a r < 64) ns → has_full a.configs ns ≡ false
none-full a [] h = refl
none-full a (r ∷ ns) h =
    let one : nat_le 64 (next_place a r) ≡ false = grind (arith, nat_tests, h.0) in
    ap (λ (t : Bool). t || has_full a.configs ns) one ∙ none-full a ns h.1

pub next-link : (count : ℕ) (links : List LabLink) (a : LabNet) (l : LabLink) → IsLaidLink count links l → HasLinks count links a → ((router : ℕ) → is_end l router ≡ true → next_place a router < 64) → IsNextLink a l
next-link count links a l laid h room = record {
  many = laid.many;
  there = subst (λ (n : ℕ). AllByRecursion (λ r. r < n) (end_routers l.ends)) (sym h.count_is) (routers-there count l.ends laid.there);
  apart = are-apart (end_routers l.ends) laid.apart;
  room = none-full a (end_routers l.ends) (room-among a l l.ends room (λ r x. x));
  places = places-next links a l.ends h.places laid.places;
  metric = laid.metric;
}

-- ---- the circuit of an end

pub circuit-has : (a : LabNet) (router place : ℕ) → router < length a.configs → place < next_place a router → HasCircuit a router (place + 1)
circuit-has a router place h few = (h, of (nth a.configs router) few)
  where
    of : (o : Option Config) → place < config_count o → IfSome o (λ (config : Config). (1 ≤ place + 1) × (place + 1 ≤ length config.circuits))
    of None f = tt
    of (Some config) f = (omega arith, omega (arith, f))

has-place : (a : LabNet) (r place : ℕ) → HasCircuit a r (place + 1) → place < next_place a r
has-place a r place h = of (nth a.configs r) refl h.1
  where
    of : (o : Option Config) → nth a.configs r ≡ o → IfSome o (λ (config : Config). (1 ≤ place + 1) × (place + 1 ≤ length config.circuits)) → place < config_count o
    of None e f = absurd (not-none a.configs r h.0 e)
    of (Some config) e f = omega (arith, f.1)

-- a change of a circuit keeps all ends
end-kept : (a : LabNet) (router circuit : ℕ) (f : CircuitConfig → CircuitConfig) (e : End) → HasEnd a e → HasEnd (reconfigured a router (with_changed f circuit)) e
end-kept a router circuit f e h = (
  circuit-has (reconfigured a router (with_changed f circuit)) e.router e.place
      (subst (λ (n : ℕ). e.router < n) (sym (changed-count a router circuit f)) h.0.0)
      (subst (λ (n : ℕ). e.place < n) (sym (changed-places a router circuit f e.router)) (has-place a e.router e.place h.0)),
  h.1,
)

-- ---- a turn of the loop that sets priorities

pub priorities-at : (routers : List LabRouter) (ends : List End) (a : LabNet) (i : ℕ) (d : End) → i < length ends
    → with_priorities routers (drop i ends) a ≡ with_priorities routers (drop (i + 1) ends) (with_own_priority routers (get_or ends i d) a)
priorities-at routers ends a i d less = at_drop_more (λ (es : List End). with_priorities routers es a) ends i d less

pub ends-left : (routers : List LabRouter) (ends : List End) (a new : LabNet) (i : ℕ) (d : End) → i < length ends → new ≡ with_own_priority routers (get_or ends i d) a → AllByRecursion (λ e. HasEnd a e) (drop i ends) → AllByRecursion (λ e. HasEnd new e) (drop (i + 1) ends)
ends-left routers ends a new i d less is all =
    let told = get_or ends i d in
    subst (λ (n : LabNet). AllByRecursion (λ e. HasEnd n e) (drop (i + 1) ends)) (sym is)
    (all-map (λ e. HasEnd a e) (λ e. HasEnd (with_own_priority routers told a) e) (drop (i + 1) ends)
    (λ e h. end-kept a told.router (told.place + 1) (λ (c : CircuitConfig). record c { priority = priority_in (nth routers told.router) }) e h)
    (subst (λ (es : List End). AllByRecursion (λ e. HasEnd a e) es) (drop_more ends i d less) all).1)

pub priority-begun : (routers : List LabRouter) (told : End) (a new : LabNet) → new ≡ with_own_priority routers told a → a.begun ≡ false → new.begun ≡ false
priority-begun routers told a new is early =
    ap (λ (n : LabNet). n.begun) is ∙ begun-kept a told.router (with_changed (λ (c : CircuitConfig). record c { priority = priority_in (nth routers told.router) }) (told.place + 1)) (nth a.configs told.router) ∙ early

-- ---- what is laid

first-room : (a : LabNet) (r : ℕ) (ns : List ℕ) → has_full a.configs (r ∷ ns) ≡ false → (next_place a r < 64) × (has_full a.configs ns ≡ false)
first-room a r ns h = by (nat_le 64 (next_place a r)) refl h
  where
    by : (t : Bool) → nat_le 64 (next_place a r) ≡ t → (t || has_full a.configs ns) ≡ false → (next_place a r < 64) × (has_full a.configs ns ≡ false)
    by true e f = absurd (cc)
    by false e f = (grind (arith, nat_tests, e), f)

ends-have : (a : LabNet) (l : LabLink) (c : CircuitConfig) (ends : List End) → IsNextLink a l → ((r : ℕ) → is_among ends r ≡ true → is_end l r ≡ true) → AllByRecursion (λ r. r < length a.configs) (end_routers ends)
    → AllByRecursion (λ e. e.place ≡ next_place a e.router) ends → has_full a.configs (end_routers ends) ≡ false → AllByRecursion (λ e. HasEnd (with_ends a (end_routers l.ends) c) e) ends
ends-have a l c [] next within there places room = tt
ends-have a l c (e ∷ ends) next within there places room =
    let free = first-room a e.router (end_routers ends) room in
    let more = circuits-places c (end_routers l.ends) a e.router next.there next.apart in
    let one : cond {A = ℕ} (list_any (λ (m : ℕ). m == e.router) (end_routers l.ends)) 1 0 ≡ 1 = ap (λ (t : Bool). cond {A = ℕ} t 1 0) (any-router l.ends e.router ∙ within e.router (among-first e ends)) in
    let here : e.router < length (with_circuits c (end_routers l.ends) a).configs = subst (λ (n : ℕ). e.router < n) (sym (circuits-count c (end_routers l.ends) a)) there.0 in (
      (circuit-has (with_ends a (end_routers l.ends) c) e.router e.place here (omega (arith, more, one, places.0)), omega (arith, places.0, free.0)),
      ends-have a l c ends next (λ r h. within r (among-behind e ends r h)) there.1 places.1 free.1,
    )

-- the circuits of a link's ends are there once it is laid
pub laid-ends : (a new : LabNet) (l : LabLink) (c : CircuitConfig) → IsNextLink a l → new ≡ with_ends a (end_routers l.ends) c → AllByRecursion (λ e. HasEnd new e) l.ends
laid-ends a new l c next is =
    subst (λ (n : LabNet). AllByRecursion (λ e. HasEnd n e) l.ends) (sym is) (ends-have a l c l.ends next (λ r h. h) next.there next.places next.room)

pub laid-begun : (a new : LabNet) (ns : List ℕ) (c : CircuitConfig) → new ≡ with_ends a ns c → a.begun ≡ false → new.begun ≡ false
laid-begun a new ns c is early = ap (λ (n : LabNet). n.begun) is ∙ circuits-begun c ns a ∙ early

-- the routers of two ends
pub two-routers : (ends : List End) (d e : End) → length ends ≡ 2 → (get_or ends 0 d).router ∷ (get_or ends 1 e).router ∷ [] ≡ end_routers ends
two-routers [] d e h = absurd (omega (arith, h))
two-routers (x ∷ []) d e h = absurd (omega (arith, h))
two-routers (x ∷ y ∷ []) d e h = refl
two-routers (x ∷ y ∷ z ∷ more) d e h = absurd (omega (arith, h))
