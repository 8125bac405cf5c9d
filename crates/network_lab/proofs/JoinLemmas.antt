-- A link or LAN more in a network that is set up, its routers one after another.
use Rattle.std.proofs.Common.{◌≡◌, ◌≢◌, ℕ, ◌+◌, ◌-◌, ◌<◌, ◌≤◌, ◌==◌, ◌||◌, ◌&&◌, nat_le, Bool, true, false, List, [], ◌∷◌, ◌++◌, map, take, drop, get_or, length, Option, Some, None, unwrap_or, if◌then◌else◌, refl, sym, ap, ◌∙◌, subst, arith, length-append, append_assoc, append-nil}
use Rattle.std.specs.List.{AllByRecursion}
use Rattle.std.specs.Option.{option_map}
use Rattle.std.proofs.lemmas.Bool.Decides.{nat_tests}
use Rattle.std.proofs.lemmas.List.{map-append}
use Rattle.std.proofs.Math.Seq.{take-length}
use Rattle.isis_base.specs.declared.level.CircuitKind.{CircuitKind}
use Rattle.model_router.specs.Places.{nth, with_nth}
use Rattle.model_router.specs.Routers.{Router}
use Rattle.model_router.proofs.ListLemmas.{all-append}
use Rattle.model_network.specs.declared.end.End.{End}
use Rattle.model_network.specs.RunLines.{by_router, is_end, link_of}
use Rattle.router_desk.specs.declared.circuit_config.CircuitConfig.{CircuitConfig}
use Rattle.router_desk.specs.declared.config.Config.{Config}
use Rattle.router_desk.specs.Limits.{IsValid}
use Rattle.router_core.specs.Reached.{IsReached}
use Rattle.network_lab.specs.declared.joining.Joined.{Joined}
use Rattle.network_lab.specs.declared.notes.Notes.{Notes}
use Rattle.network_lab.specs.declared.sent.SentDatagram.{SentDatagram}
use Rattle.lab_keys.specs.declared.faults.LabFault.{LabFault}
use Rattle.network_lab.specs.LabNets.{LabNet, router_of, circuit_count, configured, with_circuit, with_circuits, with_row, with_ends, new_circuit, next_end, AreDistinct}
use Rattle.network_lab.specs.LabCauses.{has_full}
use Rattle.network_lab.specs.LabInside.{counts_of, IsEndThere, AreEndsThere, ArePorts, AreApart, IsFit, IsSetUp, IsNet}
use Rattle.network_lab.specs.Joining.{IsJoined, configs_with, routers_with, ports_with}
use Rattle.network_lab.proofs.PlaceLemmas.{differ, nth-set, nth-other, some-same, nth-map, map-with}
use Rattle.network_lab.proofs.WiredLemmas.{wired-row, wired-end}
use Rattle.network_lab.proofs.LinkLemmas.{valid-more, all-with, all-at, setup-counts, more-with, count-here}
use Rattle.network_lab.proofs.LabLemmas.{distinct-snoc, first_of, nth-snoc, link-snoc, ends-more}
use Rattle.network_lab.proofs.ConfigLemmas.{systems-with}
use Rattle.network_lab.proofs.SetupLemmas.{lab}

-- ---- lists

all-front : {A : Type 0} (P : A → Type 0) (xs ys : List A) → AllByRecursion P (xs ++ ys) → AllByRecursion P xs
all-front P [] ys h = tt
all-front P (x ∷ xs) ys h = (h.0, all-front P xs ys h.1)

all-rest : {A : Type 0} (P : A → Type 0) (xs ys : List A) → AllByRecursion P (xs ++ ys) → AllByRecursion P ys
all-rest P [] ys h = h
all-rest P (x ∷ xs) ys h = all-rest P xs ys h.1

pub opens-at : {X : Type 0} (xs : List X) (d : X) → 1 ≤ length xs → xs ≡ get_or xs 0 d ∷ take (length xs - 1) (drop 1 xs)
opens-at [] d h = absurd (omega (arith, h))
opens-at {X} (x ∷ xs) d h =
    let less : length (x ∷ xs) - 1 ≡ length xs = omega arith in
    ap (λ (ys : List X). x ∷ ys) (sym (rw less (take-length xs)))

pub all-behind : {A : Type 0} (P : A → Type 0) (xs now : List A) (x : A) → now ≡ xs ++ (x ∷ []) → AllByRecursion P xs → P x → AllByRecursion P now
all-behind P xs now x is h p = subst (AllByRecursion P) (sym is) (all-append P xs (x ∷ []) h (p, tt))

-- one router was made ready, and those behind it are left
pub joined-turn : {K : Type 0} → (list now : List (Joined K)) (left members : List ℕ) (d : ℕ) (j : Joined K) → 1 ≤ length left → j.router ≡ get_or left 0 d → now ≡ list ++ (j ∷ []) → map (λ (j : Joined K). j.router) list ++ left ≡ members → map (λ (j : Joined K). j.router) now ++ take (length left - 1) (drop 1 left) ≡ members
joined-turn list now left members d j h e is whole =
    ap (λ (js : List (Joined _)). map (λ (j : Joined _). j.router) js ++ take (length left - 1) (drop 1 left)) is
    ∙ (ap (λ (ns : List ℕ). ns ++ take (length left - 1) (drop 1 left)) (map-append (λ (j : Joined _). j.router) list (j ∷ []))
    ∙ (append_assoc (map (λ (j : Joined _). j.router) list) (j.router ∷ []) (take (length left - 1) (drop 1 left))
    ∙ (ap (λ (n : ℕ). map (λ (j : Joined _). j.router) list ++ (n ∷ take (length left - 1) (drop 1 left))) e
    ∙ (ap (λ (ns : List ℕ). map (λ (j : Joined _). j.router) list ++ ns) (sym (opens-at left d h)) ∙ whole))))

-- routers that have room
pub rest-room : (configs : List Config) (left : List ℕ) (d : ℕ) → 1 ≤ length left → has_full configs left ≡ false → has_full configs (take (length left - 1) (drop 1 left)) ≡ false
rest-room configs left d h e =
    by (nat_le 64 (circuit_count (nth configs (get_or left 0 d)))) (has_full configs (take (length left - 1) (drop 1 left))) (ap (has_full configs) (sym (opens-at left d h)) ∙ e)
  where
    by : (a b : Bool) → (a || b) ≡ false → b ≡ false
    by true b e = absurd (cc)
    by false b e = e

pub all-rest-of : (P : ℕ → Type 0) (left : List ℕ) (d : ℕ) → 1 ≤ length left → AllByRecursion P left → AllByRecursion P (take (length left - 1) (drop 1 left))
all-rest-of P left d h all = (subst (AllByRecursion P) (opens-at left d h) all).1

pub all-valid : (configs : List Config) → AllByRecursion IsFit configs → AllByRecursion IsValid configs
all-valid [] h = tt
all-valid (c ∷ configs) h = (h.0.valid, all-valid configs h.1)

pub routers-less : {K : Type 0} → (joined : List (Joined K)) (members : List ℕ) (m n : ℕ) → map (λ (j : Joined K). j.router) joined ≡ members → m ≡ n → AllByRecursion (λ i. i < m) members → AllByRecursion (λ (j : Joined K). j.router < n) joined
routers-less {K} joined members m n is same all = of joined (subst (AllByRecursion (λ i. i < n)) (sym is) (subst (λ (k : ℕ). AllByRecursion (λ i. i < k) members) same all))
  where
    of : (js : List (Joined K)) → AllByRecursion (λ i. i < n) (map (λ (j : Joined K). j.router) js) → AllByRecursion (λ (j : Joined K). j.router < n) js
    of [] h = tt
    of (j ∷ js) h = (h.0, of js h.1)

-- of those that are left, one less
pub left-less : {K : Type 0} → (m n : ℕ) (all rest : List (Joined K)) (j : Joined K) → all ≡ j ∷ rest → m ≡ n → AllByRecursion (λ (x : Joined K). x.router < n) all → AllByRecursion (λ (x : Joined K). x.router < m) rest
left-less {K} m n all rest j is same h = subst (λ (k : ℕ). AllByRecursion (λ (x : Joined K). x.router < k) rest) (sym same) (subst (AllByRecursion (λ (x : Joined K). x.router < n)) is h).1

-- ---- a link without ends

none-first : {A : Type 0} (o : Option A) → first_of o None ≡ o
none-first None = refl
none-first (Some x) = refl

pub net-row : (ports : List (List ℕ)) (ordered links : List (List End)) (configs : List Config) (rs : List Router) (ds : List SentDatagram) (n : ℕ) (ts : Notes) (begun : Bool) (stopped : Option LabFault)
    → IsNet ports ordered (lab configs rs links ds n ts begun stopped) → begun ≡ false
    → IsNet ports (map by_router (links ++ ([] ∷ []))) (lab configs rs (links ++ ([] ∷ [])) ds n ts begun stopped)
net-row ports ordered links configs rs ds n ts begun stopped h b = record {
  routers = h.routers;
  configs = h.configs;
  systems = h.systems;
  ends = all-append (AreEndsThere (map length ports)) links ([] ∷ []) h.ends (tt, tt);
  ported = record { each = λ router list e place. link-snoc router place 0 links [] ∙ (none-first (link_of router place 0 links) ∙ h.ported.each router list e place) };
  sorted = refl;
  wired = wired-row links h.wired;
  apart = all-append AreApart links ([] ∷ []) h.apart (tt, tt);
  few = h.few;
  small = h.small;
  setup = λ e. record { fit = (h.setup e).fit; routers = (h.setup e).routers; nothing = (h.setup e).nothing; none = (h.setup e).none; unnoted = (h.setup e).unnoted };
  run = λ e _ _. absurd (let clash : true ≡ false = sym e ∙ b in cc);
}

-- ---- the last link has an end more

or-no : (b : Bool) → (b || false) ≡ b
or-no true = refl
or-no false = refl

-- an end of the grown link is one of before, or the new one
end-snoc : (router place : ℕ) (row : List End) (e : End) → is_end router place (row ++ (e ∷ [])) ≡ (is_end router place row || (e.router == router && e.place == place))
end-snoc router place [] e = or-no (e.router == router && e.place == place)
end-snoc router place (x ∷ row) e = ap (λ (b : Bool). (x.router == router && x.place == place) || b) (end-snoc router place row e) ∙ sym (assoc (x.router == router && x.place == place) (is_end router place row) (e.router == router && e.place == place))
  where
    assoc : (a b c : Bool) → ((a || b) || c) ≡ (a || (b || c))
    assoc true b c = refl
    assoc false b c = refl

-- a router that the link doesn't join is no end of it
off-end : (router place : ℕ) (row : List End) → AllByRecursion (λ (e : End). e.router ≢ router) row → is_end router place row ≡ false
off-end router place [] off = refl
off-end router place (e ∷ row) off = ap (λ (b : Bool). (b && e.place == place) || is_end router place row) (differ e.router router off.0) ∙ off-end router place row off.1

ports-end : (ports : List (List ℕ)) (base : List (List End)) (row : List End) (i : ℕ) (p : List ℕ) → nth ports i ≡ Some p → AllByRecursion (λ (e : End). e.router ≢ i) row → ArePorts ports (base ++ (row ∷ []))
    → ArePorts (with_nth ports i (p ++ (length base ∷ []))) (base ++ ((row ++ (record { router = i; place = length p } ∷ [])) ∷ []))
ports-end ports base row i p at_i off h = record { each = λ router list e place. by router list e place (i == router) refl }
  where
    k : ℕ
    k = length base

    end : End
    end = record { router = i; place = length p }

    grown : List End
    grown = row ++ (end ∷ [])

    old : (router place : ℕ) (list : List ℕ) → nth ports router ≡ Some list → first_of (link_of router place 0 base) (if is_end router place row then Some k else None) ≡ nth list place
    old router place list e = sym (link-snoc router place 0 base row ∙ ap (λ (m : ℕ). first_of (link_of router place 0 base) (if is_end router place row then Some m else None)) (plain k)) ∙ h.each router list e place
      where
        plain : (n : ℕ) → 0 + n ≡ n
        plain n = omega arith

    new : (router place : ℕ) (b : Bool) → is_end router place grown ≡ b → link_of router place 0 (base ++ (grown ∷ [])) ≡ first_of (link_of router place 0 base) (if b then Some k else None)
    new router place b t = link-snoc router place 0 base grown ∙ (ap (λ (b : Bool). first_of (link_of router place 0 base) (if b then Some (0 + k) else None)) t ∙ ap (λ (m : ℕ). first_of (link_of router place 0 base) (if b then Some m else None)) (plain k))
      where
        plain : (n : ℕ) → 0 + n ≡ n
        plain n = omega arith

    by : (router : ℕ) (list : List ℕ) → nth (with_nth ports i (p ++ (k ∷ []))) router ≡ Some list → (place : ℕ) (t : Bool) → (i == router) ≡ t → link_of router place 0 (base ++ (grown ∷ [])) ≡ nth list place
    by router list e place true t =
        let same : i ≡ router = grind (arith, nat_tests, t) in
        let list_is : p ++ (k ∷ []) ≡ list = some-same _ _ (sym (nth-set ports i p (p ++ (k ∷ [])) at_i) ∙ (ap (λ (n : ℕ). nth (with_nth ports i (p ++ (k ∷ []))) n) same ∙ e)) in
        let no_row : is_end router place row ≡ false = off-end router place row (subst (λ (n : ℕ). AllByRecursion (λ (e : End). e.router ≢ n) row) same off) in
        let is : is_end router place grown ≡ (length p == place) = end-snoc router place row end ∙ (ap (λ (b : Bool). b || (i == router && length p == place)) no_row ∙ ap (λ (b : Bool). b && length p == place) t) in
        let base_is : link_of router place 0 base ≡ nth p place = sym (ap (λ (b : Bool). first_of (link_of router place 0 base) (if b then Some k else None)) no_row ∙ none-first (link_of router place 0 base)) ∙ old router place p (ap (nth ports) (sym same) ∙ at_i) in
        new router place (length p == place) is ∙ (ap (λ (o : Option ℕ). first_of o (if length p == place then Some k else None)) base_is ∙ (sym (nth-snoc p k place) ∙ ap (λ (l : List ℕ). nth l place) list_is))
    by router list e place false t =
        let other : nth ports router ≡ Some list = sym (nth-other ports i (p ++ (k ∷ [])) router (λ x. grind (arith, nat_tests, t, x))) ∙ e in
        let is : is_end router place grown ≡ is_end router place row = end-snoc router place row end ∙ (ap (λ (b : Bool). is_end router place row || (b && length p == place)) t ∙ or-no (is_end router place row)) in
        new router place (is_end router place row) is ∙ old router place list other

pub net-end : (ports : List (List ℕ)) (base : List (List End)) (row : List End) (configs : List Config) (rs : List Router) (ds : List SentDatagram) (n : ℕ) (ts : Notes) (begun : Bool) (stopped : Option LabFault) (kind : CircuitKind) (metric i : ℕ) (p : List ℕ) (config : Config)
    → IsNet ports (map by_router (base ++ (row ∷ []))) (lab configs rs (base ++ (row ∷ [])) ds n ts begun stopped) → begun ≡ false
    → AllByRecursion (λ (e : End). e.router ≢ i) row → nth ports i ≡ Some p → nth configs i ≡ Some config → length config.circuits < 64 → metric ≤ 16777215
    → IsReached (router_of (with_circuit (new_circuit kind metric) config))
    → IsNet (with_nth ports i (p ++ (length base ∷ []))) (map by_router (base ++ ((row ++ (record { router = i; place = length config.circuits } ∷ [])) ∷ [])))
    (lab (with_nth configs i (with_circuit (new_circuit kind metric) config)) (with_nth rs i (router_of (with_circuit (new_circuit kind metric) config))) (base ++ ((row ++ (record { router = i; place = length config.circuits } ∷ [])) ∷ [])) ds n ts begun stopped)
net-end ports base row configs rs ds n ts begun stopped kind metric i p config h b off at_i on_i room fits reached = record {
  routers = ap counts_of routers_are ∙ (setup-counts configs_now ∙ counts_are);
  configs = counts_are;
  systems = subst AreDistinct (sym (systems-with rs configs i config first s.routers on_i refl)) h.systems;
  ends = ends_there;
  ported = subst (λ (m : ℕ). ArePorts ports_now (base ++ ((row ++ (record { router = i; place = m } ∷ [])) ∷ []))) (sym count_is) (ports-end ports base row i p at_i off h.ported);
  sorted = refl;
  wired = wired-end (map length ports) base row end (all-front (AreEndsThere (map length ports)) base (row ∷ []) h.ends) behind h.wired;
  apart = all-append AreApart base ((row ++ (end ∷ [])) ∷ []) (all-front AreApart base (row ∷ []) h.apart) (row_apart, tt);
  few = h.few;
  small = h.small;
  setup = λ e. record {
    fit = all-with IsFit configs i first s.fit (record { valid = valid-more config kind metric (all-at IsFit configs i config s.fit on_i).valid room fits; system = (all-at IsFit configs i config s.fit on_i).system; reached = reached });
    routers = routers_are;
    nothing = s.nothing;
    none = s.none;
    unnoted = s.unnoted;
  };
  run = λ e _ _. absurd (let clash : true ≡ false = sym e ∙ b in cc);
}
  where
    s : IsSetUp configs (lab configs rs (base ++ (row ∷ [])) ds n ts begun stopped).seen
    s = h.setup b

    k : ℕ
    k = length base

    first : Config
    first = with_circuit (new_circuit kind metric) config

    end : End
    end = record { router = i; place = length config.circuits }

    configs_now : List Config
    configs_now = with_nth configs i first

    ports_now : List (List ℕ)
    ports_now = with_nth ports i (p ++ (k ∷ []))

    count_is : length config.circuits ≡ length p
    count_is = count-here ports configs i p config h.configs at_i on_i

    routers_are : with_nth rs i (router_of first) ≡ map router_of configs_now
    routers_are = ap (λ (rs : List Router). with_nth rs i (router_of first)) s.routers ∙ sym (map-with router_of configs i first)

    counts_are : map (λ (c : Config). length c.circuits) configs_now ≡ map length ports_now
    counts_are = map-with (λ (c : Config). length c.circuits) configs i first ∙ (two h.configs more ∙ sym (map-with length ports i (p ++ (k ∷ []))))
      where
        more : length (config.circuits ++ (new_circuit kind metric ∷ [])) ≡ length (p ++ (k ∷ []))
        more = let m = length-append config.circuits (new_circuit kind metric ∷ []) in let l = length-append p (k ∷ []) in omega (arith, count_is, m, l)

        two : {xs ys : List ℕ} {x y : ℕ} → xs ≡ ys → x ≡ y → with_nth xs i x ≡ with_nth ys i y
        two e f = cc

    at_map : nth (map length ports) i ≡ Some (length p)
    at_map = nth-map length ports i ∙ ap (option_map length) at_i

    behind : unwrap_or (nth (map length ports) i) 0 ≤ length config.circuits
    behind = let m = ap (λ (o : Option ℕ). unwrap_or o 0) at_map in omega (arith, m, count_is)

    counts_now : List ℕ
    counts_now = with_nth (map length ports) i (length (p ++ (k ∷ [])))

    here : nth counts_now i ≡ Some (length (p ++ (k ∷ [])))
    here = nth-set (map length ports) i (length p) (length (p ++ (k ∷ []))) at_map

    grow : (r : ℕ) → unwrap_or (nth (map length ports) r) 0 ≤ unwrap_or (nth counts_now r) 0
    grow = more-with (map length ports) i (length (p ++ (k ∷ []))) (let l = length-append p (k ∷ []) in let m = ap (λ (o : Option ℕ). unwrap_or o 0) at_map in omega (arith, l, m))

    old_there : AllByRecursion (AreEndsThere counts_now) (base ++ (row ∷ []))
    old_there = ends-more (map length ports) counts_now grow (base ++ (row ∷ [])) h.ends

    new_there : IsEndThere counts_now end
    new_there = let l = length-append p (k ∷ []) in let m = ap (λ (o : Option ℕ). unwrap_or o 0) here in omega (arith, l, m, count_is)

    ends_there : AllByRecursion (AreEndsThere (map length ports_now)) (base ++ ((row ++ (end ∷ [])) ∷ []))
    ends_there = subst (λ (counts : List ℕ). AllByRecursion (AreEndsThere counts) (base ++ ((row ++ (end ∷ [])) ∷ []))) (sym (map-with length ports i (p ++ (k ∷ []))))
        (all-append (AreEndsThere counts_now) base ((row ++ (end ∷ [])) ∷ []) (all-front (AreEndsThere counts_now) base (row ∷ []) old_there)
        (all-append (IsEndThere counts_now) row (end ∷ []) (all-rest (AreEndsThere counts_now) base (row ∷ []) old_there).0 (new_there, tt), tt))

    off-map : (row : List End) → AllByRecursion (λ (e : End). e.router ≢ i) row → AllByRecursion (λ x. x ≢ i) (map (λ (e : End). e.router) row)
    off-map [] o = tt
    off-map (e ∷ row) o = (o.0, off-map row o.1)

    row_apart : AreApart (row ++ (end ∷ []))
    row_apart = subst AreDistinct (sym (map-append (λ (e : End). e.router) row (end ∷ []))) (distinct-snoc (map (λ (e : End). e.router) row) i (all-rest AreApart base (row ∷ []) h.apart).0 (off-map row off))

-- ---- all routers of the link

-- the next circuits of routers, each in what was made before it
abbrev ends_with : {K : Type 0} → List (Joined K) → List Config → List End
ends_with [] configs = []
ends_with (j ∷ joined) configs = next_end configs j.router ∷ ends_with joined (with_nth configs j.router j.setup.config)

abbrev AreJoined : {K : Type 0} → List Config → List (List ℕ) → ℕ → CircuitConfig → List (Joined K) → Type 0
AreJoined configs ports link c joined = AllByRecursion (IsJoined configs ports link c) joined

abbrev routers_in : {K : Type 0} → List (Joined K) → List ℕ
routers_in joined = map (λ (j : Joined _). j.router) joined

-- what was made ready stays so, as another router's parts are put in
joined-later : {K : Type 0} → (configs : List Config) (ports : List (List ℕ)) (link : ℕ) (c : CircuitConfig) (i : ℕ) (config : Config) (list : List ℕ) (joined : List (Joined K)) → AreJoined configs ports link c joined → AllByRecursion (λ r. i ≢ r) (routers_in joined) → AreJoined (with_nth configs i config) (with_nth ports i list) link c joined
joined-later configs ports link c i config list [] h off = tt
joined-later configs ports link c i config list (j ∷ joined) h off = (one h.0, joined-later configs ports link c i config list joined h.1 off.1)
  where
    one : IsJoined configs ports link c j → IsJoined (with_nth configs i config) (with_nth ports i list) link c j
    one f = record {
      config = f.config;
      list = f.list;
      config_at = nth-other configs i config j.router off.0 ∙ f.config_at;
      list_at = nth-other ports i list j.router off.0 ∙ f.list_at;
      room = f.room;
      config_is = f.config_is;
      router_is = f.router_is;
      reached = f.reached;
      ports_is = f.ports_is;
    }

-- a router is off the link that is made
abbrev AreOff : List End → List ℕ → Type 0
AreOff row routers = AllByRecursion (λ (r : ℕ). AllByRecursion (λ (e : End). e.router ≢ r) row) routers

off-snoc : (row : List End) (e : End) (routers : List ℕ) → AreOff row routers → AllByRecursion (λ r. e.router ≢ r) routers → AreOff (row ++ (e ∷ [])) routers
off-snoc row e [] off n = tt
off-snoc row e (r ∷ routers) off n = (all-append (λ (e : End). e.router ≢ r) row (e ∷ []) off.0 (n.0, tt), off-snoc row e routers off.1 n.1)

pub off-nobody : (routers : List ℕ) → AreOff [] routers
off-nobody [] = tt
off-nobody (r ∷ routers) = (tt, off-nobody routers)

net-all : {K : Type 0} → (joined : List (Joined K)) (ports : List (List ℕ)) (base : List (List End)) (row : List End) (configs : List Config) (rs : List Router) (ds : List SentDatagram) (n : ℕ) (ts : Notes) (begun : Bool) (stopped : Option LabFault) (kind : CircuitKind) (metric : ℕ)
    → IsNet ports (map by_router (base ++ (row ∷ []))) (lab configs rs (base ++ (row ∷ [])) ds n ts begun stopped) → begun ≡ false → metric ≤ 16777215
    → AreJoined configs ports (length base) (new_circuit kind metric) joined → AreDistinct (routers_in joined) → AreOff row (routers_in joined)
    → IsNet (ports_with joined ports) (map by_router (base ++ ((row ++ ends_with joined configs) ∷ []))) (lab (configs_with joined configs) (routers_with joined rs) (base ++ ((row ++ ends_with joined configs) ∷ [])) ds n ts begun stopped)
net-all [] ports base row configs rs ds n ts begun stopped kind metric h b fits are distinct off =
    subst (λ (r : List End). IsNet ports (map by_router (base ++ (r ∷ []))) (lab configs rs (base ++ (r ∷ [])) ds n ts begun stopped)) (sym (append-nil row)) h
net-all (j ∷ joined) ports base row configs rs ds n ts begun stopped kind metric h b fits are distinct off =
    subst (λ (r : List End). IsNet (ports_with joined ports_now) (map by_router (base ++ (r ∷ []))) (lab (configs_with joined configs_now) (routers_with joined routers_now) (base ++ (r ∷ [])) ds n ts begun stopped))
    (append_assoc row (next_end configs j.router ∷ []) (ends_with joined configs_now))
    (net-all joined ports_now base (row ++ (next_end configs j.router ∷ [])) configs_now routers_now ds n ts begun stopped kind metric
    (subst (λ (e : End). IsNet ports_now (map by_router (base ++ ((row ++ (e ∷ [])) ∷ []))) (lab configs_now routers_now (base ++ ((row ++ (e ∷ [])) ∷ [])) ds n ts begun stopped)) (sym end_is) step)
    b fits (joined-later configs ports (length base) (new_circuit kind metric) j.router j.setup.config j.ports joined are.1 distinct.0) distinct.1 (off-snoc row (next_end configs j.router) (routers_in joined) off.1 distinct.0))
  where
    f : IsJoined configs ports (length base) (new_circuit kind metric) j
    f = are.0

    ports_now : List (List ℕ)
    ports_now = with_nth ports j.router j.ports

    configs_now : List Config
    configs_now = with_nth configs j.router j.setup.config

    routers_now : List Router
    routers_now = with_nth rs j.router j.setup.router

    end_is : next_end configs j.router ≡ record { router = j.router; place = length f.config.circuits }
    end_is = ap (λ (o : Option Config). at-count (circuit_count o)) f.config_at
      where
        at-count : ℕ → End
        at-count m = record { router = j.router; place = m }

    three : (P : List (List ℕ) → List Config → List Router → Type 0) (a d : List (List ℕ)) (x y : List Config) (z w : List Router) → a ≡ d → x ≡ y → z ≡ w → P a x z → P d y w
    three P a d x y z w p q r h = subst (λ (c : List Router). P d y c) r (subst (λ (c : List Config). P d c z) q (subst (λ (c : List (List ℕ)). P c x z) p h))

    step : IsNet ports_now (map by_router (base ++ ((row ++ (record { router = j.router; place = length f.config.circuits } ∷ [])) ∷ []))) (lab configs_now routers_now (base ++ ((row ++ (record { router = j.router; place = length f.config.circuits } ∷ [])) ∷ [])) ds n ts begun stopped)
    step = three (λ ports configs rs. IsNet ports (map by_router (base ++ ((row ++ (record { router = j.router; place = length f.config.circuits } ∷ [])) ∷ []))) (lab configs rs (base ++ ((row ++ (record { router = j.router; place = length f.config.circuits } ∷ [])) ∷ [])) ds n ts begun stopped))
        (with_nth ports j.router (f.list ++ (length base ∷ []))) ports_now (with_nth configs j.router (with_circuit (new_circuit kind metric) f.config)) configs_now
        (with_nth rs j.router (router_of (with_circuit (new_circuit kind metric) f.config))) routers_now
        (ap (with_nth ports j.router) (sym f.ports_is)) (ap (with_nth configs j.router) (sym f.config_is)) (ap (with_nth rs j.router) (sym f.router_is))
        (net-end ports base row configs rs ds n ts begun stopped kind metric j.router f.list f.config h b off.0 f.list_at f.config_at f.room fits (subst IsReached f.router_is f.reached))

-- ---- the same as one after another

ends-same : {K : Type 0} → (joined : List (Joined K)) (configs old : List Config) → AreDistinct (routers_in joined) → AllByRecursion (λ r. nth configs r ≡ nth old r) (routers_in joined) → ends_with joined configs ≡ map (next_end old) (routers_in joined)
ends-same [] configs old distinct same = refl
ends-same (j ∷ joined) configs old distinct same =
    both (ap (λ (o : Option Config). at-count (circuit_count o)) same.0) (ends-same joined (with_nth configs j.router j.setup.config) old distinct.1 (others (routers_in joined) distinct.0 same.1))
  where
    at-count : ℕ → End
    at-count m = record { router = j.router; place = m }

    both : {x y : End} {xs ys : List End} → x ≡ y → xs ≡ ys → x ∷ xs ≡ y ∷ ys
    both e f = cc

    others : (rs : List ℕ) → AllByRecursion (λ r. j.router ≢ r) rs → AllByRecursion (λ r. nth configs r ≡ nth old r) rs → AllByRecursion (λ r. nth (with_nth configs j.router j.setup.config) r ≡ nth old r) rs
    others [] n s = tt
    others (r ∷ rs) n s = (nth-other configs j.router j.setup.config r n.0 ∙ s.0, others rs n.1 s.1)

all-same : (configs : List Config) (rs : List ℕ) → AllByRecursion (λ r. nth configs r ≡ nth configs r) rs
all-same configs [] = tt
all-same configs (r ∷ rs) = (refl, all-same configs rs)

with-all : {K : Type 0} → (joined : List (Joined K)) (ports : List (List ℕ)) (links : List (List End)) (configs : List Config) (rs : List Router) (ds : List SentDatagram) (n : ℕ) (ts : Notes) (begun : Bool) (stopped : Option LabFault) (link : ℕ) (c : CircuitConfig)
    → AreJoined configs ports link c joined → AreDistinct (routers_in joined)
    → lab (configs_with joined configs) (routers_with joined rs) links ds n ts begun stopped ≡ with_circuits c (routers_in joined) (lab configs rs links ds n ts begun stopped)
with-all [] ports links configs rs ds n ts begun stopped link c are distinct = refl
with-all (j ∷ joined) ports links configs rs ds n ts begun stopped link c are distinct =
    with-all joined (with_nth ports j.router j.ports) links (with_nth configs j.router j.setup.config) (with_nth rs j.router j.setup.router) ds n ts begun stopped link c
    (joined-later configs ports link c j.router j.setup.config j.ports joined are.1 distinct.0) distinct.1
    ∙ ap (with_circuits c (routers_in joined)) (two are.0.config_is are.0.router_is ∙ sym (ap (configured (lab configs rs links ds n ts begun stopped) j.router (with_circuit c)) are.0.config_at))
  where
    two : {x y : Config} {z w : Router} → x ≡ y → z ≡ w → lab (with_nth configs j.router x) (with_nth rs j.router z) links ds n ts begun stopped ≡ lab (with_nth configs j.router y) (with_nth rs j.router w) links ds n ts begun stopped
    two e f = cc

-- ---- the whole

pub join-all : {K : Type 0} → (ports ports_now : List (List ℕ)) (ordered ordered_now links links_now : List (List End)) (configs configs_now : List Config) (rs rs_now : List Router) (ds : List SentDatagram) (n : ℕ) (ts : Notes) (begun : Bool) (stopped : Option LabFault) (old : LabNet)
    (members : List ℕ) (kind : CircuitKind) (metric link : ℕ) (joined : List (Joined K)) (row row_ordered : List End)
    → lab configs rs links ds n ts begun stopped ≡ old → IsNet ports ordered (lab configs rs links ds n ts begun stopped) → old.begun ≡ false
    → AreDistinct members → metric ≤ 16777215 → link ≡ length links
    → AreJoined configs ports link (new_circuit kind metric) joined → routers_in joined ≡ members
    → row ≡ map (next_end configs) members → row_ordered ≡ by_router row
    → links_now ≡ links ++ (row ∷ []) → ordered_now ≡ ordered ++ (row_ordered ∷ [])
    → configs_now ≡ configs_with joined configs → rs_now ≡ routers_with joined rs → ports_now ≡ ports_with joined ports
    → IsNet ports_now ordered_now (lab configs_now rs_now links_now ds n ts begun stopped) × (lab configs_now rs_now links_now ds n ts begun stopped ≡ with_ends old members (new_circuit kind metric))
join-all ports ports_now ordered ordered_now links links_now configs configs_now rs rs_now ds n ts begun stopped old members kind metric link joined row row_ordered is h b distinct fits link_is are in_is row_is ordered_is ls os cs rns ps = (
  five (λ ports ordered links configs rs. IsNet ports ordered (lab configs rs links ds n ts begun stopped)) (ports_with joined ports) ports_now (map by_router (links ++ (ends_with joined configs ∷ []))) ordered_now (links ++ (ends_with joined configs ∷ [])) links_now (configs_with joined configs) configs_now (routers_with joined rs) rs_now ps sorted ls_now cs rns net,
  view,
)
  where
    distinct_in : AreDistinct (routers_in joined)
    distinct_in = subst AreDistinct (sym in_is) distinct

    are_in : AreJoined configs ports (length links) (new_circuit kind metric) joined
    are_in = subst (λ (l : ℕ). AreJoined configs ports l (new_circuit kind metric) joined) link_is are

    row_with : row ≡ ends_with joined configs
    row_with = row_is ∙ (ap (map (next_end configs)) (sym in_is) ∙ sym (ends-same joined configs configs distinct_in (all-same configs (routers_in joined))))

    begun_is : begun ≡ false
    begun_is = ap (λ (a : LabNet). a.begun) is ∙ b

    net : IsNet (ports_with joined ports) (map by_router (links ++ (ends_with joined configs ∷ []))) (lab (configs_with joined configs) (routers_with joined rs) (links ++ (ends_with joined configs ∷ [])) ds n ts begun stopped)
    net = net-all joined ports links [] configs rs ds n ts begun stopped kind metric (net-row ports ordered links configs rs ds n ts begun stopped h begun_is) begun_is fits are_in distinct_in (off-nobody (routers_in joined))

    ls_now : links_now ≡ links ++ (ends_with joined configs ∷ [])
    ls_now = ls ∙ ap (λ (r : List End). links ++ (r ∷ [])) row_with

    sorted : ordered_now ≡ map by_router (links ++ (ends_with joined configs ∷ []))
    sorted = os ∙ (two h.sorted (ordered_is ∙ ap by_router row_with) ∙ sym (map-append by_router links (ends_with joined configs ∷ [])))
      where
        two : {xs ys : List (List End)} {x y : List End} → xs ≡ ys → x ≡ y → xs ++ (x ∷ []) ≡ ys ++ (y ∷ [])
        two e f = cc

    five : (P : List (List ℕ) → List (List End) → List (List End) → List Config → List Router → Type 0) (a a1 : List (List ℕ)) (b b1 c c1 : List (List End)) (d d1 : List Config) (e e1 : List Router) → a1 ≡ a → b1 ≡ b → c1 ≡ c → d1 ≡ d → e1 ≡ e → P a b c d e → P a1 b1 c1 d1 e1
    five P a a1 b b1 c c1 d d1 e e1 p q r s t x = subst (λ (y : List Router). P a1 b1 c1 d1 y) (sym t) (subst (λ (y : List Config). P a1 b1 c1 y e) (sym s) (subst (λ (y : List (List End)). P a1 b1 y d e) (sym r) (subst (λ (y : List (List End)). P a1 y c d e) (sym q) (subst (λ (y : List (List ℕ)). P y b c d e) (sym p) x))))

    three : {a d : List Config} {x y : List Router} {z w : List (List End)} → a ≡ d → x ≡ y → z ≡ w → lab a x z ds n ts begun stopped ≡ lab d y w ds n ts begun stopped
    three p q r = cc

    view : lab configs_now rs_now links_now ds n ts begun stopped ≡ with_ends old members (new_circuit kind metric)
    view =
        three cs rns ls
        ∙ (ap (with_row row) (with-all joined ports links configs rs ds n ts begun stopped (length links) (new_circuit kind metric) are_in distinct_in)
        ∙ (ap (λ (r : List End). with_row r (with_circuits (new_circuit kind metric) (routers_in joined) (lab configs rs links ds n ts begun stopped))) row_is
        ∙ (ap (λ (m : List ℕ). with_row (map (next_end configs) members) (with_circuits (new_circuit kind metric) m (lab configs rs links ds n ts begun stopped))) in_is
        ∙ ap (λ (a : LabNet). with_ends a members (new_circuit kind metric)) is)))
