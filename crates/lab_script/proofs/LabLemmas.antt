-- What holds of lab scripts with a line more.
use Rattle.std.proofs.Common.{◌≡◌, ◌≢◌, ◌∙◌, ℕ, zero, suc, ◌+◌, ◌<◌, ◌≤◌, Bool, true, false, cond, List, [], ◌∷◌, ◌++◌, length, map, take, get_or, Option, Some, None, inl, inr, refl, sym, ap, subst, arith, length-append}
use Rattle.std.specs.Prelude.{◌==◌, ◌||◌, nat_le, option_and_then}
use Rattle.std.specs.List.{AllByRecursion, list_any, slice_get}
use Rattle.std.specs.Str.{bytes_eq}
use Rattle.isis_base.specs.declared.identifiers.SystemId.{SystemId}
use Rattle.std.proofs.lemmas.Bool.{cases_Bool, cases_lt, eqb-true, eq-eqb, le-leb, or_cases, false≢true}
use Rattle.std.proofs.lemmas.Slice.Eq.{bytes_eq-Decides}
use Rattle.std.proofs.lemmas.List.{get_or_append_left, take-append-le, map-append, length-map}
use Rattle.std.proofs.lemmas.List.Sums.{sum_by-append, sum_by-take-le, count_by_more_yes}
use Rattle.std.proofs.lemmas.Option.{get_or_from_slice_get, slice_get_within}
use Rattle.std.proofs.Math.Seq.{get_or-append_seam, take-append_seam}
use Rattle.isis_base.specs.declared.level.CircuitKind.{CircuitKind}
use Rattle.isis_base.specs.declared.level.CircuitKind.TheVariants.{PointToPoint, Lan}
use Rattle.model_router.proofs.ListLemmas.{all-append, all-map}
use Rattle.lab_script.specs.declared.setup.End.{End}
use Rattle.lab_script.specs.declared.setup.LabKey.{LabKey}
use Rattle.lab_script.specs.declared.setup.LabLink.{LabLink}
use Rattle.lab_script.specs.declared.setup.LabRouter.{LabRouter}
use Rattle.lab_script.specs.declared.setup.KeyScope.{KeyScope}
use Rattle.lab_script.specs.declared.setup.KeyScope.TheVariants as scope
use Rattle.lab_script.specs.Counts.{has_twice}
use Rattle.lab_script.specs.LabScripts.{LabScript, with_last, has_system, end_routers, is_among, is_end, circuit_count, place_among, place_on, place_at, next_ends, link_between}
use Rattle.lab_script.specs.declared.deeds.LabLine.{LabLine}
use Rattle.lab_script.specs.LabJudged.{has_begun, is_full, is_some_full}
use Rattle.lab_script.specs.LabSound.{AreDistinct, HasEnds, IsLaidLink, IsKeyScope, IsLabKey, IsDeed, IsSoundLab}

-- ---- lists with an item more

module _ {X : Type 0} where
  push-before : (xs : List X) (x d : X) (i : ℕ) → i < length xs → get_or (xs ++ x ∷ []) i d ≡ get_or xs i d
  push-before xs x d i less = get_or_append_left xs (x ∷ []) d i less

  push-at : (xs : List X) (x d : X) (i : ℕ) → i ≡ length xs → get_or (xs ++ x ∷ []) i d ≡ x
  push-at xs x d i e = ap (λ (n : ℕ). get_or (xs ++ x ∷ []) n d) e ∙ get_or-append_seam xs x [] d

  pub distinct-push : (xs : List X) (x : X) → AreDistinct xs → ((i : ℕ) (d : X) → i < length xs → get_or xs i d ≢ x) → AreDistinct (xs ++ x ∷ [])
  distinct-push xs x h new i j d less within same =
      let far : j < length xs + 1 = omega (arith, within, length-append xs (x ∷ [])) in
      let first : i < length xs = omega (arith, less, far) in
      let at = push-before xs x d i first in
      elim (cases_lt j (length xs)) [
        | inl lt ↦ h i j d less lt (sym at ∙ same ∙ push-before xs x d j lt)
        | inr ge ↦ new i d first (sym at ∙ same ∙ push-at xs x d j (omega (arith, ge, far)))
      ]

  pub all-push : (P : X → Type 0) (xs : List X) (x : X) → AllByRecursion P xs → P x → AllByRecursion P (xs ++ x ∷ [])
  all-push P xs x h new = all-append P xs (x ∷ []) h (new, tt)

-- ---- circuits

-- a link more
pub count-push : (links : List LabLink) (link : LabLink) (router : ℕ) → circuit_count (links ++ link ∷ []) router ≡ circuit_count links router + cond (is_end link router) 1 0
count-push links link router =
    let sum : circuit_count (links ++ link ∷ []) router ≡ circuit_count links router + (0 + cond (is_end link router) 1 0) = sum_by-append (λ (l : LabLink). cond (is_end l router) 1 0) links (link ∷ []) in
    omega (arith, sum)

count-more : (links : List LabLink) (link : LabLink) (router : ℕ) → circuit_count links router ≤ circuit_count (links ++ link ∷ []) router
count-more links link router = omega (arith, count-push links link router)

-- what holds of the router of each end holds of each router among them
at-end : (P : ℕ → Type 0) (ends : List End) (router : ℕ) → AllByRecursion (λ e. P e.router) ends → is_among ends router ≡ true → P router
at-end P [] router all among = absurd (false≢true among)
at-end P (e ∷ ends) router all among =
    elim (or_cases (e.router == router) (is_among ends router) among) [
      | inl here ↦ subst P (eqb-true e.router router here) all.0
      | inr behind ↦ at-end P ends router all.1 behind
    ]

-- each router of these ends has room for a circuit
abbrev pub HasRoom : List LabLink → List End → Type 0
HasRoom links ends = AllByRecursion (λ e. circuit_count links e.router < 64) ends

few-push : (links : List LabLink) (link : LabLink) (router : ℕ) → circuit_count links router ≤ 64 → HasRoom links link.ends → circuit_count (links ++ link ∷ []) router ≤ 64
few-push links link router h room =
    elim (cases_Bool (is_end link router)) [
      | inl ends ↦
          (let one : cond {A = ℕ} (is_end link router) 1 0 ≡ 1 = ap (λ (t : Bool). cond {A = ℕ} t 1 0) ends in
          omega (arith, count-push links link router, one, at-end (λ (r : ℕ). circuit_count links r < 64) link.ends router room ends))
      | inr free ↦ (let none : cond {A = ℕ} (is_end link router) 1 0 ≡ 0 = ap (λ (t : Bool). cond {A = ℕ} t 1 0) free in omega (arith, count-push links link router, none, h))
    ]

-- ---- what was laid stays so

laid-more : (n m : ℕ) (before : List LabLink) (link : LabLink) → n ≤ m → IsLaidLink n before link → IsLaidLink m before link
laid-more n m before link le h = record {
  many = h.many;
  there = all-map (λ e. e.router < n) (λ e. e.router < m) link.ends (λ e lt. omega (arith, le, lt)) h.there;
  apart = h.apart;
  places = h.places;
  metric = h.metric;
}

scope-more : (n m : ℕ) (old new : List LabLink) (router : ℕ) (s : KeyScope) → n ≤ m → circuit_count old router ≤ circuit_count new router → IsKeyScope n old router s → IsKeyScope m new router s
scope-more n m old new router scope.Area le more h = omega arith
scope-more n m old new router scope.Domain le more h = omega arith
scope-more n m old new router (scope.Circuit place) le more h = (omega (arith, h.0), omega (arith, h.1))

key-more : (n m : ℕ) (old new : List LabLink) (key : LabKey) → n ≤ m → ((router : ℕ) → circuit_count old router ≤ circuit_count new router) → IsLabKey n old key → IsLabKey m new key
key-more n m old new key le more h = record {
  scope = scope-more n m old new key.router key.scope le (more key.router) h.scope;
  some = h.some;
  fits = h.fits;
}

-- ---- scripts

abbrev pub systems_of : List LabRouter → List SystemId
systems_of routers = map (λ (r : LabRouter). r.system) routers

pub none-first : (t u : Bool) → (t || u) ≡ false → t ≡ false
none-first true u e = e
none-first false u e = refl

pub none-behind : (t u : Bool) → (t || u) ≡ false → u ≡ false
none-behind true u e = absurd (false≢true (sym e))
none-behind false u e = e

apart : (routers : List LabRouter) (system : SystemId) → has_system routers system ≡ false → (i : ℕ) (d : SystemId) → i < length (systems_of routers) → get_or (systems_of routers) i d ≢ system
apart [] system none i d less same = absurd (omega arith)
apart (r ∷ routers) system none zero d less same =
    false≢true (sym (none-first (bytes_eq r.system.0 system.0) (has_system routers system) none) ∙ (bytes_eq-Decides r.system.0 system.0).1 (ap (λ (s : SystemId). s.0) same))
apart (r ∷ routers) system none (suc i) d less same = apart routers system (none-behind (bytes_eq r.system.0 system.0) (has_system routers system) none) i d (omega arith) same

-- a router more
pub IsSoundLab-router : (s : LabScript) (router : LabRouter) → IsSoundLab s → length s.routers < 1024 → router.priority ≤ 127 → has_system s.routers router.system ≡ false → s.lines ≡ [] → IsSoundLab (record s { routers = s.routers ++ router ∷ [] })
IsSoundLab-router s router h few priority new early =
    let n : length s.routers + 1 ≡ length (s.routers ++ router ∷ []) = omega (arith, length-append s.routers (router ∷ [])) in
    let le : length s.routers ≤ length (s.routers ++ router ∷ []) = omega (arith, n) in
    record {
      routers = omega (arith, n, few);
      links = h.links;
      systems = subst (λ (xs : List SystemId). AreDistinct xs) (sym (map-append (λ (r : LabRouter). r.system) s.routers (router ∷ []))) (distinct-push (systems_of s.routers) router.system h.systems (apart s.routers router.system new));
      priorities = all-push (λ (r : LabRouter). r.priority ≤ 127) s.routers router h.priorities priority;
      laid = λ i d lt. laid-more (length s.routers) (length (s.routers ++ router ∷ [])) (take i s.links) (get_or s.links i d) le (h.laid i d lt);
      circuits = h.circuits;
      keys = all-map (λ key. IsLabKey (length s.routers) s.links key) (λ key. IsLabKey (length (s.routers ++ router ∷ [])) s.links key) s.keys
          (λ key k. key-more (length s.routers) (length (s.routers ++ router ∷ [])) s.links s.links key le (λ r. omega arith) k) h.keys;
      lines = subst (λ (lines : List _). AllByRecursion (λ line. IsDeed (length (s.routers ++ router ∷ [])) s.links line.deed) lines) (sym early) tt;
    }

-- a link more
pub IsSoundLab-link : (s : LabScript) (link : LabLink) → IsSoundLab s → length s.links < 4096 → IsLaidLink (length s.routers) s.links link → HasRoom s.links link.ends → s.lines ≡ [] → IsSoundLab (record s { links = s.links ++ link ∷ [] })
IsSoundLab-link s link h few new room early = record {
  routers = h.routers;
  links = omega (arith, length-append s.links (link ∷ []), few);
  systems = h.systems;
  priorities = h.priorities;
  laid = λ i d lt.
      let far : i < length s.links + 1 = omega (arith, lt, length-append s.links (link ∷ [])) in
      elim (cases_lt i (length s.links)) [
        | inl less ↦
            subst (λ (before : List LabLink). IsLaidLink (length s.routers) before (get_or (s.links ++ link ∷ []) i d)) (sym (take-append-le i s.links (link ∷ []) (omega (arith, less))))
            (subst (λ (l : LabLink). IsLaidLink (length s.routers) (take i s.links) l) (sym (push-before s.links link d i less)) (h.laid i d less))
        | inr ge ↦
            (let at : i ≡ length s.links = omega (arith, ge, far) in
            subst (λ (before : List LabLink). IsLaidLink (length s.routers) before (get_or (s.links ++ link ∷ []) i d)) (sym (ap (λ (n : ℕ). take n (s.links ++ link ∷ [])) at ∙ take-append_seam s.links (link ∷ [])))
            (subst (λ (l : LabLink). IsLaidLink (length s.routers) s.links l) (sym (push-at s.links link d i at)) new))
      ];
  circuits = λ router. few-push s.links link router (h.circuits router) room;
  keys = all-map (λ key. IsLabKey (length s.routers) s.links key) (λ key. IsLabKey (length s.routers) (s.links ++ link ∷ []) key) s.keys
      (λ key k. key-more (length s.routers) (length s.routers) s.links (s.links ++ link ∷ []) key (omega arith) (λ r. count-more s.links link r) k) h.keys;
  lines = subst (λ (lines : List _). AllByRecursion (λ line. IsDeed (length s.routers) (s.links ++ link ∷ []) line.deed) lines) (sym early) tt;
}

-- ---- places

-- a link's circuits stand below how many there are
counted-at : (links : List LabLink) (i : ℕ) (d : LabLink) (router : ℕ) → i < length links → is_end (get_or links i d) router ≡ true → circuit_count (take i links) router < circuit_count links router
counted-at links i d router less end =
    let one = count_by_more_yes (λ (l : LabLink). is_end l router) links i d less end in
    let most = sum_by-take-le (λ (l : LabLink). cond (is_end l router) 1 0) links (i + 1) in
    omega (arith, one, most)

place-counted : (before : List LabLink) (ends : List End) (router place : ℕ) → AllByRecursion (λ e. e.place ≡ circuit_count before e.router) ends → place_among ends router ≡ Some place → (is_among ends router ≡ true) × (place ≡ circuit_count before router)
place-counted before [] router place all e = absurd (cc)
place-counted before (x ∷ ends) router place all e =
    elim (cases_Bool (x.router == router)) [
      | inl here ↦
          (let same = eqb-true x.router router here in
          let got : Some x.place ≡ Some place = sym (ap (λ (t : Bool). cond t (Some x.place) (place_among ends router)) here) ∙ e in
          let at : x.place ≡ place = cc in
          (ap (λ (t : Bool). t || is_among ends router) here, sym at ∙ all.0 ∙ ap (circuit_count before) same))
      | inr other ↦
          (let got : place_among ends router ≡ Some place = sym (ap (λ (t : Bool). cond t (Some x.place) (place_among ends router)) other) ∙ e in
          let behind = place-counted before ends router place all.1 got in
          (ap (λ (t : Bool). t || is_among ends router) other ∙ behind.0, behind.1))
    ]

place-of : (s : LabScript) (i router place : ℕ) → IsSoundLab s → (o : Option LabLink) → slice_get s.links i ≡ o → option_and_then (λ (l : LabLink). place_on l router) o ≡ Some place → place < circuit_count s.links router
place-of s i router place h None at e = cc
place-of s i router place h (Some link) at e =
    let less = slice_get_within s.links i link at in
    let got = get_or_from_slice_get s.links i link link at in
    let laid = subst (λ (l : LabLink). IsLaidLink (length s.routers) (take i s.links) l) got (h.laid i link less) in
    let both = place-counted (take i s.links) link.ends router place laid.places e in
    let end : is_end (get_or s.links i link) router ≡ true = ap (λ (l : LabLink). is_end l router) got ∙ both.0 in
    omega (arith, both.1, counted-at s.links i link router less end)

-- a circuit's place is below how many its router has
pub place_at-counted : (s : LabScript) (i router place : ℕ) → IsSoundLab s → place_at s.links i router ≡ Some place → place < circuit_count s.links router
place_at-counted s i router place h e = place-of s i router place h (slice_get s.links i) refl e

-- ---- early lines

no-lines : (lines : List LabLine) → nat_le 1 (length lines) ≡ false → lines ≡ []
no-lines [] e = refl
no-lines (line ∷ lines) e = absurd (false≢true (sym e ∙ le-leb 1 (suc (length lines)) (omega arith)))

-- before the first event line there are no lines
pub early : (s : LabScript) → has_begun s ≡ false → s.lines ≡ []
early s e = no-lines s.lines e

-- a router that isn't full has room
pub room-left : (links : List LabLink) (router : ℕ) → is_full links router ≡ false → circuit_count links router < 64
room-left links router e =
    elim (cases_lt (circuit_count links router) 64) [
      | inl less ↦ less
      | inr full ↦ absurd (false≢true (sym e ∙ le-leb 64 (circuit_count links router) full))
    ]

-- ---- the next link

ends-many : (k : CircuitKind) (ns : List ℕ) (ends : List End) → length ends ≡ length ns → HasEnds k ns → HasEnds k ends
ends-many PointToPoint ns ends same h = same ∙ h
ends-many Lan ns ends same h = (omega (arith, same, h.0), omega (arith, same, h.1))

ends-there : (n : ℕ) (links : List LabLink) (ns : List ℕ) → AllByRecursion (λ r. r < n) ns → AllByRecursion (λ e. e.router < n) (next_ends links ns)
ends-there n links [] all = tt
ends-there n links (r ∷ ns) all = (all.0, ends-there n links ns all.1)

ends-places : (links : List LabLink) (ns : List ℕ) → AllByRecursion (λ e. e.place ≡ circuit_count links e.router) (next_ends links ns)
ends-places links [] = tt
ends-places links (r ∷ ns) = (refl, ends-places links ns)

ends-routers : (links : List LabLink) (ns : List ℕ) → end_routers (next_ends links ns) ≡ ns
ends-routers links [] = refl
ends-routers links (r ∷ ns) = ap (λ (rs : List ℕ). r ∷ rs) (ends-routers links ns)

absent : (ns : List ℕ) (n : ℕ) → list_any (λ (o : ℕ). o == n) ns ≡ false → (j : ℕ) (d : ℕ) → j < length ns → get_or ns j d ≢ n
absent [] n none j d less same = absurd (omega arith)
absent (m ∷ ns) n none zero d less same = false≢true (sym (none-first (m == n) (list_any (λ (o : ℕ). o == n) ns) none) ∙ eq-eqb m n same)
absent (m ∷ ns) n none (suc j) d less same = absent ns n (none-behind (m == n) (list_any (λ (o : ℕ). o == n) ns) none) j d (omega arith) same

distinct-once : (ns : List ℕ) → has_twice ns ≡ false → AreDistinct ns
distinct-once [] once i j d less within same = absurd (omega (arith, within))
distinct-once (n ∷ ns) once zero zero d less within same = absurd (omega (arith, less))
distinct-once (n ∷ ns) once zero (suc j) d less within same = absent ns n (none-first (list_any (λ (o : ℕ). o == n) ns) (has_twice ns) once) j d (omega (arith, within)) (sym same)
distinct-once (n ∷ ns) once (suc i) zero d less within same = absurd (omega (arith, less))
distinct-once (n ∷ ns) once (suc i) (suc j) d less within same = distinct-once ns (none-behind (list_any (λ (o : ℕ). o == n) ns) (has_twice ns) once) i j d (omega (arith, less)) (omega (arith, within)) same

-- a link between routers of which none stands twice is laid
pub laid-next : (n : ℕ) (links : List LabLink) (name : List ℕ) (k : CircuitKind) (ns : List ℕ) (metric : ℕ) → HasEnds k ns → AllByRecursion (λ r. r < n) ns → has_twice ns ≡ false → metric ≤ 16777215 → IsLaidLink n links (link_between links name k ns metric)
laid-next n links name k ns metric many there once small = record {
  many = ends-many k ns (next_ends links ns) (length-map ns _) many;
  there = ends-there n links ns there;
  apart = subst (λ (rs : List ℕ). AreDistinct rs) (sym (ends-routers links ns)) (distinct-once ns once);
  places = ends-places links ns;
  metric = small;
}

-- routers of which none is full have room
pub room-next : (links : List LabLink) (ns : List ℕ) → is_some_full links ns ≡ false → HasRoom links (next_ends links ns)
room-next links [] none = tt
room-next links (r ∷ ns) none =
    (room-left links r (none-first (is_full links r) (is_some_full links ns) none), room-next links ns (none-behind (is_full links r) (is_some_full links ns) none))

-- ---- a script without its last line

all-front : (P : LabLine → Type 0) (lines : List LabLine) (line : LabLine) → AllByRecursion P (lines ++ line ∷ []) → AllByRecursion P lines
all-front P [] line all = tt
all-front P (l ∷ lines) line all = (all.0, all-front P lines line all.1)

pub IsSoundLab-front : (s : LabScript) (line : LabLine) → IsSoundLab (with_last s line) → IsSoundLab s
IsSoundLab-front s line h = record {
  routers = h.routers;
  links = h.links;
  systems = h.systems;
  priorities = h.priorities;
  laid = h.laid;
  circuits = h.circuits;
  keys = h.keys;
  lines = all-front (λ l. IsDeed (length s.routers) s.links l.deed) s.lines line h.lines;
}
