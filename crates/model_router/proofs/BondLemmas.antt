-- What the parts of a step leave of a router: its name, its boot, and whom its circuits keep.
use Rattle.std.proofs.Common.{◌<◌, ◌≤◌, ◌||◌, ◌≡◌, ◌≢◌, ℕ, zero, suc, eqb, ◌+◌, ◌==◌, Bool, true, false, not, ◌&&◌, ◌⊎◌, inl, inr, ⊎_elim, List, [], ◌∷◌, map, length, nat_lt, nat_le, Option, Some, None, if◌then◌else◌, refl, sym, ap, ◌∙◌, subst, arith}
use Rattle.std.proofs.lemmas.Bool.Decides.{nat_tests}
use Rattle.std.specs.Option.{option_map}
use Rattle.isis_tlv.specs.declared.three_way.Adj.{Adj}
use Rattle.isis_tlv.specs.declared.three_way.Adj.TheVariants.{Up, Initializing, Down}
use Rattle.isis_base.specs.declared.level.Level.{Level}
use Rattle.isis_base.specs.declared.level.Level.TheVariants as level
use Rattle.model_router.specs.declared.drop_name.DropName.{DropName}
use Rattle.model_router.specs.declared.drop_name.DropName.TheVariants.{OwnId, OtherSnpa, OldBoot, NoLevel, NoArea, OtherNeighbour}
use Rattle.model_router.specs.Both.{Both, at, alone, is_level}
use Rattle.model_router.specs.Places.{nth, with_nth}
use Rattle.model_router.specs.Sets.{has}
use Rattle.model_router.specs.Books.{Book, rank_at, srm_at}
use Rattle.model_router.specs.Adjacencies.{Neighbour, Handshake, Hello, common_of, is_same, three_way, start_state, kept_in, neighbour_of}
use Rattle.model_router.specs.Openings.{close}
use Rattle.model_router.specs.Configs.{Config}
use Rattle.model_router.specs.Routers.{Circuit, LevelState, Router, level_of, book_of, with_level, with_circuit, is_open, extended_of}
use Rattle.model_router.specs.Maps.{find}
use Rattle.model_router.specs.Hellos.{minded, follow_circuit, follow, point_circuit, lan_circuit, take_point, take_lan}
use Rattle.model_router.specs.Drops.{or_else}
use Rattle.model_router.specs.HelloTests.{is_below, is_old, hello_drop, names_drop, shake_drop, full_drop, many_drop}
use Rattle.model_router.specs.Flooding.{Covers}
use Rattle.model_router.specs.StepLaws.{IsPointOpen}
use Rattle.model_router.specs.Givens.{Given}
use Rattle.model_router.specs.Seconds.{counted, count_down, circuit_less, hold, hold_one, hold_all, second}
use Rattle.model_router.specs.Pulls.{csnp_sent, Sending, names_of, hellos, on_circuit, at_circuit, pull_hello, pull_csnp, pull_lsps, pull_psnp, pull_level, pull, with_part, is_csnp_due}
use Rattle.model_router.specs.SnpLists.{owed}
use Rattle.model_router.specs.Events.{Done, Message, Refused, PointHelloHeard, LanHelloHeard, LspHeard, SnpHeard, Event, Second, Take, Pull, Metric, Overload, Prefix, Outcome, settled}
use Rattle.model_router.specs.Elections.{idle_all}
use Rattle.model_router.specs.Receiving.{greeted, taken, take_or_drop, drop_of}
use Rattle.model_router.specs.Steps.{with_metric, with_prefix, sent_all, step}
use Rattle.model_router.specs.AdjacencyLaws.{NamesMe, NewcomerIsFlagged, IsBond, AreBonds, Bond, no_bond, bond_of, bond_at, Tie, tie_of, tie_at, ended, Minds, Stays, Bonds, Same, Ends, Hears, Learns, Meets}
use Rattle.model_router.specs.Deeds.{Hearing, with_this}
use Rattle.model_router.specs.Receiving as receiving
use Rattle.model_router.proofs.SetLemmas.{has-without}
use Rattle.model_router.proofs.BookLemmas.{choose, test, same-or}
use Rattle.model_router.proofs.WayLemmas.{course-keeps}
use Rattle.std.proofs.lemmas.List.{length-map}
use Rattle.model_router.proofs.RouterWays.{set_open-course}
use Rattle.model_router.proofs.ListLemmas.{length-with_nth}
use Rattle.model_router.proofs.TouchLemmas.{nth-with_nth}

-- name, boot and adjacencies stay
pub record Frame (r t : Router) : Type 0 where
  pub boot : t.boot ≡ r.boot
  pub system : t.config.system ≡ r.config.system
  pub areas : t.config.areas ≡ r.config.areas
  pub keys : t.config.keys ≡ r.config.keys
  pub circuits : length t.circuits ≡ length r.circuits
  pub bonds : (place : ℕ) → tie_at t place ≡ tie_at r place

frame-refl : (r : Router) → Frame r r
frame-refl r = record { boot = refl; system = refl; areas = refl; keys = refl; circuits = refl; bonds = λ place. refl }

frame-trans : (r s t : Router) → Frame r s → Frame s t → Frame r t
frame-trans r s t f g = record { boot = g.boot ∙ f.boot; system = g.system ∙ f.system; areas = g.areas ∙ f.areas; keys = g.keys ∙ f.keys; circuits = g.circuits ∙ f.circuits; bonds = λ place. g.bonds place ∙ f.bonds place }

-- what changes no circuit
frame-level : (r : Router) (l : Level) (s : LevelState) → Frame r (with_level r l s)
frame-level r l s = record { boot = refl; system = refl; areas = refl; keys = refl; circuits = refl; bonds = λ place. refl }

-- the bonds of a list in which one circuit is another
set-bond : (cs : List Circuit) (place : ℕ) (old c : Circuit) (q : ℕ) → nth cs place ≡ Some old → tie_of (nth (with_nth cs place c) q) ≡ (if eqb place q then tie_of (Some c) else tie_of (nth cs q))
set-bond cs place old c q e =
    ap tie_of (nth-with_nth cs place c q ∙ ap (λ (o : Option Circuit). if eqb place q then option_map (λ (_ : Circuit). c) o else nth cs q) e)
    ∙ test (λ t. tie_of (if t then Some c else nth cs q) ≡ (if t then tie_of (Some c) else tie_of (nth cs q))) (eqb place q) (λ _. refl) (λ _. refl)

-- a circuit whose adjacency stays
set-same : (cs : List Circuit) (place : ℕ) (old c : Circuit) → nth cs place ≡ Some old → tie_of (Some c) ≡ tie_of (Some old) → (q : ℕ) → tie_of (nth (with_nth cs place c) q) ≡ tie_of (nth cs q)
set-same cs place old c e k q = set-bond cs place old c q e ∙ same-or (λ t. (if t then tie_of (Some c) else tie_of (nth cs q)) ≡ tie_of (nth cs q)) place q
    (λ s. k ∙ ap tie_of (sym e) ∙ ap (λ (n : ℕ). tie_of (nth cs n)) s) (λ _. refl)

frame-circuit : (r : Router) (place : ℕ) (old c : Circuit) → nth r.circuits place ≡ Some old → tie_of (Some c) ≡ tie_of (Some old) → Frame r (with_circuit r place c)
frame-circuit r place old c e k = record { boot = refl; system = refl; areas = refl; keys = refl; circuits = length-with_nth r.circuits place c; bonds = set-same r.circuits place old c e k }

frame-follow : (r : Router) (anew : Bool) (place : ℕ) (c : Circuit) → Frame r (follow r anew place c)
frame-follow r anew place c = record { boot = refl; system = refl; areas = refl; keys = refl; circuits = refl; bonds = λ q. refl }

-- ---- what ends a step

idle-bonds : (config : Config) (n : ℕ) (cs : List Circuit) (q : ℕ) → tie_of (nth (idle_all config n cs) q) ≡ tie_of (nth cs q)
idle-bonds config n [] q = refl
idle-bonds config n (c ∷ cs) zero = refl
idle-bonds config n (c ∷ cs) (suc q) = idle-bonds config (n + 1) cs q

idle-count : (config : Config) (n : ℕ) (cs : List Circuit) → length (idle_all config n cs) ≡ length cs
idle-count config n [] = refl
idle-count config n (c ∷ cs) = ap suc (idle-count config (n + 1) cs)

pub settled-frame : (o : Outcome) → Frame o.router (settled o).router
settled-frame o = record { boot = refl; system = refl; areas = refl; keys = refl; circuits = idle-count o.router.config 0 o.router.circuits; bonds = idle-bonds o.router.config 0 o.router.circuits }

-- ---- a second

-- the adjacency at a place stays or ends, and the rest stays
record Wanes (r t : Router) : Type 0 where
  boot : t.boot ≡ r.boot
  system : t.config.system ≡ r.config.system
  areas : t.config.areas ≡ r.config.areas
  keys : t.config.keys ≡ r.config.keys
  circuits : length t.circuits ≡ length r.circuits
  bonds : (place : ℕ) → (tie_at t place ≡ tie_at r place) ⊎ (tie_at t place ≡ ended (tie_at r place))

frame-wanes : (r t : Router) → Frame r t → Wanes r t
frame-wanes r t f = record { boot = f.boot; system = f.system; areas = f.areas; keys = f.keys; circuits = f.circuits; bonds = λ place. inl (f.bonds place) }

wanes-trans : (r s t : Router) → Wanes r s → Wanes s t → Wanes r t
wanes-trans r s t f g = record { boot = g.boot ∙ f.boot; system = g.system ∙ f.system; areas = g.areas ∙ f.areas; keys = g.keys ∙ f.keys; circuits = g.circuits ∙ f.circuits; bonds = λ place. later place (g.bonds place) (f.bonds place) }
  where
    later : (place : ℕ) → ((tie_at t place ≡ tie_at s place) ⊎ (tie_at t place ≡ ended (tie_at s place))) → ((tie_at s place ≡ tie_at r place) ⊎ (tie_at s place ≡ ended (tie_at r place))) → (tie_at t place ≡ tie_at r place) ⊎ (tie_at t place ≡ ended (tie_at r place))
    later place (inr e) (inl k) = inr (e ∙ ap ended k)
    later place (inr e) (inr k) = inr (e ∙ ap ended k)
    later place (inl e) (inl k) = inl (e ∙ k)
    later place (inl e) (inr k) = inr (e ∙ k)

counted-bonds : (cs : List Circuit) (q : ℕ) → tie_of (nth (map counted cs) q) ≡ tie_of (nth cs q)
counted-bonds [] q = refl
counted-bonds (c ∷ cs) zero = refl
counted-bonds (c ∷ cs) (suc q) = counted-bonds cs q

count_down-frame : (r : Router) → Frame r (count_down r)
unfolding count_down
count_down-frame r = record { boot = refl; system = refl; areas = refl; keys = refl; circuits = length-map r.circuits counted; bonds = counted-bonds r.circuits }

less-bond : (c : Circuit) (o : Option Neighbour) → c.point.neighbour ≡ o → (tie_of (Some (circuit_less c)) ≡ tie_of (Some c)) ⊎ (tie_of (Some (circuit_less c)) ≡ ended (tie_of (Some c)))
less-bond c None e = inl (cc)
less-bond c (Some n) e = by-time (nat_le n.left 1) refl
  where
    by-time : (t : Bool) → nat_le n.left 1 ≡ t → (tie_of (Some (circuit_less c)) ≡ tie_of (Some c)) ⊎ (tie_of (Some (circuit_less c)) ≡ ended (tie_of (Some c)))
    by-time true k = inr (rw (e, k) refl)
    by-time false k = inl (rw (e, k) refl)

if-true : {A : Type 0} (x y z : A) (t : Bool) → x ≡ (if t then y else z) → t ≡ true → x ≡ y
if-true x y z t e k = e ∙ ap (λ b. if b then y else z) k

if-false : {A : Type 0} (x y z : A) (t : Bool) → x ≡ (if t then y else z) → t ≡ false → x ≡ z
if-false x y z t e k = e ∙ ap (λ b. if b then y else z) k

hold-wanes : (r : Router) (place : ℕ) (c : Circuit) → nth r.circuits place ≡ Some c → Wanes r (hold r place c)
unfolding hold
hold-wanes r place c e = record { boot = refl; system = refl; areas = refl; keys = refl; circuits = length-with_nth r.circuits place (circuit_less c); bonds = λ q. held q (less-bond c c.point.neighbour refl) }
  where
    held : (q : ℕ) → (tie_of (Some (circuit_less c)) ≡ tie_of (Some c)) ⊎ (tie_of (Some (circuit_less c)) ≡ ended (tie_of (Some c))) → (tie_of (nth (with_nth r.circuits place (circuit_less c)) q) ≡ tie_at r q) ⊎ (tie_of (nth (with_nth r.circuits place (circuit_less c)) q) ≡ ended (tie_at r q))
    held q (inl k) = inl (set-same r.circuits place c (circuit_less c) e k q)
    held q (inr k) = let s = set-bond r.circuits place c (circuit_less c) q e in
        test (λ t. eqb place q ≡ t → (tie_of (nth (with_nth r.circuits place (circuit_less c)) q) ≡ tie_at r q) ⊎ (tie_of (nth (with_nth r.circuits place (circuit_less c)) q) ≡ ended (tie_at r q))) (eqb place q)
        (λ _ y. let same : place ≡ q = grind (arith, nat_tests) in inr (if-true _ _ _ _ s y ∙ k ∙ ap (λ (o : Option Circuit). ended (tie_of o)) (sym e ∙ ap (λ (n : ℕ). nth r.circuits n) same))) (λ _ n. inl (if-false _ _ _ _ s n)) refl

hold_one-wanes : (r : Router) (place : ℕ) (c : Option Circuit) → nth r.circuits place ≡ c → Wanes r (hold_one r place c)
hold_one-wanes r place None e = frame-wanes r r (frame-refl r)
hold_one-wanes r place (Some c) e = hold-wanes r place c e

hold_all-wanes : (r : Router) (count : ℕ) → Wanes r (hold_all r count)
hold_all-wanes r zero = frame-wanes r r (frame-refl r)
hold_all-wanes r (suc place) = let first = hold_all r place in wanes-trans r first _ (hold_all-wanes r place) (hold_one-wanes first place (nth first.circuits place) refl)

second-wanes : (given : Given) (r : Router) → Wanes r (second given r)
unfolding second
second-wanes given r =
    let one = count_down r in
    let two = hold_all one (length one.circuits) in
    wanes-trans r one _ (frame-wanes r one (count_down-frame r)) (wanes-trans one two _ (hold_all-wanes one (length one.circuits))
    (frame-wanes two _ (record { boot = refl; system = refl; areas = refl; keys = refl; circuits = refl; bonds = λ place. refl })))

-- ---- a pull

pull_hello-frame : (s : Sending) (place : ℕ) (c : Circuit) → nth s.router.circuits place ≡ Some c → Frame s.router (pull_hello s place c).router
unfolding pull_hello
pull_hello-frame s place c e = choose (λ (u : Sending). Frame s.router u.router) (c.hello == 0) _ s
    (λ _. frame-circuit s.router place c (record c { hello = 10 }) e refl) (λ _. frame-refl s.router)

pull_csnp-frame : (s : Sending) (place : ℕ) (l : Level) (c : Circuit) → nth s.router.circuits place ≡ Some c → Frame s.router (pull_csnp s place l c).router
unfolding pull_csnp
pull_csnp-frame s place l c e = choose (λ (u : Sending). Frame s.router u.router) (is_csnp_due s.router.config place c l) _ s
    (λ _. frame-circuit s.router place c (with_part c l (csnp_sent c.lan (at c.levels l))) e refl) (λ _. frame-refl s.router)

pull_lsps-frame : (s : Sending) (place : ℕ) (l : Level) → Frame s.router (pull_lsps s place l).router
unfolding pull_lsps
pull_lsps-frame s place l = frame-level s.router l _

pull_psnp-frame : (s : Sending) (place : ℕ) (l : Level) (c : Circuit) → nth s.router.circuits place ≡ Some c → Frame s.router (pull_psnp s place l c).router
unfolding pull_psnp
pull_psnp-frame s place l c e =
    let new = with_part c l (record (at c.levels l) { psnp = 2 }) in
    choose (λ (u : Sending). Frame s.router u.router) (nat_lt 0 (length (owed place (book_of s.router l))) && (at c.levels l).psnp == 0) _ s
    (λ _. frame-trans s.router (with_circuit s.router place new) _ (frame-circuit s.router place c new e refl) (frame-level (with_circuit s.router place new) l _)) (λ _. frame-refl s.router)

at_circuit-frame : (r : Router) (s : Sending) (place : ℕ) (f : Circuit → Sending) → ((c : Circuit) → nth s.router.circuits place ≡ Some c → Frame s.router (f c).router) → Frame s.router (at_circuit s place f).router
at_circuit-frame r s place f g = on-it (nth s.router.circuits place) refl
  where
    on-it : (c : Option Circuit) → nth s.router.circuits place ≡ c → Frame s.router (on_circuit c s f).router
    on-it None e = frame-refl s.router
    on-it (Some c) e = g c e

pull_level-frame : (s : Sending) (place : ℕ) (l : Level) → Frame s.router (pull_level s place l).router
unfolding pull_level
pull_level-frame s place l =
    let csnp = at_circuit s place (pull_csnp s place l) in
    let lsps = pull_lsps csnp place l in
    choose (λ (u : Sending). Frame s.router u.router) (has (book_of s.router l).opened place) (at_circuit lsps place (pull_psnp lsps place l)) s
    (λ _. frame-trans s.router csnp.router _ (at_circuit-frame s.router s place (pull_csnp s place l) (λ c e. pull_csnp-frame s place l c e))
    (frame-trans csnp.router lsps.router _ (pull_lsps-frame csnp place l) (at_circuit-frame s.router lsps place (pull_psnp lsps place l) (λ c e. pull_psnp-frame lsps place l c e))))
    (λ _. frame-refl s.router)

pub pull-frame : (r : Router) (place : ℕ) → Frame r (pull r place).router
unfolding pull
pull-frame r place =
    let start : Sending = record { router = r; out = [] } in
    let one = at_circuit start place (pull_hello start place) in
    let two = pull_level one place level.One in
    frame-trans r one.router _ (at_circuit-frame r start place (pull_hello start place) (λ c e. pull_hello-frame start place c e))
    (frame-trans one.router two.router _ (pull_level-frame one place level.One) (pull_level-frame two place level.Two))

-- ---- hellos

self : (n : ℕ) → eqb n n ≡ true
self n = grind (arith, nat_tests)

-- a boot that isn't below what is remembered
not-below : (boots : List (ℕ × ℕ)) (h : Hello) → is_old boots h ≡ false → (boot : ℕ) → find boots h.source ≡ Some boot → boot ≤ h.boot
not-below boots h new boot e = let least : nat_lt h.boot boot ≡ false = sym (ap (is_below h.boot) e) ∙ new in grind (arith, nat_tests, least)

-- a LAN hello leaves adjacencies point to point
take_lan-bonds : (r : Router) (place : ℕ) (c : Circuit) (l : Level) (h : Hello) → nth r.circuits place ≡ Some c → is_old c.boots h ≡ false
    → (q : ℕ) → Bonds r (Take place (LanHelloHeard l h)) (settled (record { router = take_lan r place c l h; reply = Done })).router q
unfolding take_lan
take_lan-bonds r place c l h e new q =
    test (λ b. eqb place q ≡ b → Bonds r (Take place (LanHelloHeard l h)) t q) (eqb place q)
    (λ _ y. let same : place ≡ q = grind (arith, nat_tests) in subst (λ (n : ℕ). Bonds r (Take place (LanHelloHeard l h)) t n) same (Hears l h refl
    (record { boots = ap (λ (x : Tie). x.boots) here ∙ ap (λ (x : Tie). minded x.boots h) (sym was); least = λ boot k. not-below c.boots h new boot (ap (λ (x : Tie). find x.boots h.source) (sym was) ∙ k) })
    (ap (λ (x : Tie). x.bond) here ∙ ap (λ (x : Tie). x.bond) (sym was)) (ap (λ (x : Tie). x.boot) here ∙ ap (λ (x : Tie). x.boot) (sym was))))
    (λ _ n. Same (if-false _ _ _ _ (at-place q) n)) refl
  where
    d : Circuit
    d = lan_circuit c l (alone l (common_of r.config h)) h

    t : Router
    t = (settled (record { router = follow (with_circuit r place d) false place d; reply = Done })).router

    at-place : (q : ℕ) → tie_at t q ≡ (if eqb place q then tie_of (Some d) else tie_at r q)
    at-place q = idle-bonds r.config 0 (with_nth r.circuits place d) q ∙ set-bond r.circuits place c d q e

    here : tie_at t place ≡ tie_of (Some d)
    here = if-true _ _ _ _ (at-place place) (self place)

    was : tie_at r place ≡ tie_of (Some c)
    was = ap tie_of e

-- a circuit that was closed is covered, open again or not
quiet : Hearing
quiet = record { rank = λ place id. 0; source = λ id rank content. Unit {0}; sane = ⊥; mine = λ id contents. Unit {0}; names = λ place id. Unit {0}; stirs = λ place. Unit {0} }

closed-off : (b : Book) (place : ℕ) → has (close b place).opened place ≡ false
unfolding close
closed-off b place = has-without b.opened place place ∙ same-or (λ t. (not t && has b.opened place) ≡ false) place place (λ _. refl) (λ n. absurd (n refl))

anew-covers : (s : LevelState) (place : ℕ) (up : Bool) (id : ℕ) → Covers 0 (follow_circuit true s.book place up) id place
unfolding quiet
anew-covers s place up id =
    let first = with_this s (close s.book place) in
    (course-keeps quiet first _ (set_open-course quiet first place up tt)).floods.covers id place (λ o _. absurd (let n = closed-off s.book place in cc))

-- whether a hello is another neighbour's decides
same-names : (o : Option Neighbour) (common : Both Bool) (h : Hello) (extended : ℕ) → is_same o common h extended ≡ true → names_of o ≡ Some (h.source, extended)
same-names None common h extended e = absurd (cc)
same-names (Some n) common h extended e =
    let a : n.system ≡ h.source = grind (arith, nat_tests, e) in
    let b : n.extended ≡ extended = grind (arith, nat_tests, e) in rw (a, b) refl

-- no adjacency is up by a hello in Down
up-heard : (old heard : Adj) → three_way old heard ≡ Up → heard ≢ Down
up-heard Down Down e = absurd (cc)
up-heard Initializing Down e = absurd (cc)
up-heard Up Down e = absurd (cc)
up-heard old Initializing e = λ k. absurd (cc)
up-heard old Up e = λ k. absurd (cc)

tie_in : Adj → Neighbour → List (ℕ × ℕ) → Tie
tie_in state n boots = record { bond = record { state = state; names = names_of (kept_in state n) }; boot = option_map (λ (n : Neighbour). n.boot) (kept_in state n); boots = boots }

take_point-bonds : (r : Router) (place : ℕ) (c : Circuit) (h : Hello) (s : Handshake) → nth r.circuits place ≡ Some c → h.handshake ≡ Some s
    → NamesMe r place s.names → is_old c.boots h ≡ false
    → (q : ℕ) → Bonds r (Take place (PointHelloHeard h)) (settled (record { router = take_point r place c h s; reply = Done })).router q
unfolding take_point tie_in
take_point-bonds r place c h s e shakes named recent q =
    test (λ b. eqb place q ≡ b → Bonds r (Take place (PointHelloHeard h)) t q) (eqb place q)
    (λ _ y. let same : place ≡ q = grind (arith, nat_tests) in subst (λ (n : ℕ). Bonds r (Take place (PointHelloHeard h)) t n) same (by-state (three_way (start_state c.point common h s.extended) s.state) refl))
    (λ _ n. Same (if-false _ _ _ _ (at-place q) n)) refl
  where
    common : Both Bool
    common = common_of r.config h

    anew : Bool
    anew = not (is_same c.point.neighbour common h s.extended)

    new : Circuit
    new = point_circuit c common h s

    t : Router
    t = (settled (record { router = follow (with_circuit r place new) anew place new; reply = Done })).router

    n : Neighbour
    n = neighbour_of h common s.extended

    at-place : (q : ℕ) → tie_at t q ≡ (if eqb place q then tie_of (Some new) else tie_at r q)
    at-place q = idle-bonds r.config 0 (with_nth r.circuits place new) q ∙ set-bond r.circuits place c new q e

    here : (state : Adj) → three_way (start_state c.point common h s.extended) s.state ≡ state → tie_at t place ≡ tie_in state n (minded c.boots h)
    here state k = if-true _ _ _ _ (at-place place) (self place) ∙ ap (λ (x : Adj). tie_in x n (minded c.boots h)) k

    was : tie_at r place ≡ tie_of (Some c)
    was = ap tie_of e

    minds : (state : Adj) → three_way (start_state c.point common h s.extended) s.state ≡ state → Minds (tie_at r place) h (tie_at t place)
    minds state k = record {
      boots = ap (λ (x : Tie). x.boots) (here state k) ∙ ap (λ (x : Tie). minded x.boots h) (sym was);
      least = λ boot a. not-below c.boots h recent boot (ap (λ (x : Tie). find x.boots h.source) (sym was) ∙ a);
    }

    bond : (state : Adj) → three_way (start_state c.point common h s.extended) s.state ≡ state → bond_at t place ≡ record { state = state; names = names_of (kept_in state n) }
    bond state k = ap (λ (x : Tie). x.bond) (here state k)

    boot : (state : Adj) → three_way (start_state c.point common h s.extended) s.state ≡ state → (tie_at t place).boot ≡ option_map (λ (n : Neighbour). n.boot) (kept_in state n)
    boot state k = ap (λ (x : Tie). x.boot) (here state k)

    on-level : (l : Level) → anew ≡ true → (id : ℕ) → Covers 0 (book_of t l) id place
    on-level level.One a id = subst (λ (x : Bool). Covers 0 (follow_circuit x (book_of r level.One) place (is_open new level.One)) id place) (sym a) (anew-covers (level_of r level.One) place (is_open new level.One) id)
    on-level level.Two a id = subst (λ (x : Bool). Covers 0 (follow_circuit x (book_of r level.Two) place (is_open new level.Two)) id place) (sym a) (anew-covers (level_of r level.Two) place (is_open new level.Two) id)

    covered : ((bond_at r place).names ≡ Some (h.source, s.extended)) ⊎ ((l : Level) (id : ℕ) → Covers 0 (book_of t l) id place)
    covered = test (λ b. is_same c.point.neighbour common h s.extended ≡ b → ((bond_at r place).names ≡ Some (h.source, s.extended)) ⊎ ((l : Level) (id : ℕ) → Covers 0 (book_of t l) id place)) (is_same c.point.neighbour common h s.extended)
        (λ _ y. inl (ap (λ (o : Option Circuit). (bond_of o).names) e ∙ same-names c.point.neighbour common h s.extended y))
        (λ _ n. inr (λ l id. on-level l (ap not n) id)) refl

    by-state : (state : Adj) → three_way (start_state c.point common h s.extended) s.state ≡ state → Bonds r (Take place (PointHelloHeard h)) t place
    by-state Down k = Learns h s refl shakes (minds Down k) (bond Down k)
    by-state Initializing k = Meets h s Initializing refl shakes named (λ d. absurd (cc)) (λ d. absurd (cc)) (minds Initializing k) (boot Initializing k) (bond Initializing k) covered
    by-state Up k = Meets h s Up refl shakes named (λ d. absurd (cc)) (λ d. up-heard _ _ k) (minds Up k) (boot Up k) (bond Up k) covered

-- ---- a step

frame-bonds : (r : Router) (event : Event) (t : Router) → Frame r t → (q : ℕ) → Bonds r event t q
frame-bonds r event t f q = Same (f.bonds q)

or_else-later : (a b : Option DropName) → or_else a b ≡ None → b ≡ None
or_else-later None b e = e
or_else-later (Some x) b e = absurd (cc)

or_else-first : (a b : Option DropName) → or_else a b ≡ None → a ≡ None
or_else-first None b e = refl
or_else-first (Some x) b e = absurd (cc)

-- what passes the tests of both kinds isn't of an old boot
recent-boot : (config : Config) (boots : List (ℕ × ℕ)) (common : Both Bool) (both_one : Bool) (h : Hello) → hello_drop config boots common both_one h ≡ None → is_old boots h ≡ false
recent-boot config boots common both_one h d =
    test (λ t. (h.source == config.system) ≡ t → ◌≡◌ {A = Option DropName} (if t then Some OwnId else (if not (h.source == h.snpa) then Some OtherSnpa else (if is_old boots h then Some OldBoot else (if common.one || common.two then None else (if both_one then Some NoArea else Some NoLevel))))) None → is_old boots h ≡ false) (h.source == config.system)
    (λ _ _ k. absurd (cc))
    (λ _ _. test (λ t. not (h.source == h.snpa) ≡ t → ◌≡◌ {A = Option DropName} (if t then Some OtherSnpa else (if is_old boots h then Some OldBoot else (if common.one || common.two then None else (if both_one then Some NoArea else Some NoLevel)))) None → is_old boots h ≡ false) (not (h.source == h.snpa))
    (λ _ _ k. absurd (cc))
    (λ _ _. test (λ t. is_old boots h ≡ t → ◌≡◌ {A = Option DropName} (if t then Some OldBoot else (if common.one || common.two then None else (if both_one then Some NoArea else Some NoLevel))) None → is_old boots h ≡ false) (is_old boots h)
    (λ _ _ k. absurd (cc)) (λ _ n _. n) refl) refl) refl d

-- what passes the test of names is oneself
names-me : (r : Router) (place : ℕ) (names : Option (ℕ × ℕ)) → names_drop r.config (extended_of r.boot place) names ≡ None → NamesMe r place names
names-me r place None d = tt
names-me r place (Some names) d =
    test (λ t. (names.0 == r.config.system && names.1 == extended_of r.boot place) ≡ t → ◌≡◌ {A = Option DropName} (if t then None else Some OtherNeighbour) None → NamesMe r place (Some names)) (names.0 == r.config.system && names.1 == extended_of r.boot place)
    (λ _ y _. (grind (arith, nat_tests, y), grind (arith, nat_tests, y))) (λ _ n e. absurd (cc)) refl d

greeted-bonds : (r : Router) (place : ℕ) (c : Circuit) (h : Hello) (s : Option Handshake) → nth r.circuits place ≡ Some c → h.handshake ≡ s
    → shake_drop r.config (extended_of r.boot place) s ≡ None → is_old c.boots h ≡ false
    → (q : ℕ) → Bonds r (Take place (PointHelloHeard h)) (settled (record { router = greeted r place c h s; reply = Done })).router q
greeted-bonds r place c h None e shakes d recent q = frame-bonds r _ _ (settled-frame (record { router = r; reply = Done })) q
greeted-bonds r place c h (Some s) e shakes d recent q = take_point-bonds r place c h s e shakes (names-me r place s.names d) recent q

taken-bonds : (given : Given) (r : Router) (place : ℕ) (c : Circuit) (m : Message) → nth r.circuits place ≡ Some c → drop_of r place c m ≡ None → (q : ℕ) → Bonds r (Take place m) (settled (taken given r place c m)).router q
taken-bonds given r place c (Refused cause) e d q = frame-bonds r _ _ (settled-frame (record { router = r; reply = Done })) q
taken-bonds given r place c (PointHelloHeard h) e d q =
    let both_one = r.config.runs.one && h.runs.one in
    let drop = hello_drop r.config c.boots (common_of r.config h) both_one h in
    let known = or_else-first (or_else drop (shake_drop r.config (extended_of r.boot place) h.handshake)) (full_drop c.boots h.source) d in
    greeted-bonds r place c h h.handshake e refl (or_else-later drop (shake_drop r.config (extended_of r.boot place) h.handshake) known)
    (recent-boot r.config c.boots (common_of r.config h) both_one h (or_else-first drop (shake_drop r.config (extended_of r.boot place) h.handshake) known)) q
taken-bonds given r place c (LanHelloHeard l h) e d q =
    let both_one = is_level l level.One && r.config.runs.one && h.runs.one in
    let drop = hello_drop r.config c.boots (alone l (common_of r.config h)) both_one h in
    let known = or_else-first (or_else drop (many_drop (at c.levels l).heard h.snpa)) (full_drop c.boots h.source) d in
    take_lan-bonds r place c l h e (recent-boot r.config c.boots (alone l (common_of r.config h)) both_one h (or_else-first drop (many_drop (at c.levels l).heard h.snpa) known)) q
taken-bonds given r place c (LspHeard l snpa h) e d q = frame-bonds r _ _ (frame-trans r (with_level r l _) _ (frame-level r l _) (settled-frame (taken given r place c (LspHeard l snpa h)))) q
taken-bonds given r place c (SnpHeard l snpa source range entries) e d q = frame-bonds r _ _ (frame-trans r (with_level r l _) _ (frame-level r l _) (settled-frame (taken given r place c (SnpHeard l snpa source range entries)))) q

take_or_drop-bonds : (given : Given) (r : Router) (place : ℕ) (c : Circuit) (m : Message) (drop : Option DropName) → nth r.circuits place ≡ Some c → drop_of r place c m ≡ drop → (q : ℕ) → Bonds r (Take place m) (take_or_drop given r place c m drop).router q
take_or_drop-bonds given r place c m (Some cause) e d q = Same refl
take_or_drop-bonds given r place c m None e d q = taken-bonds given r place c m e d q

take-bonds : (given : Given) (r : Router) (place : ℕ) (m : Message) (c : Option Circuit) → nth r.circuits place ≡ c → (q : ℕ) → Bonds r (Take place m) (receiving.take given r place m c).router q
take-bonds given r place m None e q = Same refl
take-bonds given r place m (Some c) e q = take_or_drop-bonds given r place c m (drop_of r place c m) e refl q

wanes-bonds : (r : Router) (event : Event) (t : Router) → Wanes r t → (q : ℕ) → Bonds r event t q
wanes-bonds r event t w q = ⊎_elim (λ e. Same e) (λ e. Ends e) (w.bonds q)

second-all : (given : Given) (r : Router) → Wanes r (settled (record { router = second given r; reply = Done })).router
second-all given r = wanes-trans r (second given r) _ (second-wanes given r) (frame-wanes (second given r) _ (settled-frame (record { router = second given r; reply = Done })))

pub pull-all : (r : Router) (place : ℕ) → Frame r (settled (sent_all (pull r place))).router
pull-all r place = frame-trans r (pull r place).router _ (pull-frame r place) (settled-frame (sent_all (pull r place)))

metric-frame : (r : Router) (place metric : ℕ) (c : Option Circuit) → nth r.circuits place ≡ c → Frame r (with_metric r place metric c)
metric-frame r place metric None e = frame-refl r
metric-frame r place metric (Some c) e = frame-circuit r place c (record c { metric = metric }) e refl

metric-all : (r : Router) (place metric : ℕ) → Frame r (settled (record { router = with_metric r place metric (nth r.circuits place); reply = Done })).router
metric-all r place metric = let new = with_metric r place metric (nth r.circuits place) in frame-trans r new _ (metric-frame r place metric (nth r.circuits place) refl) (settled-frame (record { router = new; reply = Done }))

overload-all : (r : Router) (on : Bool) → Frame r (settled (record { router = record r { config = record r.config { overload = on } }; reply = Done })).router
overload-all r on = record { boot = refl; system = refl; areas = refl; keys = refl; circuits = idle-count (record r.config { overload = on }) 0 r.circuits; bonds = idle-bonds (record r.config { overload = on }) 0 r.circuits }

prefix-all : (r : Router) (prefix : ℕ) (metric : Option ℕ) → Frame r (settled (record { router = with_prefix r prefix metric; reply = Done })).router
prefix-all r prefix metric = record { boot = refl; system = refl; areas = refl; keys = refl; circuits = idle-count (with_prefix r prefix metric).config 0 r.circuits; bonds = idle-bonds (with_prefix r prefix metric).config 0 r.circuits }

pub step-bonds : (given : Given) (r : Router) (event : Event) (q : ℕ) → Bonds r event (step given r event).router q
unfolding step
step-bonds given r Second q = wanes-bonds r Second _ (second-all given r) q
step-bonds given r (Take place m) q = take-bonds given r place m (nth r.circuits place) refl q
step-bonds given r (Pull place) q = frame-bonds r (Pull place) _ (pull-all r place) q
step-bonds given r (Metric place metric) q = frame-bonds r (Metric place metric) _ (metric-all r place metric) q
step-bonds given r (Overload on) q = frame-bonds r (Overload on) _ (overload-all r on) q
step-bonds given r (Prefix prefix metric) q = frame-bonds r (Prefix prefix metric) _ (prefix-all r prefix metric) q

-- nobody is kept exactly in Down, before and after
bonds-kept : (r : Router) (event : Event) (t : Router) (q : ℕ) → Bonds r event t q → IsBond (bond_at r q) → IsBond (bond_at t q)
bonds-kept r event t q (Same e) h = subst (λ (x : Tie). IsBond x.bond) (sym e) h
bonds-kept r event t q (Ends e) h = subst (λ (x : Tie). IsBond x.bond) (sym e) (record { down = λ _. refl; names = λ _. refl })
bonds-kept r event t q (Hears l h e minds same boot) old = subst IsBond (sym same) old
bonds-kept r event t q (Learns h s e k minds none) old = subst IsBond (sym none) (record { down = λ _. refl; names = λ _. refl })
bonds-kept r event t q (Meets h s state e k n apart up minds boot met covered) old = subst IsBond (sym met) (record { down = λ d. absurd (apart d); names = λ d. absurd (cc) })

pub step-kept : (given : Given) (r : Router) (event : Event) → AreBonds r → AreBonds (step given r event).router
step-kept given r event h = record { on = λ q. bonds-kept r event (step given r event).router q (step-bonds given r event q) (h.on q) }

-- another neighbour than before has the flag of every key
newcomer-here : (r : Router) (event : Event) (t : Router) (place : ℕ) → Bonds r event t place → (level : Level) (id : ℕ) (who : ℕ × ℕ) → (bond_at t place).names ≡ Some who → (bond_at r place).names ≢ Some who
    → IsPointOpen t level place → 0 < rank_at (book_of t level) id → srm_at (book_of t level) id place ≡ true
newcomer-here r event t place (Same e) level id who h other opens some = absurd (other (sym (ap (λ (x : Tie). x.bond.names) e) ∙ h))
newcomer-here r event t place (Ends e) level id who h other opens some = absurd (let none : no_bond.names ≡ Some who = sym (ap (λ (x : Tie). x.bond.names) e) ∙ h in cc)
newcomer-here r event t place (Hears l h e minds same boot) level id who is other opens some = absurd (other (sym (ap (λ (b : Bond). b.names) same) ∙ is))
newcomer-here r event t place (Learns h s e k minds none) level id who is other opens some = absurd (let nobody : no_bond.names ≡ Some who = sym (ap (λ (b : Bond). b.names) none) ∙ is in cc)
newcomer-here r event t place (Meets h s state e k n apart up minds boot met covered) level id who same-who other opens some =
    ⊎_elim (λ same. absurd (other (same ∙ sym (ap (λ (b : Bond). b.names) met) ∙ same-who)))
    (λ covers. ⊎_elim (λ flag. flag) (λ low. absurd (omega (arith, low, some))) (covers level id opens.0 opens.1)) covered

pub step-newcomer : (given : Given) (r : Router) (event : Event) → NewcomerIsFlagged r (step given r event).router
step-newcomer given r event level place id who is other opens some = newcomer-here r event (step given r event).router place (step-bonds given r event place) level id who is other opens some

-- ---- name and boot

frame-stays : (r t : Router) → Frame r t → Stays r t
frame-stays r t f = record { boot = f.boot; system = f.system; areas = f.areas; keys = f.keys; circuits = f.circuits }

greeted-stays : (r : Router) (place : ℕ) (c : Circuit) (h : Hello) (s : Option Handshake) → Stays r (greeted r place c h s)
unfolding take_point
greeted-stays r place c h None = record { boot = refl; system = refl; areas = refl; keys = refl; circuits = refl }
greeted-stays r place c h (Some s) = record { boot = refl; system = refl; areas = refl; keys = refl; circuits = length-with_nth r.circuits place _ }

taken-stays : (given : Given) (r : Router) (place : ℕ) (c : Circuit) (m : Message) → Stays r (taken given r place c m).router
unfolding take_lan
taken-stays given r place c (Refused cause) = record { boot = refl; system = refl; areas = refl; keys = refl; circuits = refl }
taken-stays given r place c (PointHelloHeard h) = greeted-stays r place c h h.handshake
taken-stays given r place c (LanHelloHeard l h) = record { boot = refl; system = refl; areas = refl; keys = refl; circuits = length-with_nth r.circuits place _ }
taken-stays given r place c (LspHeard l snpa h) = record { boot = refl; system = refl; areas = refl; keys = refl; circuits = refl }
taken-stays given r place c (SnpHeard l snpa source range entries) = record { boot = refl; system = refl; areas = refl; keys = refl; circuits = refl }

take_or_drop-stays : (given : Given) (r : Router) (place : ℕ) (c : Circuit) (m : Message) (drop : Option DropName) → Stays r (take_or_drop given r place c m drop).router
take_or_drop-stays given r place c m (Some cause) = record { boot = refl; system = refl; areas = refl; keys = refl; circuits = refl }
take_or_drop-stays given r place c m None = let s = taken-stays given r place c m in let t = settled-frame (taken given r place c m) in record { boot = s.boot; system = s.system; areas = s.areas; keys = s.keys; circuits = t.circuits ∙ s.circuits }

take-stays : (given : Given) (r : Router) (place : ℕ) (m : Message) (c : Option Circuit) → Stays r (receiving.take given r place m c).router
take-stays given r place m None = record { boot = refl; system = refl; areas = refl; keys = refl; circuits = refl }
take-stays given r place m (Some c) = take_or_drop-stays given r place c m (drop_of r place c m)

pub step-stays : (given : Given) (r : Router) (event : Event) → Stays r (step given r event).router
unfolding step
step-stays given r Second = let w = second-all given r in record { boot = w.boot; system = w.system; areas = w.areas; keys = w.keys; circuits = w.circuits }
step-stays given r (Take place m) = take-stays given r place m (nth r.circuits place)
step-stays given r (Pull place) = frame-stays r _ (pull-all r place)
step-stays given r (Metric place metric) = frame-stays r _ (metric-all r place metric)
step-stays given r (Overload on) = frame-stays r _ (overload-all r on)
step-stays given r (Prefix prefix metric) = frame-stays r _ (prefix-all r prefix metric)
