-- What holds at a router's start, and the CSNP counters, which stand at 0 where the router isn't designated.
use Rattle.std.proofs.Common.{◌≡◌, ℕ, zero, suc, eqb, ◌+◌, ◌^◌, ◌<◌, ◌≤◌, Bool, true, false, not, ◌||◌, List, [], ◌∷◌, map, length, Option, Some, None, if◌then◌else◌, refl, sym, ap, ◌∙◌, subst, arith, zero-add}
use Rattle.std.proofs.lemmas.Bool.Decides.{nat_tests}
use Rattle.std.proofs.lemmas.List.{length-map}
use Rattle.std.specs.Option.{option_map}
use Rattle.isis_base.specs.declared.level.Level.{Level}
use Rattle.isis_base.specs.declared.level.Level.TheVariants as level
use Rattle.model_router.specs.declared.drop_name.DropName.{DropName}
use Rattle.model_router.specs.Places.{nth}
use Rattle.model_router.specs.Sets.{has, with_one}
use Rattle.model_router.specs.Configs.{Config}
use Rattle.model_router.specs.Routers.{Circuit, Router, book_of, is_open}
use Rattle.model_router.specs.Elections.{idle, idle_all}
use Rattle.model_router.specs.Givens.{Given}
use Rattle.model_router.specs.Seconds.{second}
use Rattle.model_router.specs.Pulls.{pull}
use Rattle.model_router.specs.Events.{Message, Event, Second, Take, Pull, Metric, Overload, Prefix, Outcome, settled, Done}
use Rattle.model_router.specs.Receiving as receiving
use Rattle.model_router.specs.Receiving.{drop_of, taken, take_or_drop}
use Rattle.model_router.specs.Steps.{with_metric, with_prefix, sent_all, step}
use Rattle.model_router.specs.Starts.{started, points_of, start}
use Rattle.model_router.specs.Sorted.{RisesFrom, IsSorted}
use Rattle.isis_tlv.specs.Spelling.{area_value}
use Rattle.model_router.specs.Good.{IsGoodBook, IsGoodRouter, IsTelling}
use Rattle.model_router.specs.AdjacencyLaws.{opens, is_point, FollowsAdjacencies, AreBonds, IsBond, bond_of, IsIdle, AreIdle}
use Rattle.model_router.proofs.SetLemmas.{has-with_one, has-none}
use Rattle.model_router.proofs.BookLemmas.{choose}

-- ---- the start

pub start-sorted : (config : Config) (boot : ℕ) (circuits : List Circuit) → IsSorted (start config boot circuits)
start-sorted config boot circuits = record { on = each-level }
  where
    each-level : (l : Level) → RisesFrom 0 (book_of (start config boot circuits) l).cells
    each-level level.One = tt
    each-level level.Two = tt

pub start-good : (config : Config) (boot : ℕ) (circuits : List Circuit) → config.system < 2 ^ 48 → length circuits ≤ 255 → IsGoodRouter (start config boot circuits)
start-good config boot circuits short few = record {
  config = record { system = short; circuits = subst (λ (n : ℕ). n ≤ 255) (sym (length-map circuits started)) few };
  on = each-level;
}
  where
    each-level : (l : Level) → IsGoodBook (book_of (start config boot circuits) l)
    each-level level.One = record { at = λ id. tt }
    each-level level.Two = record { at = λ id. tt }

pub start-telling : (config : Config) (boot : ℕ) (circuits : List Circuit) → length (area_value config.areas) ≤ 255 → length circuits ≤ 126 → IsTelling (start config boot circuits)
start-telling config boot circuits areas few = record { areas = areas; circuits = subst (λ (n : ℕ). n ≤ 126) (sym (length-map circuits started)) few }

never : (t : Bool) → (if t then false else false) ≡ false
never true = refl
never false = refl

closed : (c : Circuit) (l : Level) → is_open (started c) l ≡ false
closed c level.One = never c.lan
closed c level.Two = never c.lan

all-closed : (circuits : List Circuit) (place : ℕ) (l : Level) → opens (nth (map started circuits) place) l ≡ false
all-closed [] place l = refl
all-closed (c ∷ circuits) zero l = closed c l
all-closed (c ∷ circuits) (suc place) l = all-closed circuits place l

kinds : (circuits : List Circuit) (place : ℕ) → is_point (nth (map started circuits) place) ≡ is_point (nth circuits place)
kinds [] place = refl
kinds (c ∷ circuits) zero = refl
kinds (c ∷ circuits) (suc place) = kinds circuits place

points-below : (circuits : List Circuit) (place q : ℕ) → q < place → has (points_of place circuits) q ≡ false
points-below [] place q h = has-none q
points-below (c ∷ circuits) place q h =
    let rest = points-below circuits (place + 1) q (omega (arith, h)) in
    choose (λ (n : ℕ). has n q ≡ false) c.lan (points_of (place + 1) circuits) (with_one (points_of (place + 1) circuits) place)
    (λ _. rest) (λ _. has-with_one (points_of (place + 1) circuits) place q ∙ other place q h (has (points_of (place + 1) circuits) q) rest)
  where
    other : (place q : ℕ) → q < place → (t : Bool) → t ≡ false → (eqb place q || t) ≡ false
    other place q h t e = grind (arith, nat_tests, h, e)

points-has : (circuits : List Circuit) (place q : ℕ) → has (points_of place circuits) (place + q) ≡ is_point (nth circuits q)
points-has [] place q = has-none (place + q)
points-has (c ∷ circuits) place zero =
    let rest = points_of (place + 1) circuits in
    let none : has rest (place + 0) ≡ false = points-below circuits (place + 1) (place + 0) (omega arith) in
    by-kind c.lan rest (has-with_one rest place (place + 0)) none
  where
    here : (place : ℕ) (t : Bool) → (eqb place (place + 0) || t) ≡ true
    here place t = grind (arith, nat_tests)

    by-kind : (lan : Bool) (rest : ℕ) → has (with_one rest place) (place + 0) ≡ (eqb place (place + 0) || has rest (place + 0)) → has rest (place + 0) ≡ false → has (if lan then rest else with_one rest place) (place + 0) ≡ not lan
    by-kind true rest e none = none
    by-kind false rest e none = e ∙ here place (has rest (place + 0))
points-has (c ∷ circuits) place (suc q) =
    let rest = points_of (place + 1) circuits in
    let behind : has rest (place + suc q) ≡ is_point (nth circuits q) = subst (λ (n : ℕ). has rest n ≡ is_point (nth circuits q)) (shift place q) (points-has circuits (place + 1) q) in
    choose (λ (n : ℕ). has n (place + suc q) ≡ is_point (nth circuits q)) c.lan rest (with_one rest place)
    (λ _. behind) (λ _. has-with_one rest place (place + suc q) ∙ past place q (has rest (place + suc q)) ∙ behind)
  where
    shift : (place q : ℕ) → (place + 1) + q ≡ place + suc q
    shift place q = omega arith

    past : (place q : ℕ) (t : Bool) → (eqb place (place + suc q) || t) ≡ t
    past place q t = grind (arith, nat_tests)

pub start-follows : (config : Config) (boot : ℕ) (circuits : List Circuit) → FollowsAdjacencies (start config boot circuits)
start-follows config boot circuits = record { opened = opened-at; points = points-at }
  where
    opened-at : (l : Level) (place : ℕ) → has (book_of (start config boot circuits) l).opened place ≡ opens (nth (map started circuits) place) l
    opened-at level.One place = has-none place ∙ sym (all-closed circuits place level.One)
    opened-at level.Two place = has-none place ∙ sym (all-closed circuits place level.Two)

    points : (place : ℕ) → has (points_of 0 circuits) place ≡ is_point (nth (map started circuits) place)
    points place = subst (λ (n : ℕ). has (points_of 0 circuits) n ≡ is_point (nth circuits place)) (zero-add place) (points-has circuits 0 place) ∙ sym (kinds circuits place)

    points-at : (l : Level) (place : ℕ) → has (book_of (start config boot circuits) l).p2p place ≡ is_point (nth (map started circuits) place)
    points-at level.One place = points place
    points-at level.Two place = points place

no-bonds : (circuits : List Circuit) (place : ℕ) → IsBond (bond_of (nth (map started circuits) place))
no-bonds [] place = record { down = λ _. refl; names = λ _. refl }
no-bonds (c ∷ circuits) zero = record { down = λ _. refl; names = λ _. refl }
no-bonds (c ∷ circuits) (suc place) = no-bonds circuits place

pub start-bonds : (config : Config) (boot : ℕ) (circuits : List Circuit) → AreBonds (start config boot circuits)
start-bonds config boot circuits = record { on = no-bonds circuits }

pub start-idle : (config : Config) (boot : ℕ) (circuits : List Circuit) → AreIdle (start config boot circuits)
start-idle config boot circuits = record { on = λ place l. all-quiet circuits place place l }
  where
    all-quiet : (cs : List Circuit) (place q : ℕ) (l : Level) → IsIdle (start config boot circuits) q (nth (map started cs) place) l
    all-quiet [] place q l = tt
    all-quiet (c ∷ cs) zero q level.One = λ _. refl
    all-quiet (c ∷ cs) zero q level.Two = λ _. refl
    all-quiet (c ∷ cs) (suc place) q l = all-quiet cs place q l

-- ---- CSNP counters

nth-idle : (config : Config) (n : ℕ) (cs : List Circuit) (q : ℕ) → nth (idle_all config n cs) q ≡ option_map (idle config (n + q)) (nth cs q)
nth-idle config n [] q = refl
nth-idle config n (c ∷ cs) zero = ap (λ (place : ℕ). Some (idle config place c)) (let e : n ≡ n + 0 = omega arith in e)
nth-idle config n (c ∷ cs) (suc q) = nth-idle config (n + 1) cs q ∙ ap (λ (place : ℕ). option_map (idle config place) (nth cs q)) (let e : (n + 1) + q ≡ n + suc q = omega arith in e)

idle-is : (r : Router) (place : ℕ) (c : Option Circuit) (l : Level) → IsIdle r place (option_map (idle r.config place) c) l
idle-is r place None l = tt
idle-is r place (Some c) level.One = λ e. subst (λ (t : Bool). (if t then c.levels.one.csnp else 0) ≡ 0) (sym e) refl
idle-is r place (Some c) level.Two = λ e. subst (λ (t : Bool). (if t then c.levels.two.csnp else 0) ≡ 0) (sym e) refl

settled-idle : (o : Outcome) → AreIdle (settled o).router
settled-idle o = record { on = λ place l. subst (λ (c : Option Circuit). IsIdle (settled o).router place c l) (sym (nth-idle o.router.config 0 o.router.circuits place ∙ ap (λ (n : ℕ). option_map (idle o.router.config n) (nth o.router.circuits place)) (zero-add place))) (idle-is (settled o).router place (nth o.router.circuits place) l) }

take_or_drop-idle : (given : Given) (r : Router) (place : ℕ) (c : Circuit) (m : Message) (drop : Option DropName) → AreIdle r → AreIdle (take_or_drop given r place c m drop).router
take_or_drop-idle given r place c m (Some cause) h = record { on = λ q l. again q (nth r.circuits q) l (h.on q l) }
  where
    again : (q : ℕ) (x : Option Circuit) (l : Level) → IsIdle r q x l → IsIdle (take_or_drop given r place c m (Some cause)).router q x l
    again q None l k = tt
    again q (Some x) l k = k
take_or_drop-idle given r place c m None h = settled-idle (taken given r place c m)

take-idle : (given : Given) (r : Router) (place : ℕ) (m : Message) (c : Option Circuit) → AreIdle r → AreIdle (receiving.take given r place m c).router
take-idle given r place m None h = h
take-idle given r place m (Some c) h = take_or_drop-idle given r place c m (drop_of r place c m) h

pub step-idle : (given : Given) (r : Router) (event : Event) → AreIdle r → AreIdle (step given r event).router
unfolding step
step-idle given r Second h = settled-idle (record { router = second given r; reply = Done })
step-idle given r (Take place m) h = take-idle given r place m (nth r.circuits place) h
step-idle given r (Pull place) h = settled-idle (sent_all (pull r place))
step-idle given r (Metric place metric) h = settled-idle (record { router = with_metric r place metric (nth r.circuits place); reply = Done })
step-idle given r (Overload on) h = settled-idle (record { router = record r { config = record r.config { overload = on } }; reply = Done })
step-idle given r (Prefix prefix metric) h = settled-idle (record { router = with_prefix r prefix metric; reply = Done })
