-- What a step leaves of a router's configuration and of its counters of drops.
use Rattle.std.proofs.Common.{◌≡◌, ℕ, zero, suc, ◌+◌, ◌<◌, ◌≤◌, ◌&&◌, nat_lt, ◌==◌, List, [], ◌∷◌, length, Bool, true, false, Option, Some, None, if◌then◌else◌, is_some, refl, sym, ap, ◌∙◌, subst, arith}
use Rattle.isis_base.specs.declared.level.Level.{Level}
use Rattle.isis_base.specs.declared.level.Level.TheVariants as level
use Rattle.model_router.specs.Both.{at}
use Rattle.model_router.specs.Maps.{find, put, erase, set_at}
use Rattle.model_router.specs.Places.{nth, with_nth}
use Rattle.model_router.specs.Sets.{has}
use Rattle.model_router.specs.declared.drop_name.DropName.{DropName}
use Rattle.model_router.specs.Drops.{drop_place, drops_of}
use Rattle.model_router.specs.Books.{risen}
use Rattle.model_router.specs.Sorted.{RisesFrom}
use Rattle.model_router.specs.Adjacencies.{Hello, Handshake}
use Rattle.model_router.specs.Configs.{Config}
use Rattle.model_router.specs.Routers.{Circuit, Router, book_of}
use Rattle.model_router.specs.Hellos.{take_point, take_lan}
use Rattle.model_router.specs.Givens.{Given}
use Rattle.model_router.specs.Seconds.{second, count_down, hold, hold_one, hold_all}
use Rattle.model_router.specs.SnpLists.{owed}
use Rattle.model_router.specs.Pulls.{Sending, at_circuit, on_circuit, pull_hello, is_csnp_due, pull_csnp, pull_lsps, pull_psnp, pull_level, pull}
use Rattle.model_router.specs.Events.{Message, Refused, PointHelloHeard, LanHelloHeard, LspHeard, SnpHeard, Event, Second, Take, Pull, Metric, Overload, Prefix, settled}
use Rattle.model_router.specs.Receiving.{drop_of, greeted, take, take_or_drop, taken}
use Rattle.model_router.specs.Steps.{step, with_metric}
use Rattle.router_core.specs.Events.{FitsPrefix}
use Rattle.ordered.proofs.MapLemmas.{length-put}
use Rattle.router_core.proofs.PrefixLemmas.{put-up, erase-up}

-- the configuration stays, and there are as many counters
pub record Rests (r t : Router) : Type 0 where
  pub config : t.config ≡ r.config
  pub drops : length t.drops ≡ length r.drops

rests-refl : (r : Router) → Rests r r
rests-refl r = record { config = refl; drops = refl }

rests-trans : (r s t : Router) → Rests r s → Rests s t → Rests r t
rests-trans r s t f g = record { config = g.config ∙ f.config; drops = g.drops ∙ f.drops }

-- ---- a second

hold-rests : (r : Router) (place : ℕ) (c : Circuit) → Rests r (hold r place c)
unfolding hold
hold-rests r place c = record { config = refl; drops = refl }

hold-one-rests : (r : Router) (place : ℕ) (o : Option Circuit) → Rests r (hold_one r place o)
hold-one-rests r place None = rests-refl r
hold-one-rests r place (Some c) = hold-rests r place c

hold-all-rests : (r : Router) (n : ℕ) → Rests r (hold_all r n)
hold-all-rests r zero = rests-refl r
hold-all-rests r (suc n) =
    rests-trans r (hold_all r n) (hold_all r (suc n)) (hold-all-rests r n) (hold-one-rests (hold_all r n) n (nth (hold_all r n).circuits n))

down-rests : (r : Router) → Rests r (count_down r)
unfolding count_down
down-rests r = record { config = refl; drops = refl }

pub second-rests : (given : Given) (r : Router) → Rests r (second given r)
unfolding second
second-rests given r =
    let one = count_down r in
    let held = hold-all-rests one (length one.circuits) in
    let down = down-rests r in
    record { config = held.config ∙ down.config; drops = held.drops ∙ down.drops }

-- ---- a pull

either : (P : Sending → Type 0) (b : Bool) (x y : Sending) → P x → P y → P (if b then x else y)
either P true x y p q = p
either P false x y p q = q

hello-rests : (s : Sending) (place : ℕ) (c : Circuit) → Rests s.router (pull_hello s place c).router
unfolding pull_hello
hello-rests s place c = either (λ u. Rests s.router u.router) (c.hello == 0) _ s (record { config = refl; drops = refl }) (rests-refl s.router)

csnp-rests : (s : Sending) (place : ℕ) (l : Level) (c : Circuit) → Rests s.router (pull_csnp s place l c).router
unfolding pull_csnp
csnp-rests s place l c = either (λ u. Rests s.router u.router) (is_csnp_due s.router.config place c l) _ s (record { config = refl; drops = refl }) (rests-refl s.router)

lsps-rests : (s : Sending) (place : ℕ) (l : Level) → Rests s.router (pull_lsps s place l).router
unfolding pull_lsps
lsps-rests s place l = record { config = refl; drops = refl }

psnp-rests : (s : Sending) (place : ℕ) (l : Level) (c : Circuit) → Rests s.router (pull_psnp s place l c).router
unfolding pull_psnp
psnp-rests s place l c = either (λ u. Rests s.router u.router) (nat_lt 0 (length (owed place (book_of s.router l))) && (at c.levels l).psnp == 0) _ s (record { config = refl; drops = refl }) (rests-refl s.router)

at-rests : (s : Sending) (place : ℕ) (f : Circuit → Sending) → ((c : Circuit) → Rests s.router (f c).router) → Rests s.router (at_circuit s place f).router
at-rests s place f h = of (nth s.router.circuits place)
  where
    of : (o : Option Circuit) → Rests s.router (on_circuit o s f).router
    of None = rests-refl s.router
    of (Some c) = h c

level-rests : (s : Sending) (place : ℕ) (l : Level) → Rests s.router (pull_level s place l).router
unfolding pull_level
level-rests s place l =
    let csnp = at_circuit s place (pull_csnp s place l) in
    let lsps = pull_lsps csnp place l in
    let psnp = at_circuit lsps place (pull_psnp lsps place l) in
    either (λ u. Rests s.router u.router) (has (book_of s.router l).opened place) psnp s
    (rests-trans s.router csnp.router psnp.router (at-rests s place (pull_csnp s place l) (csnp-rests s place l))
    (rests-trans csnp.router lsps.router psnp.router (lsps-rests csnp place l) (at-rests lsps place (pull_psnp lsps place l) (psnp-rests lsps place l))))
    (rests-refl s.router)

pub pull-rests : (r : Router) (place : ℕ) → Rests r (pull r place).router
unfolding pull
pull-rests r place =
    let start : Sending = record { router = r; out = [] } in
    let hello = at_circuit start place (pull_hello start place) in
    let one = pull_level hello place level.One in
    rests-trans r hello.router (pull_level one place level.Two).router (at-rests start place (pull_hello start place) (hello-rests start place))
    (rests-trans hello.router one.router (pull_level one place level.Two).router (level-rests hello place level.One) (level-rests one place level.Two))

-- ---- a datagram

point-rests : (r : Router) (place : ℕ) (c : Circuit) (h : Hello) (o : Option Handshake) → Rests r (greeted r place c h o)
unfolding take_point
point-rests r place c h None = rests-refl r
point-rests r place c h (Some shake) = record { config = refl; drops = refl }

lan-rests : (r : Router) (place : ℕ) (c : Circuit) (l : Level) (h : Hello) → Rests r (take_lan r place c l h)
unfolding take_lan
lan-rests r place c l h = record { config = refl; drops = refl }

taken-rests : (given : Given) (r : Router) (place : ℕ) (c : Circuit) (m : Message) → Rests r (settled (taken given r place c m)).router
taken-rests given r place c (Refused cause) = record { config = refl; drops = refl }
taken-rests given r place c (PointHelloHeard h) = let p = point-rests r place c h h.handshake in record { config = p.config; drops = p.drops }
taken-rests given r place c (LanHelloHeard l h) = let p = lan-rests r place c l h in record { config = p.config; drops = p.drops }
taken-rests given r place c (LspHeard l from h) = record { config = refl; drops = refl }
taken-rests given r place c (SnpHeard l from source range entries) = record { config = refl; drops = refl }

with-length : {A : Type 0} (xs : List A) (i : ℕ) (y : A) → length (with_nth xs i y) ≡ length xs
with-length [] i y = refl
with-length (x ∷ xs) zero y = refl
with-length (x ∷ xs) (suc i) y = ap suc (with-length xs i y)

drop-rests : (given : Given) (r : Router) (place : ℕ) (c : Circuit) (m : Message) (o : Option DropName) → Rests r (take_or_drop given r place c m o).router
drop-rests given r place c m (Some cause) = record { config = refl; drops = with-length r.drops (drop_place cause) (risen (drops_of r.drops cause)) }
drop-rests given r place c m None = taken-rests given r place c m

pub take-rests : (given : Given) (r : Router) (place : ℕ) (m : Message) (o : Option Circuit) → Rests r (take given r place m o).router
take-rests given r place m None = rests-refl r
take-rests given r place m (Some c) = drop-rests given r place c m (drop_of r place c m)

pub metric-rests : (r : Router) (place metric : ℕ) (o : Option Circuit) → Rests r (with_metric r place metric o)
metric-rests r place metric None = rests-refl r
metric-rests r place metric (Some c) = record { config = refl; drops = refl }

-- ---- a step

-- levels stay, prefixes stay few and in order, and there are as many counters
pub record Keeps (r t : Router) : Type 0 where
  pub runs : t.config.runs ≡ r.config.runs
  pub few : length t.config.prefixes ≤ 4096
  pub rises : RisesFrom 0 t.config.prefixes
  pub drops : length t.drops ≡ length r.drops

abbrev pub FitsEvent : Router → Event → Type 0
FitsEvent r Second = Unit {0}
FitsEvent r (Take place m) = Unit {0}
FitsEvent r (Pull place) = Unit {0}
FitsEvent r (Metric place metric) = Unit {0}
FitsEvent r (Overload on) = Unit {0}
FitsEvent r (Prefix prefix metric) = FitsPrefix r prefix metric

rests-keeps : (r t : Router) → length r.config.prefixes ≤ 4096 → RisesFrom 0 r.config.prefixes → Rests r t → Keeps r t
rests-keeps r t few rises s = record {
  runs = ap (λ (c : Config). c.runs) s.config;
  few = subst (λ (c : Config). length c.prefixes ≤ 4096) (sym s.config) few;
  rises = subst (λ (c : Config). RisesFrom 0 c.prefixes) (sym s.config) rises;
  drops = s.drops;
}

erase-few : (m : List (ℕ × ℕ)) (n k : ℕ) → length m ≤ k → length (erase m n) ≤ k
unfolding erase
erase-few [] n k h = h
erase-few (p ∷ m) n k h = of (erase-few m n (length m) (omega arith)) (p.0 == n)
  where
    of : length (erase m n) ≤ length m → (b : Bool) → length (if b then erase m n else p ∷ erase m n) ≤ k
    of rest true = omega (arith, h, rest)
    of rest false = omega (arith, h, rest)

put-few : (m : List (ℕ × ℕ)) (n v : ℕ) → RisesFrom 0 m → length m ≤ 4096 → (find m n ≡ None → length m < 4096) → length (put m n v) ≤ 4096
put-few m n v rises few new = subst (λ (k : ℕ). k ≤ 4096) (sym (length-put m 0 n v rises)) (of (find m n) new)
  where
    of : (o : Option ℕ) → (o ≡ None → length m < 4096) → (if is_some o then length m else length m + 1) ≤ 4096
    of None f = let h = f refl in omega (arith, h)
    of (Some x) f = few

prefix-few : (r : Router) (n : ℕ) (metric : Option ℕ) → FitsPrefix r n metric → length r.config.prefixes ≤ 4096 → RisesFrom 0 r.config.prefixes → length (set_at r.config.prefixes n metric) ≤ 4096
prefix-few r n None fits few rises = erase-few r.config.prefixes n 4096 few
prefix-few r n (Some v) fits few rises = put-few r.config.prefixes n v rises few fits.1

prefix-rises : (r : Router) (n : ℕ) (metric : Option ℕ) → RisesFrom 0 r.config.prefixes → RisesFrom 0 (set_at r.config.prefixes n metric)
prefix-rises r n None rises = erase-up r.config.prefixes n rises
prefix-rises r n (Some v) rises = put-up r.config.prefixes n v rises

pub step-keeps : (given : Given) (r : Router) (event : Event) → FitsEvent r event → length r.config.prefixes ≤ 4096 → RisesFrom 0 r.config.prefixes → Keeps r (step given r event).router
unfolding step
step-keeps given r Second fits few rises = rests-keeps r (step given r Second).router few rises (let p = second-rests given r in record { config = p.config; drops = p.drops })
step-keeps given r (Take place m) fits few rises = rests-keeps r (step given r (Take place m)).router few rises (take-rests given r place m (nth r.circuits place))
step-keeps given r (Pull place) fits few rises = rests-keeps r (step given r (Pull place)).router few rises (let p = pull-rests r place in record { config = p.config; drops = p.drops })
step-keeps given r (Metric place metric) fits few rises = rests-keeps r (step given r (Metric place metric)).router few rises (let p = metric-rests r place metric (nth r.circuits place) in record { config = p.config; drops = p.drops })
step-keeps given r (Overload on) fits few rises = record { runs = refl; few = few; rises = rises; drops = refl }
step-keeps given r (Prefix prefix metric) fits few rises = record { runs = refl; few = prefix-few r prefix metric fits few rises; rises = prefix-rises r prefix metric rises; drops = refl }
