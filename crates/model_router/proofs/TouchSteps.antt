-- Which circuits are open after each part of a step.
use Rattle.std.proofs.Common.{◌≡◌, ℕ, zero, suc, ◌+◌, ◌==◌, false, not, ◌&&◌, List, [], ◌∷◌, map, length, nat_lt, Option, Some, None, if◌then◌else◌, refl, ap}
use Rattle.isis_base.specs.declared.level.Level.{Level}
use Rattle.isis_base.specs.declared.level.Level.TheVariants as level
use Rattle.model_router.specs.declared.drop_name.DropName.{DropName}
use Rattle.model_router.specs.Both.{at, alone}
use Rattle.model_router.specs.Places.{nth}
use Rattle.model_router.specs.Sets.{has}
use Rattle.model_router.specs.Adjacencies.{common_of, Handshake, Hello, is_same, point_open}
use Rattle.model_router.specs.Configs.{Config}
use Rattle.model_router.specs.Routers.{LanNeighbour, some_up, Circuit, CircuitLevel, LevelState, Router, level_of, book_of, with_level, with_circuit, is_open}
use Rattle.model_router.specs.Hellos.{point_circuit, lan_circuit, take_point, take_lan}
use Rattle.model_router.specs.Givens.{Given}
use Rattle.model_router.specs.Wanted.{wanted}
use Rattle.model_router.specs.Takes.{whose_of}
use Rattle.model_router.specs.Seconds.{counted, waited, count_down, circuit_less, hold, hold_one, hold_all, age_level, age_both, renew_level, second}
use Rattle.model_router.specs.Pulls.{csnp_sent, Sending, on_circuit, at_circuit, pull_hello, pull_csnp, pull_lsps, pull_psnp, pull_level, pull, with_part, is_csnp_due}
use Rattle.model_router.specs.SnpLists.{owed}
use Rattle.model_router.specs.Events.{Message, Refused, PointHelloHeard, LanHelloHeard, LspHeard, SnpHeard, Event, Second, Take, Pull, Metric, Overload, Prefix, Outcome, Done, settled}
use Rattle.model_router.specs.Elections.{idle, idle_all}
use Rattle.model_router.specs.Receiving.{greeted, scene_of, taken, take_or_drop, drop_of}
use Rattle.model_router.specs.Steps.{with_metric, with_prefix, sent_all, step}
use Rattle.model_router.specs.Hearings.{Taken, hearing}
use Rattle.model_router.specs.Deeds.{Hearing, Way, Sends, Answers}
use Rattle.model_router.specs.AdjacencyLaws.{FollowsAdjacencies}
use Rattle.model_router.specs.Receiving as receiving
use Rattle.model_router.proofs.BookLemmas.{choose}
use Rattle.model_router.proofs.WayLemmas.{way-opened, way-keeps}
use Rattle.model_router.proofs.LevelWays.{all-mine, issued-own, take_lsp-way, take_snp-way, age-way, renew-way}
use Rattle.model_router.proofs.RouterWays.{waited-way}
use Rattle.model_router.proofs.StepWays.{lsp-heard, entries-heard, lsp-named, entries-named, issued}
use Rattle.model_router.proofs.OwnLemmas.{answer-mine}
use Rattle.model_router.proofs.TouchLemmas.{Alike, alike-refl, alike-cons, alike-set, touch-alike, touch-level, touch-follow}

abbrev quiet : Hearing
quiet = record { rank = λ place id. 0; source = λ id rank content. Unit {0}; sane = ⊥; mine = λ id contents. Unit {0}; names = λ place id. Unit {0}; stirs = λ place. Unit {0} }

touch-way : (heard : Hearing) (r : Router) (l : Level) (s : LevelState) → Way heard (level_of r l) s → FollowsAdjacencies r → FollowsAdjacencies (with_level r l s)
touch-way heard r l s w h = touch-level r l s (way-opened heard (level_of r l) s w) ((way-keeps heard (level_of r l) s w).floods.kinds) h

-- ---- hellos

take_point-touch : (r : Router) (place : ℕ) (c : Circuit) (h : Hello) (s : Handshake) → nth r.circuits place ≡ Some c → FollowsAdjacencies r → FollowsAdjacencies (take_point r place c h s)
unfolding take_point
take_point-touch r place c h s e t = let common = common_of r.config h in touch-follow r (not (is_same c.point.neighbour common h s.extended)) place c (point_circuit c common h s) e refl t

take_lan-touch : (r : Router) (place : ℕ) (c : Circuit) (l : Level) (h : Hello) → nth r.circuits place ≡ Some c → FollowsAdjacencies r → FollowsAdjacencies (take_lan r place c l h)
unfolding take_lan
take_lan-touch r place c l h e t = touch-follow r false place c (lan_circuit c l (alone l (common_of r.config h)) h) e refl t

-- ---- a second

counted-open : (c : Circuit) (l : Level) → is_open (counted c) l ≡ is_open c l
counted-open c level.One = refl
counted-open c level.Two = refl

counted-alike : (cs : List Circuit) → Alike cs (map counted cs)
counted-alike [] = alike-refl []
counted-alike (c ∷ cs) = alike-cons c (counted c) cs (map counted cs) (counted-open c) refl (counted-alike cs)

count_down-touch : (r : Router) → FollowsAdjacencies r → FollowsAdjacencies (count_down r)
unfolding count_down
count_down-touch r t =
    let one = with_level r level.One (waited (level_of r level.One)) in
    let two = with_level one level.Two (waited (level_of one level.Two)) in
    touch-alike two (count_down r) refl (counted-alike r.circuits)
    (touch-way quiet one level.Two _ (waited-way quiet (level_of one level.Two)) (touch-way quiet r level.One _ (waited-way quiet (level_of r level.One)) t))

hold-touch : (r : Router) (place : ℕ) (c : Circuit) → nth r.circuits place ≡ Some c → FollowsAdjacencies r → FollowsAdjacencies (hold r place c)
unfolding hold
hold-touch r place c e t = touch-follow r false place c (circuit_less c) e refl t

hold_one-touch : (r : Router) (place : ℕ) (c : Option Circuit) → nth r.circuits place ≡ c → FollowsAdjacencies r → FollowsAdjacencies (hold_one r place c)
hold_one-touch r place None e t = t
hold_one-touch r place (Some c) e t = hold-touch r place c e t

hold_all-touch : (r : Router) (count : ℕ) → FollowsAdjacencies r → FollowsAdjacencies (hold_all r count)
hold_all-touch r zero t = t
hold_all-touch r (suc place) t = let first = hold_all r place in hold_one-touch first place (nth first.circuits place) refl (hold_all-touch r place t)

age_level-touch : (r : Router) (l : Level) → FollowsAdjacencies r → FollowsAdjacencies (age_level r l)
age_level-touch r l t = touch-way quiet r l _ (age-way quiet (level_of r l)) t

renew_level-touch : (given : Given) (before r : Router) (l : Level) → FollowsAdjacencies r → FollowsAdjacencies (renew_level given before r l)
renew_level-touch given before r l t = touch-way quiet r l _ (renew-way quiet given r l (record { source = λ id number contents mine. tt; good = λ sane. absurd sane }) (level_of r l) (wanted given before r l) (λ sane. absurd sane) (all-mine (wanted given before r l))) t

second-touch : (given : Given) (r : Router) → FollowsAdjacencies r → FollowsAdjacencies (second given r)
unfolding second
second-touch given r t =
    let one = count_down r in
    let two = hold_all one (length one.circuits) in
    let three = age_level two level.One in
    let four = age_both two in
    let five = renew_level given r four level.One in
    renew_level-touch given r five level.Two (renew_level-touch given r four level.One (age_level-touch three level.Two (age_level-touch two level.One (hold_all-touch one (length one.circuits) (count_down-touch r t)))))

-- ---- a pull

part-open : (c : Circuit) (l m : Level) (part : CircuitLevel) → part.heard ≡ (at c.levels l).heard → is_open (with_part c l part) m ≡ is_open c m
part-open c level.One level.One part e = ap (λ (heard : List (ℕ × LanNeighbour)). if c.lan then some_up heard else point_open c.point level.One) e
part-open c level.One level.Two part e = refl
part-open c level.Two level.One part e = refl
part-open c level.Two level.Two part e = ap (λ (heard : List (ℕ × LanNeighbour)). if c.lan then some_up heard else point_open c.point level.Two) e

at_circuit-touch : (s : Sending) (place : ℕ) (f : Circuit → Sending) → ((c : Circuit) → nth s.router.circuits place ≡ Some c → FollowsAdjacencies (f c).router) → FollowsAdjacencies s.router → FollowsAdjacencies (at_circuit s place f).router
at_circuit-touch s place f g t = on-it (nth s.router.circuits place) refl
  where
    on-it : (c : Option Circuit) → nth s.router.circuits place ≡ c → FollowsAdjacencies (on_circuit c s f).router
    on-it None e = t
    on-it (Some c) e = g c e

pull_hello-touch : (s : Sending) (place : ℕ) (c : Circuit) → nth s.router.circuits place ≡ Some c → FollowsAdjacencies s.router → FollowsAdjacencies (pull_hello s place c).router
unfolding pull_hello
pull_hello-touch s place c e t = choose (λ (u : Sending). FollowsAdjacencies u.router) (c.hello == 0) _ s
    (λ _. touch-alike s.router _ refl (alike-set s.router.circuits place c (record c { hello = 10 }) e (λ l. refl) refl) t) (λ _. t)

pull_csnp-touch : (s : Sending) (place : ℕ) (l : Level) (c : Circuit) → nth s.router.circuits place ≡ Some c → FollowsAdjacencies s.router → FollowsAdjacencies (pull_csnp s place l c).router
unfolding pull_csnp
pull_csnp-touch s place l c e t =
    let new = with_part c l (csnp_sent c.lan (at c.levels l)) in
    choose (λ (u : Sending). FollowsAdjacencies u.router) (is_csnp_due s.router.config place c l) _ s
    (λ _. touch-alike s.router (with_circuit s.router place new) refl (alike-set s.router.circuits place c new e (λ m. part-open c l m _ refl) refl) t) (λ _. t)

pull_lsps-touch : (s : Sending) (place : ℕ) (l : Level) → FollowsAdjacencies s.router → FollowsAdjacencies (pull_lsps s place l).router
unfolding pull_lsps
pull_lsps-touch s place l t = touch-way quiet s.router l _ (Sends (level_of s.router l) place) t

pull_psnp-touch : (s : Sending) (place : ℕ) (l : Level) (c : Circuit) → nth s.router.circuits place ≡ Some c → FollowsAdjacencies s.router → FollowsAdjacencies (pull_psnp s place l c).router
unfolding pull_psnp
pull_psnp-touch s place l c e t =
    let new = with_part c l (record (at c.levels l) { psnp = 2 }) in
    let mid = with_circuit s.router place new in
    choose (λ (u : Sending). FollowsAdjacencies u.router) (nat_lt 0 (length (owed place (book_of s.router l))) && (at c.levels l).psnp == 0) _ s
    (λ _. touch-way quiet mid l _ (Answers (level_of mid l) place tt) (touch-alike s.router mid refl (alike-set s.router.circuits place c new e (λ m. part-open c l m _ refl) refl) t)) (λ _. t)

pull_level-touch : (s : Sending) (place : ℕ) (l : Level) → FollowsAdjacencies s.router → FollowsAdjacencies (pull_level s place l).router
unfolding pull_level
pull_level-touch s place l t =
    let csnp = at_circuit s place (pull_csnp s place l) in
    let lsps = pull_lsps csnp place l in
    choose (λ (u : Sending). FollowsAdjacencies u.router) (has (book_of s.router l).opened place) (at_circuit lsps place (pull_psnp lsps place l)) s
    (λ _. let one = at_circuit-touch s place (pull_csnp s place l) (λ c e. pull_csnp-touch s place l c e t) t in
    let two = pull_lsps-touch csnp place l one in
    at_circuit-touch lsps place (pull_psnp lsps place l) (λ c e. pull_psnp-touch lsps place l c e two) two)
    (λ _. t)

pull-touch : (r : Router) (place : ℕ) → FollowsAdjacencies r → FollowsAdjacencies (pull r place).router
unfolding pull
pull-touch r place t =
    let start : Sending = record { router = r; out = [] } in
    pull_level-touch _ place level.Two (pull_level-touch _ place level.One (at_circuit-touch start place (pull_hello start place) (λ c e. pull_hello-touch start place c e t) t))

-- ---- the step

idle-open : (config : Config) (place : ℕ) (c : Circuit) (l : Level) → is_open (idle config place c) l ≡ is_open c l
idle-open config place c level.One = refl
idle-open config place c level.Two = refl

idle-alike : (config : Config) (place : ℕ) (cs : List Circuit) → Alike cs (idle_all config place cs)
idle-alike config place [] = alike-refl []
idle-alike config place (c ∷ cs) = alike-cons c (idle config place c) cs (idle_all config (place + 1) cs) (idle-open config place c) refl (idle-alike config (place + 1) cs)

settled-touch : (o : Outcome) → FollowsAdjacencies o.router → FollowsAdjacencies (settled o).router
settled-touch o t = touch-alike o.router (settled o).router refl (idle-alike o.router.config 0 o.router.circuits) t

greeted-touch : (r : Router) (place : ℕ) (c : Circuit) (h : Hello) (s : Option Handshake) → nth r.circuits place ≡ Some c → FollowsAdjacencies r → FollowsAdjacencies (greeted r place c h s)
greeted-touch r place c h None e t = t
greeted-touch r place c h (Some s) e t = take_point-touch r place c h s e t

taken-touch : (given : Given) (r : Router) (place : ℕ) (c : Circuit) (m : Message) → nth r.circuits place ≡ Some c → FollowsAdjacencies r → FollowsAdjacencies (taken given r place c m).router
taken-touch given r place c (Refused cause) e t = t
taken-touch given r place c (PointHelloHeard h) e t = greeted-touch r place c h h.handshake e t
taken-touch given r place c (LanHelloHeard l h) e t = take_lan-touch r place c l h e t
taken-touch given r place c (LspHeard l snpa h) e t = touch-way _ r l _ (take_lsp-way (hearing given r (Take place (LspHeard l snpa h)) l) (scene_of given r l) (issued given r _ r l refl) (level_of r l) place (whose_of r.config.system (level_of r l) h.id) h (lsp-heard place l snpa h) (lsp-named place l snpa h) (Taken place snpa h refl refl refl refl) (λ sane. sane.1) (λ own. answer-mine given r l h.id (issued-own r.config.system (level_of r l) h.id own))) t
taken-touch given r place c (SnpHeard l snpa source range entries) e t = touch-way _ r l _ (take_snp-way (hearing given r (Take place (SnpHeard l snpa source range entries)) l) (scene_of given r l) (issued given r _ r l refl) (level_of r l) r.config.system place range entries (entries-heard place l snpa source range entries) (entries-named place l snpa source range entries) (λ sane. sane.1) (λ id own. answer-mine given r l id own)) t

take_or_drop-touch : (given : Given) (r : Router) (place : ℕ) (c : Circuit) (m : Message) (drop : Option DropName) → nth r.circuits place ≡ Some c → FollowsAdjacencies r → FollowsAdjacencies (take_or_drop given r place c m drop).router
take_or_drop-touch given r place c m (Some cause) e t = touch-alike r _ refl (alike-refl r.circuits) t
take_or_drop-touch given r place c m None e t = settled-touch (taken given r place c m) (taken-touch given r place c m e t)

take-touch : (given : Given) (r : Router) (place : ℕ) (m : Message) (c : Option Circuit) → nth r.circuits place ≡ c → FollowsAdjacencies r → FollowsAdjacencies (receiving.take given r place m c).router
take-touch given r place m None e t = t
take-touch given r place m (Some c) e t = take_or_drop-touch given r place c m (drop_of r place c m) e t

with_metric-touch : (r : Router) (place metric : ℕ) (c : Option Circuit) → nth r.circuits place ≡ c → FollowsAdjacencies r → FollowsAdjacencies (with_metric r place metric c)
with_metric-touch r place metric None e t = t
with_metric-touch r place metric (Some c) e t = touch-alike r _ refl (alike-set r.circuits place c (record c { metric = metric }) e (λ l. refl) refl) t

pub step-touch : (given : Given) (r : Router) (event : Event) → FollowsAdjacencies r → FollowsAdjacencies (step given r event).router
unfolding step
step-touch given r Second t = settled-touch (record { router = second given r; reply = Done }) (second-touch given r t)
step-touch given r (Take place m) t = take-touch given r place m (nth r.circuits place) refl t
step-touch given r (Pull place) t = settled-touch (sent_all (pull r place)) (pull-touch r place t)
step-touch given r (Metric place metric) t = settled-touch (record { router = with_metric r place metric (nth r.circuits place); reply = Done }) (with_metric-touch r place metric (nth r.circuits place) refl t)
step-touch given r (Overload on) t =
    let new = record r { config = record r.config { overload = on } } in
    settled-touch (record { router = new; reply = Done }) (touch-alike r new refl (alike-refl r.circuits) t)
step-touch given r (Prefix prefix metric) t =
    let new = with_prefix r prefix metric in
    settled-touch (record { router = new; reply = Done }) (touch-alike r new refl (alike-refl r.circuits) t)
