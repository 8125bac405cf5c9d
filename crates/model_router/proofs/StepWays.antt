-- A step, as courses of both levels.
use Rattle.std.proofs.Common.{◌≡◌, ℕ, Bool, ◌||◌, ◌&&◌, inl, inr, ◌/◌, ◌^◌, ◌<◌, ◌≤◌, ◌==◌, true, false, length, List, [], ◌∷◌, Option, Some, None, refl, arith, le_refl}
use Rattle.std.proofs.lemmas.Bool.Decides.{nat_tests}
use Rattle.std.specs.List.{AllByRecursion}
use Rattle.isis_base.specs.declared.level.Level.{Level}
use Rattle.isis_base.specs.declared.level.Level.TheVariants as level
use Rattle.model_router.specs.declared.drop_name.DropName.{DropName}
use Rattle.model_router.specs.Both.{is_level}
use Rattle.model_router.specs.Places.{nth}
use Rattle.model_router.specs.Cells.{Heard}
use Rattle.model_router.specs.SnpTable.{SnpEntry, lists}
use Rattle.model_router.specs.Adjacencies.{Handshake, Hello}
use Rattle.model_router.specs.Routers.{Circuit, Contents, Router, level_of}
use Rattle.model_router.specs.Givens.{Given}
use Rattle.model_router.specs.Wanted.{wanted}
use Rattle.model_router.proofs.ListLemmas.{all-map}
use Rattle.model_router.proofs.OwnLemmas.{wanted-mine, answer-mine}
use Rattle.model_router.specs.Takes.{whose_of}
use Rattle.model_router.specs.Seconds.{second}
use Rattle.model_router.specs.Pulls.{pull}
use Rattle.model_router.specs.Events.{Envelope, Message, Refused, PointHelloHeard, LanHelloHeard, LspHeard, SnpHeard, Event, Second, Take, Pull, Metric, Overload, Prefix, Outcome, settled, Done}
use Rattle.model_router.specs.Receiving.{greeted, scene_of, taken, take_or_drop, take, drop_of}
use Rattle.model_router.specs.Steps.{with_metric, with_prefix, sent_all, step}
use Rattle.model_router.specs.Hearings.{greatest, says, heard_in, named_in, Taken, Made, IsOwnLsp, hearing}
use Rattle.model_router.specs.Deeds.{Hearing, Issues, Goes, Courses}
use Rattle.model_router.proofs.LevelWays.{take_lsp-way, take_snp-way, issued-own}
use Rattle.model_router.proofs.RouterWays.{Wants, both-refl, both-trans, on-level, aside, take_point-course, take_lan-course, second-course}
use Rattle.model_router.proofs.PullWays.{pull-course}

is-level-same : (l : Level) → is_level l l ≡ true
is-level-same level.One = refl
is-level-same level.Two = refl

self : (n : ℕ) → (n == n) ≡ true
self n = grind (arith, nat_tests)

-- each entry is at most the greatest of its LSP ID
all-within : (bound : ℕ → ℕ) (entries : List SnpEntry) → ((id : ℕ) → greatest entries id ≤ bound id) → AllByRecursion (λ (h : SnpEntry). h.rank ≤ bound h.id) entries
all-within bound [] h = tt
all-within bound (e ∷ entries) h = (let k = h e.id in let s = self e.id in grind (arith, nat_tests, k, s), all-within bound entries (λ id. let k = h id in omega (arith, k)))

settled-course : (heard : Level → Hearing) (r : Router) (o : Outcome) → Courses heard r o.router → Courses heard r (settled o).router
settled-course heard r o k = both-trans heard r o.router _ k (aside heard o.router _ refl)

greeted-course : (heard : Level → Hearing) (r : Router) (place : ℕ) (c : Circuit) (h : Hello) (s : Option Handshake) → ((l : Level) → (heard l).stirs place) → Courses heard r (greeted r place c h s)
greeted-course heard r place c h None stirs = both-refl heard r
greeted-course heard r place c h (Some s) stirs = take_point-course heard r place c h s stirs

-- what is heard on the circuit of an event is what its message says
heard-here : (place : ℕ) (m : Message) (l : Level) (id : ℕ) → heard_in (Take place m) l place id ≡ says m l id
heard-here place m l id = rw (self place) refl

pub lsp-heard : (place : ℕ) (l : Level) (from : Envelope) (h : Heard) → h.rank ≤ heard_in (Take place (LspHeard l from h)) l place h.id
lsp-heard place l from h = rw (self place, is-level-same l, self h.id) (le_refl h.rank)

pub entries-heard : (place : ℕ) (l : Level) (from : Envelope) (source : ℕ) (range : Option (ℕ × ℕ)) (entries : List SnpEntry) → AllByRecursion (λ (h : SnpEntry). h.rank ≤ heard_in (Take place (SnpHeard l from source range entries)) l place h.id) entries
entries-heard place l from source range entries = all-within (λ (id : ℕ). heard_in (Take place (SnpHeard l from source range entries)) l place id) entries (λ id. rw (self place, is-level-same l) (le_refl (greatest entries id)))

pub lsp-named : (place : ℕ) (l : Level) (from : Envelope) (h : Heard) → named_in (Take place (LspHeard l from h)) l place h.id ≡ true
lsp-named place l from h = rw (self place, is-level-same l, self h.id) refl

-- each entry is listed
all-listed : (P : ℕ → Type 0) (entries : List SnpEntry) → ((id : ℕ) → lists entries id ≡ true → P id) → AllByRecursion (λ (h : SnpEntry). P h.id) entries
all-listed P [] f = tt
all-listed P (e ∷ entries) f = (f e.id (first e.id), all-listed P entries (λ id k. f id (later id k)))
  where
    first : (id : ℕ) → (id == id || lists entries id) ≡ true
    first id = rw (self id) refl

    later : (id : ℕ) → lists entries id ≡ true → (e.id == id || lists entries id) ≡ true
    later id k = rw k (or-true (e.id == id))
      where
        or-true : (t : Bool) → (t || true) ≡ true
        or-true true = refl
        or-true false = refl

pub entries-named : (place : ℕ) (l : Level) (from : Envelope) (source : ℕ) (range : Option (ℕ × ℕ)) (entries : List SnpEntry) → AllByRecursion (λ (h : SnpEntry). named_in (Take place (SnpHeard l from source range entries)) l place h.id ≡ true) entries
entries-named place l from source range entries = all-listed (λ (id : ℕ). named_in (Take place (SnpHeard l from source range entries)) l place id ≡ true) entries (λ id k. rw (self place, is-level-same l, k) refl)

-- what is issued is made by the given
pub issued : (given : Given) (old : Router) (event : Event) (r : Router) (l : Level) → r.config ≡ old.config → Issues (hearing given old event l) given r l
issued given old event r l config = record { source = λ id number contents mine. Made r number contents config mine refl refl; good = λ sane. sane.0 }

short-own : (id system : ℕ) → system < 2 ^ 48 → id / 65536 ≡ system → id < 2 ^ 64
short-own id system short own = omega (arith, short, own)

-- what is wanted is one's own
wants-mine : (given : Given) (r : Router) (event : Event) (now : Router) (l : Level) → now.config ≡ r.config → length now.circuits ≡ length r.circuits → Wants (hearing given r event l) (wanted given r now l)
wants-mine given r event now l config circuits = record {
  fits = λ sane. all-map (λ (w : ℕ × Contents). IsOwnLsp r l w.0 w.1) (λ (w : ℕ × Contents). w.0 < 2 ^ 64) (wanted given r now l) (λ w own. short-own w.0 r.config.system sane.2.system (own.own sane.2)) (wanted-mine given r now l config circuits);
  mine = wanted-mine given r now l config circuits;
}

here : (place : ℕ) → (place == place && true) ≡ true
here place = rw (self place) refl

taken-course : (given : Given) (r : Router) (place : ℕ) (c : Circuit) (m : Message) → Courses (hearing given r (Take place m)) r (taken given r place c m).router
taken-course given r place c (Refused cause) = both-refl _ r
taken-course given r place c (PointHelloHeard h) = greeted-course _ r place c h h.handshake (λ l. inr (here place))
taken-course given r place c (LanHelloHeard l h) = take_lan-course _ r place c l h (λ m. inr (here place))
taken-course given r place c (LspHeard l from h) =
    let heard = hearing given r (Take place (LspHeard l from h)) in
    on-level heard r l _ (Goes _ _ (take_lsp-way (heard l) (scene_of given r l) (issued given r _ r l refl) (level_of r l) place (whose_of r.config.system (level_of r l) h.id) h (lsp-heard place l from h) (lsp-named place l from h) (Taken place from h refl refl refl refl) (λ sane. sane.1) (λ own. answer-mine given r l h.id (issued-own r.config.system (level_of r l) h.id own))))
taken-course given r place c (SnpHeard l from source range entries) =
    let heard = hearing given r (Take place (SnpHeard l from source range entries)) in
    on-level heard r l _ (Goes _ _ (take_snp-way (heard l) (scene_of given r l) (issued given r _ r l refl) (level_of r l) r.config.system place range entries (entries-heard place l from source range entries) (entries-named place l from source range entries) (λ sane. sane.1) (λ id own. answer-mine given r l id own)))

take_or_drop-course : (given : Given) (r : Router) (place : ℕ) (c : Circuit) (m : Message) (drop : Option DropName) → Courses (hearing given r (Take place m)) r (take_or_drop given r place c m drop).router
take_or_drop-course given r place c m (Some cause) = aside _ r _ refl
take_or_drop-course given r place c m None = settled-course _ r (taken given r place c m) (taken-course given r place c m)

take-course : (given : Given) (r : Router) (place : ℕ) (m : Message) (c : Option Circuit) → Courses (hearing given r (Take place m)) r (take given r place m c).router
take-course given r place m None = both-refl _ r
take-course given r place m (Some c) = take_or_drop-course given r place c m (drop_of r place c m)

with_metric-course : (heard : Level → Hearing) (r : Router) (place metric : ℕ) (c : Option Circuit) → Courses heard r (with_metric r place metric c)
with_metric-course heard r place metric None = both-refl heard r
with_metric-course heard r place metric (Some c) = aside heard r _ refl

pub step-course : (given : Given) (r : Router) (event : Event) → Courses (hearing given r event) r (step given r event).router
unfolding step
step-course given r Second = settled-course _ r (record { router = second given r; reply = Done }) (second-course _ given (λ l place. inl refl) r (λ now l config. issued given r Second now l config) (wants-mine given r Second))
step-course given r (Take place m) = take-course given r place m (nth r.circuits place)
step-course given r (Pull place) = settled-course _ r (sent_all (pull r place)) (pull-course _ r place (λ l. inr (self place)))
step-course given r (Metric place metric) = settled-course _ r (record { router = with_metric r place metric (nth r.circuits place); reply = Done }) (with_metric-course _ r place metric (nth r.circuits place))
step-course given r (Overload on) =
    let new = record r { config = record r.config { overload = on } } in
    settled-course _ r (record { router = new; reply = Done }) (aside _ r new refl)
step-course given r (Prefix prefix metric) =
    let new = with_prefix r prefix metric in
    settled-course _ r (record { router = new; reply = Done }) (aside _ r new refl)
