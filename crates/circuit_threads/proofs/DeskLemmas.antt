-- A step leaves what a desk knows of a router.
use Rattle.std.proofs.Common.{◌≡◌, ℕ, zero, suc, ◌+◌, Bool, true, false, List, [], ◌∷◌, map, length, Option, Some, None, if◌then◌else◌, refl, ap, sym, ◌∙◌}
use Rattle.std.proofs.lemmas.List.{length-map}
use Rattle.isis_base.specs.declared.level.Level.{Level}
use Rattle.isis_base.specs.declared.level.Level.TheVariants as level
use Rattle.model_router.specs.declared.drop_name.DropName.{DropName}
use Rattle.model_router.specs.Places.{nth, with_nth}
use Rattle.model_router.specs.Configs.{Config}
use Rattle.model_router.specs.Adjacencies.{Handshake, Hello}
use Rattle.model_router.specs.Routers.{Circuit, Router, with_circuit}
use Rattle.model_router.specs.Hellos.{take_point, take_lan}
use Rattle.model_router.specs.Givens.{Given}
use Rattle.model_router.specs.Seconds.{counted, count_down, hold, hold_one, hold_all, second}
use Rattle.model_router.specs.Pulls.{Sending, on_circuit, at_circuit, pull_hello, pull_csnp, pull_lsps, pull_psnp, pull_level, pull}
use Rattle.model_router.specs.Events.{Done, Message, Refused, PointHelloHeard, LanHelloHeard, LspHeard, SnpHeard, Event, Second, Take, Pull, Metric, Overload, Prefix, Outcome, settled}
use Rattle.model_router.specs.Elections.{idle_all}
use Rattle.model_router.specs.Receiving.{greeted, taken, take_or_drop, drop_of}
use Rattle.model_router.specs.Receiving as receiving
use Rattle.model_router.specs.Steps.{with_metric, with_prefix, sent_all, step}
use Rattle.router_desk.specs.declared.desk_circuit.DeskCircuit.{DeskCircuit}
use Rattle.router_desk.specs.Desks.{DeskView, desk_circuit, desk_of}

-- ---- lists of circuits

abbrev circuits_alike : List Circuit → List Circuit → Type 0
circuits_alike cs ds = map desk_circuit ds ≡ map desk_circuit cs

replaced : (cs : List Circuit) (place : ℕ) (c d : Circuit) → nth cs place ≡ Some c → desk_circuit d ≡ desk_circuit c → circuits_alike cs (with_nth cs place d)
replaced [] place c d at same = refl
replaced (x ∷ cs) zero c d at same = ap (λ (k : DeskCircuit). k ∷ map desk_circuit cs) (same ∙ ap desk_circuit (some-same at))
  where
    some-same : Some x ≡ Some c → c ≡ x
    some-same e = cc e
replaced (x ∷ cs) (suc place) c d at same = ap (λ (ks : List DeskCircuit). desk_circuit x ∷ ks) (replaced cs place c d at same)

counted-alike : (cs : List Circuit) → circuits_alike cs (map counted cs)
counted-alike [] = refl
counted-alike (c ∷ cs) = ap (λ (ks : List DeskCircuit). desk_circuit c ∷ ks) (counted-alike cs)

idle-alike : (config : Config) (place : ℕ) (cs : List Circuit) → circuits_alike cs (idle_all config place cs)
idle-alike config place [] = refl
idle-alike config place (c ∷ cs) = ap (λ (ks : List DeskCircuit). desk_circuit c ∷ ks) (idle-alike config (place + 1) cs)

-- ---- routers

record Keeps (r t : Router) : Type 0 where
  system : t.config.system ≡ r.config.system
  runs : t.config.runs ≡ r.config.runs
  keys : t.config.keys ≡ r.config.keys
  circuits : circuits_alike r.circuits t.circuits

keeps-refl : (r : Router) → Keeps r r
keeps-refl r = record { system = refl; runs = refl; keys = refl; circuits = refl }

keeps-trans : (r s t : Router) → Keeps r s → Keeps s t → Keeps r t
keeps-trans r s t f g = record {
  system = g.system ∙ f.system;
  runs = g.runs ∙ f.runs;
  keys = g.keys ∙ f.keys;
  circuits = g.circuits ∙ f.circuits;
}

keeps-circuit : (r : Router) (place : ℕ) (c d : Circuit) → nth r.circuits place ≡ Some c → desk_circuit d ≡ desk_circuit c → Keeps r (with_circuit r place d)
keeps-circuit r place c d at same = record { system = refl; runs = refl; keys = refl; circuits = replaced r.circuits place c d at same }

keeps-settled : (o : Outcome) → Keeps o.router (settled o).router
keeps-settled o = record { system = refl; runs = refl; keys = refl; circuits = idle-alike o.router.config 0 o.router.circuits }

-- the same but for levels, drops, the boot or other parts of the configuration
keeps-rest : (r t : Router) → t.config.system ≡ r.config.system → t.config.runs ≡ r.config.runs → t.config.keys ≡ r.config.keys → t.circuits ≡ r.circuits → Keeps r t
keeps-rest r t a b c d = record { system = a; runs = b; keys = c; circuits = ap (map desk_circuit) d }

-- ---- a second

keeps-count : (r : Router) → Keeps r (count_down r)
unfolding count_down
keeps-count r = record { system = refl; runs = refl; keys = refl; circuits = counted-alike r.circuits }

keeps-hold : (r : Router) (place : ℕ) (c : Option Circuit) → nth r.circuits place ≡ c → Keeps r (hold_one r place c)
unfolding hold
keeps-hold r place None at = keeps-refl r
keeps-hold r place (Some c) at = record { system = refl; runs = refl; keys = refl; circuits = replaced r.circuits place c _ at refl }

keeps-hold_all : (r : Router) (n : ℕ) → Keeps r (hold_all r n)
keeps-hold_all r zero = keeps-refl r
keeps-hold_all r (suc n) = let first = hold_all r n in keeps-trans r first _ (keeps-hold_all r n) (keeps-hold first n (nth first.circuits n) refl)

keeps-second : (given : Given) (r : Router) → Keeps r (second given r)
unfolding second
keeps-second given r =
    let one = count_down r in let held = hold_all one (length one.circuits) in
    let k = keeps-trans r one held (keeps-count r) (keeps-hold_all one (length one.circuits)) in
    record { system = k.system; runs = k.runs; keys = k.keys; circuits = k.circuits }

-- ---- a pull

keeps-pick : (r : Router) (b : Bool) (s t : Sending) → Keeps r s.router → Keeps r t.router → Keeps r (if b then s else t).router
keeps-pick r true s t f g = f
keeps-pick r false s t f g = g

keeps-on : (r : Router) (s : Sending) (f : Circuit → Sending) (c : Option Circuit) → Keeps r s.router → ((d : Circuit) → c ≡ Some d → Keeps r (f d).router) → Keeps r (on_circuit c s f).router
keeps-on r s f None k g = k
keeps-on r s f (Some d) k g = g d refl

keeps-hello : (s : Sending) (place : ℕ) (c : Circuit) → nth s.router.circuits place ≡ Some c → Keeps s.router (pull_hello s place c).router
unfolding pull_hello
keeps-hello s place c at = keeps-pick s.router _ _ _ (keeps-circuit s.router place c _ at refl) (keeps-refl s.router)

keeps-csnp : (s : Sending) (place : ℕ) (l : Level) (c : Circuit) → nth s.router.circuits place ≡ Some c → Keeps s.router (pull_csnp s place l c).router
unfolding pull_csnp
keeps-csnp s place l c at = keeps-pick s.router _ _ _ (keeps-circuit s.router place c _ at refl) (keeps-refl s.router)

keeps-lsps : (s : Sending) (place : ℕ) (l : Level) → Keeps s.router (pull_lsps s place l).router
unfolding pull_lsps
keeps-lsps s place l = record { system = refl; runs = refl; keys = refl; circuits = refl }

keeps-psnp : (s : Sending) (place : ℕ) (l : Level) (c : Circuit) → nth s.router.circuits place ≡ Some c → Keeps s.router (pull_psnp s place l c).router
unfolding pull_psnp
keeps-psnp s place l c at = keeps-pick s.router _ _ _ (record { system = refl; runs = refl; keys = refl; circuits = replaced s.router.circuits place c _ at refl }) (keeps-refl s.router)

keeps-level : (s : Sending) (place : ℕ) (l : Level) → Keeps s.router (pull_level s place l).router
unfolding pull_level
keeps-level s place l =
    let csnp = at_circuit s place (pull_csnp s place l) in
    let lsps = pull_lsps csnp place l in
    let last = at_circuit lsps place (pull_psnp lsps place l) in
    keeps-pick s.router _ last s
    (keeps-trans s.router csnp.router last.router
    (keeps-on s.router s (pull_csnp s place l) (nth s.router.circuits place) (keeps-refl s.router) (λ d e. keeps-csnp s place l d e))
    (keeps-trans csnp.router lsps.router last.router (keeps-lsps csnp place l)
    (keeps-on lsps.router lsps (pull_psnp lsps place l) (nth lsps.router.circuits place) (keeps-refl lsps.router) (λ d e. keeps-psnp lsps place l d e))))
    (keeps-refl s.router)

keeps-pull : (r : Router) (place : ℕ) → Keeps r (pull r place).router
unfolding pull
keeps-pull r place =
    let start : Sending = record { router = r; out = [] } in
    let hello = at_circuit start place (pull_hello start place) in
    let one = pull_level hello place level.One in
    keeps-trans r one.router _
    (keeps-trans r hello.router one.router
    (keeps-on r start (pull_hello start place) (nth r.circuits place) (keeps-refl r) (λ d e. keeps-hello start place d e))
    (keeps-level hello place level.One))
    (keeps-level one place level.Two)

-- ---- a datagram

keeps-greeted : (r : Router) (place : ℕ) (c : Circuit) (h : Hello) (s : Option Handshake) → nth r.circuits place ≡ Some c → Keeps r (greeted r place c h s)
unfolding take_point
keeps-greeted r place c h None at = keeps-refl r
keeps-greeted r place c h (Some s) at = record { system = refl; runs = refl; keys = refl; circuits = replaced r.circuits place c _ at refl }

keeps-taken : (given : Given) (r : Router) (place : ℕ) (c : Circuit) (m : Message) → nth r.circuits place ≡ Some c → Keeps r (taken given r place c m).router
unfolding take_lan
keeps-taken given r place c (Refused cause) at = keeps-refl r
keeps-taken given r place c (PointHelloHeard h) at = keeps-greeted r place c h h.handshake at
keeps-taken given r place c (LanHelloHeard l h) at = record { system = refl; runs = refl; keys = refl; circuits = replaced r.circuits place c _ at refl }
keeps-taken given r place c (LspHeard l from h) at = record { system = refl; runs = refl; keys = refl; circuits = refl }
keeps-taken given r place c (SnpHeard l from source range entries) at = record { system = refl; runs = refl; keys = refl; circuits = refl }

keeps-either : (given : Given) (r : Router) (place : ℕ) (c : Circuit) (m : Message) (drop : Option DropName) → nth r.circuits place ≡ Some c → Keeps r (take_or_drop given r place c m drop).router
keeps-either given r place c m (Some cause) at = record { system = refl; runs = refl; keys = refl; circuits = refl }
keeps-either given r place c m None at = let o = taken given r place c m in keeps-trans r o.router _ (keeps-taken given r place c m at) (keeps-settled o)

keeps-take : (given : Given) (r : Router) (place : ℕ) (m : Message) (c : Option Circuit) → nth r.circuits place ≡ c → Keeps r (receiving.take given r place m c).router
keeps-take given r place m None at = keeps-refl r
keeps-take given r place m (Some c) at = keeps-either given r place c m (drop_of r place c m) at

-- ---- a step

keeps-metric : (r : Router) (place metric : ℕ) (c : Option Circuit) → nth r.circuits place ≡ c → Keeps r (with_metric r place metric c)
keeps-metric r place metric None at = keeps-refl r
keeps-metric r place metric (Some c) at = keeps-circuit r place c (record c { metric = metric }) at refl

keeps-step : (given : Given) (r : Router) (event : Event) → Keeps r (step given r event).router
unfolding step
keeps-step given r Second = let o : Outcome = record { router = second given r; reply = Done } in keeps-trans r o.router _ (keeps-second given r) (keeps-settled o)
keeps-step given r (Take place m) = keeps-take given r place m (nth r.circuits place) refl
keeps-step given r (Pull place) = let o = sent_all (pull r place) in keeps-trans r o.router _ (keeps-pull r place) (keeps-settled o)
keeps-step given r (Metric place metric) =
    let o : Outcome = record { router = with_metric r place metric (nth r.circuits place); reply = Done } in
    keeps-trans r o.router _ (keeps-metric r place metric (nth r.circuits place) refl) (keeps-settled o)
keeps-step given r (Overload on) =
    let o : Outcome = record { router = record r { config = record r.config { overload = on } }; reply = Done } in
    keeps-trans r o.router _ (record { system = refl; runs = refl; keys = refl; circuits = refl }) (keeps-settled o)
keeps-step given r (Prefix prefix metric) =
    let o : Outcome = record { router = with_prefix r prefix metric; reply = Done } in
    keeps-trans r o.router _ (record { system = refl; runs = refl; keys = refl; circuits = refl }) (keeps-settled o)

pub desk-step : (given : Given) (r : Router) (event : Event) → desk_of (step given r event).router.config (step given r event).router.circuits ≡ desk_of r.config r.circuits
desk-step given r event = let k = keeps-step given r event in
    λ i. record { system = k.system i; runs = k.runs i; keys = k.keys i; circuits = k.circuits i }

-- routers of one desk have equally many circuits
pub desk-count : (r t : Router) → desk_of t.config t.circuits ≡ desk_of r.config r.circuits → length t.circuits ≡ length r.circuits
desk-count r t e = sym (length-map t.circuits desk_circuit) ∙ (ap (λ (d : DeskView). length d.circuits) e ∙ length-map r.circuits desk_circuit)
