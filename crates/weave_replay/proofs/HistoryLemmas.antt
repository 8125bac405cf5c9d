-- A history of a router that threads share is a journal without a fault.
use Rattle.std.proofs.Common.{◌≡◌, ℕ, zero, suc, ◌+◌, ◌-◌, ◌<◌, ◌≤◌, ◌&&◌, Bool, true, false, List, [], ◌∷◌, ◌++◌, map, length, Option, Some, None, refl, sym, ap, ◌∙◌, subst, arith}
use Rattle.std.specs.Prelude.{nat_le}
use Rattle.std.specs.List.{AllByRecursion}
use Rattle.model_router.specs.Places.{nth}
use Rattle.model_router.specs.Configs.{Config}
use Rattle.model_router.specs.Routers.{Circuit, Router}
use Rattle.model_router.specs.Events as model
use Rattle.model_router.specs.Events.{Event}
use Rattle.model_router.specs.Steps.{step}
use Rattle.model_router.specs.AdjacencyLaws.{place_of}
use Rattle.model_datagram.specs.Reading.{read}
use Rattle.model_network.specs.Runs.{read_on}
use Rattle.router_desk.specs.declared.config.Change.TheVariants as change
use Rattle.router_desk.specs.Desks.{desk_of}
use Rattle.router_desk.specs.Opening.{seen_at, message_of, IsOpenedBy, OpenedView}
use Rattle.router_core.specs.declared.event.NodeEvent.{NodeEvent}
use Rattle.router_core.specs.declared.event.NodeEvent.TheVariants as node
use Rattle.router_core.specs.Events as core
use Rattle.router_core.specs.Events.{IsThere, Fits}
use Rattle.router_core.specs.Givens.{given}
use Rattle.circuit_threads.specs.declared.entry.JournalEntry.{JournalEntry}
use Rattle.circuit_threads.specs.declared.entry.Note.{Note}
use Rattle.circuit_threads.specs.declared.entry.Note.TheVariants.{Nothing, Made, Marked}
use Rattle.circuit_threads.specs.History.{ReplyView, model_view, reply_view, Line, line_of, entries, Replay, opening, line_in, made, unless_stopped, next, replay, IsHistory}
use Rattle.circuit_threads.specs.Shared.{KeepsPrefixes}
use Rattle.circuit_threads.proofs.DeskLemmas.{desk-step, desk-count}
use Rattle.journal_text.specs.Written.{event_read, reply_read, entry_read}
use Rattle.weave_model.specs.Entries as woven
use Rattle.weave_model.specs.Entries.{Entry, Sends, octets_on, answer_by}
use Rattle.weave_model.specs.Faults.{is_there, fits, AreGood}
use Rattle.weave_replay.specs.Entries.{deed_of, answer_of, entry_of}
use Rattle.weave_replay.proofs.EntryLemmas.{same-datagrams}

-- what a desk finds in a datagram says what a router reads of it
abbrev pub Reading : Type 0
Reading = (config : Config) (circuits : List Circuit) (place : ℕ) (c : Circuit) (datagram : List ℕ)
    → nth circuits place ≡ Some c
    → message_of config.system (seen_at (desk_of config circuits) (place + 1) datagram) ≡ read config c datagram

-- ---- the lines of a history are what the machine answers

abbrev event_at : Router → Line → Event
event_at r line = core.event_of r line.event

abbrev behind_line : Router → Line → Router
behind_line r line = (step given r (event_at r line)).router

abbrev IsAnswered : Router → Line → Type 0
IsAnswered r line = line.reply ≡ model_view (behind_line r line) (place_of (event_at r line)) (step given r (event_at r line)).reply

abbrev AreAnswered : Router → List Line → Type 0
AreAnswered r [] = Unit {0}
AreAnswered r (line ∷ lines) = IsAnswered r line × AreAnswered (behind_line r line) lines

abbrev behind : Router → List Line → Router
behind r [] = r
behind r (line ∷ lines) = behind (behind_line r line) lines

behind-more : (r : Router) (lines : List Line) (line : Line) → behind r (lines ++ line ∷ []) ≡ behind_line (behind r lines) line
behind-more r [] line = refl
behind-more r (first ∷ lines) line = behind-more (behind_line r first) lines line

answered-more : (r : Router) (lines : List Line) (line : Line) → AreAnswered r lines → IsAnswered (behind r lines) line → AreAnswered r (lines ++ line ∷ [])
answered-more r [] line all one = (one, tt)
answered-more r (first ∷ lines) line all one = (all.0, answered-more (behind_line r first) lines line all.1 one)

record IsTrue (start : Router) (p : Replay) : Type 0 where
  lines : AreAnswered start p.lines
  router : p.router ≡ behind start p.lines

true-made : (start : Router) (p : Replay) (e : JournalEntry) (stop : Option ℕ) → IsTrue start p → IsTrue start (made p e stop)
true-made start p e stop h =
    let line = line_in p e (step given p.router (core.event_of p.router e.event)) in
    record {
      lines = answered-more start p.lines line h.lines (subst (λ (r : Router). IsAnswered r line) h.router refl);
      router = ap (λ (r : Router). behind_line r line) h.router ∙ sym (behind-more start p.lines line);
    }

true-unless : (start : Router) (stop : Option ℕ) (p after : Replay) → IsTrue start p → IsTrue start after → IsTrue start (unless_stopped stop p after)
true-unless start None p after h k = k
true-unless start (Some entry) p after h k = h

true-next : (start : Router) (p : Replay) (note : Note) → IsTrue start p → IsTrue start (next p note)
true-next start p Nothing h = h
true-next start p (Made e) h = true-unless start p.stop p (made p e None) h (true-made start p e None h)
true-next start p (Marked e) h = true-unless start p.stop p (made p e (Some (length p.lines + 1))) h (true-made start p e (Some (length p.lines + 1)) h)

true-replay : (start : Router) (p : Replay) (notes : List Note) → IsTrue start p → IsTrue start (replay p notes)
true-replay start p [] h = h
true-replay start p (note ∷ notes) h = true-replay start (next p note) notes (true-next start p note h)

history-answered : (start now : Router) (notes : List Note) (stop : Option ℕ) → IsHistory start now notes stop → AreAnswered start (map line_of (entries notes))
history-answered start now notes stop h =
    subst (AreAnswered start) (ap (λ (p : Replay). p.lines) h) (true-replay start (opening start) notes (record { lines = tt; router = refl })).lines

-- ---- an event that fits is the deed that its entry says

both : (a b : Bool) → a ≡ true → b ≡ true → (a && b) ≡ true
both true b e f = f
both false b e f = e

le-true : (a b : ℕ) → a ≤ b → nat_le a b ≡ true
le-true a b h = grind (arith)

there-true : (r : Router) (circuit : ℕ) → IsThere r circuit → is_there r circuit ≡ true
there-true r circuit h = both (nat_le 1 circuit) (nat_le circuit (length r.circuits)) (le-true 1 circuit h.0) (le-true circuit (length r.circuits) h.1)

fits-true : (r : Router) (e : NodeEvent) → Fits r e → KeepsPrefixes e → fits r (deed_of (event_read e)) ≡ true
fits-true r node.Second h k = refl
fits-true r (node.Take opened) h k = there-true r opened.circuit h.0
fits-true r (node.Pull circuit) h k = there-true r circuit h
fits-true r (node.Change (change.Metric circuit metric)) h k = both (is_there r circuit) (nat_le metric 16777215) (there-true r circuit h.0) (le-true metric 16777215 h.1)
fits-true r (node.Change (change.Prefix prefix metric)) h k = absurd k
fits-true r (node.Change (change.Overload on)) h k = refl

none-past : (circuits : List Circuit) (place : ℕ) → nth circuits place ≡ None → place < length circuits → ⊥
none-past [] place e lt = omega (arith, lt)
none-past (c ∷ circuits) zero e lt = absurd (cc e)
none-past (c ∷ circuits) (suc place) e lt = none-past circuits place e (omega (arith, lt))

read-at : Reading → (r : Router) (place : ℕ) (octets : List ℕ) (o : Option Circuit) → nth r.circuits place ≡ o → place < length r.circuits
    → message_of r.config.system (seen_at (desk_of r.config r.circuits) (place + 1) octets) ≡ read_on r o octets
read-at reading r place octets None at lt = absurd (none-past r.circuits place at lt)
read-at reading r place octets (Some c) at lt = reading r.config r.circuits place c octets at

message-read : Reading → (r : Router) (opened : OpenedView) → IsThere r opened.circuit → IsOpenedBy (desk_of r.config r.circuits) opened
    → message_of r.config.system opened.seen ≡ read_on r (nth r.circuits (opened.circuit - 1)) opened.octets
message-read reading r opened there by =
    let number : opened.circuit - 1 + 1 ≡ opened.circuit = omega (arith, there) in
    let said = read-at reading r (opened.circuit - 1) opened.octets (nth r.circuits (opened.circuit - 1)) refl (omega (arith, there)) in
    ap (message_of r.config.system) by
    ∙ subst (λ (n : ℕ). message_of r.config.system (seen_at (desk_of r.config r.circuits) n opened.octets) ≡ read_on r (nth r.circuits (opened.circuit - 1)) opened.octets) number said

event-deed : Reading → (r : Router) (e : NodeEvent) → Fits r e → core.event_of r e ≡ woven.event_of r (deed_of (event_read e))
event-deed reading r node.Second h = refl
event-deed reading r (node.Take opened) h = ap (model.Take (opened.circuit - 1)) (message-read reading r opened h.0 h.1)
event-deed reading r (node.Pull circuit) h = refl
event-deed reading r (node.Change (change.Metric circuit metric)) h = refl
event-deed reading r (node.Change (change.Prefix prefix metric)) h = refl
event-deed reading r (node.Change (change.Overload on)) h = refl

view-answer : (r : Router) (place : ℕ) (m : model.Reply) → answer_by r place m ≡ answer_of (reply_read (model_view r place m))
view-answer r place model.Done = refl
view-answer r place (model.Dropped name) = refl
view-answer r place (model.Send out) = ap Sends (same-datagrams r place (nth r.circuits place) out)

-- ---- what fits at the beginning fits later, while no prefix changes

fits-later : (start r : Router) (e : NodeEvent) → desk_of r.config r.circuits ≡ desk_of start.config start.circuits → Fits start e → KeepsPrefixes e → Fits r e
fits-later start r node.Second same h k = tt
fits-later start r (node.Take opened) same h k =
    let n = desk-count start r same in
    ((h.0.0, omega (arith, n, h.0.1)), subst (λ d. IsOpenedBy d opened) (sym same) h.1)
fits-later start r (node.Pull circuit) same h k = let n = desk-count start r same in (h.0, omega (arith, n, h.1))
fits-later start r (node.Change (change.Metric circuit metric)) same h k = let n = desk-count start r same in ((h.0.0, omega (arith, n, h.0.1)), h.1)
fits-later start r (node.Change (change.Prefix prefix metric)) same h k = absurd k
fits-later start r (node.Change (change.Overload on)) same h k = tt

-- ---- journals

abbrev MayBe : Router → JournalEntry → Type 0
MayBe start e = Fits start e.event × KeepsPrefixes e.event

abbrev read_entry : JournalEntry → Entry
read_entry e = entry_of (entry_read e)

good-entries : Reading → (start r : Router) (es : List JournalEntry) → desk_of r.config r.circuits ≡ desk_of start.config start.circuits
    → AllByRecursion (MayBe start) es → AreAnswered r (map line_of es) → AreGood given r (map read_entry es)
good-entries reading start r [] same may answered = tt
good-entries reading start r (e ∷ es) same may answered =
    let fit = fits-later start r e.event same may.0.0 may.0.1 in
    let event = core.event_of r e.event in
    let deed = deed_of (event_read e.event) in
    let is : event ≡ woven.event_of r deed = event-deed reading r e.event fit in
    let o = step given r event in
    let said : answer_by o.router (place_of event) o.reply ≡ answer_of (reply_read (reply_view e.reply)) =
    view-answer o.router (place_of event) o.reply ∙ ap (λ (v : ReplyView). answer_of (reply_read v)) (sym answered.0) in
    let behind_is : o.router ≡ woven.next given r deed = ap (λ (x : Event). (step given r x).router) is in (
      record {
        fitting = fits-true r e.event fit may.0.1;
        answered = subst (λ (x : Event). answer_by (step given r x).router (place_of x) (step given r x).reply ≡ answer_of (reply_read (reply_view e.reply))) is said;
      },
      subst (λ (t : Router). AreGood given t (map read_entry es)) behind_is
          (good-entries reading start o.router es (desk-step given r event ∙ same) may.1 answered.1),
    )

pub history-good : Reading → (start now : Router) (notes : List Note) (stop : Option ℕ) → IsHistory start now notes stop
    → AllByRecursion (MayBe start) (entries notes) → AreGood given start (map read_entry (entries notes))
history-good reading start now notes stop h may = good-entries reading start start (entries notes) refl may (history-answered start now notes stop h)
