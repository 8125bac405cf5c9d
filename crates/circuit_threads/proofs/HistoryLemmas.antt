-- A history with one turn more.
use Rattle.std.proofs.Common.{◌≡◌, ℕ, ◌+◌, ◌≤◌, List, [], ◌∷◌, ◌++◌, map, length, Option, Some, None, Ok, Err, refl, ap, sym, ◌∙◌, subst, arith, append-nil, length-append}
use Rattle.std.specs.Option.{option_map}
use Rattle.std.proofs.lemmas.List.{length-map, map-append}
use Rattle.model_router.specs.Routers.{Router}
use Rattle.model_router.specs.Events as model
use Rattle.model_router.specs.Events.{Outcome}
use Rattle.model_router.specs.AdjacencyLaws.{place_of}
use Rattle.model_router.specs.Steps.{step}
use Rattle.isis_edge.specs.Faults.{Rose}
use Rattle.router_desk.specs.declared.config.Change.TheVariants as change
use Rattle.router_desk.specs.Desks.{DeskView, desk_of}
use Rattle.router_desk.specs.Opening.{IsOpenedBy}
use Rattle.router_core.specs.declared.event.NodeEvent.{NodeEvent}
use Rattle.router_core.specs.declared.event.NodeEvent.TheVariants as event
use Rattle.router_core.specs.declared.reply.Reply.{Reply}
use Rattle.router_core.specs.Events.{event_of, IsThere, Fits}
use Rattle.router_core.specs.Givens.{given}
use Rattle.router_core.specs.Replies.{Answers}
use Rattle.circuit_threads.specs.declared.entry.JournalEntry.{JournalEntry}
use Rattle.circuit_threads.specs.declared.entry.Note.{Note}
use Rattle.circuit_threads.specs.declared.entry.Note.TheVariants.{Nothing, Made, Marked}
use Rattle.circuit_threads.specs.declared.journal.AppendFailed.{AppendFailed}
use Rattle.circuit_threads.specs.History.{Dropped, reply_view, model_view, Line, line_of, entries, appended, marked, Replay, opening, line_in, next, replay, reached, IsHistory}
use Rattle.circuit_threads.specs.Shared.{KeepsPrefixes}
use Rattle.circuit_threads.specs.Told.{told_after, told_of}
use Rattle.circuit_threads.proofs.DeskLemmas.{desk-count}

-- ---- lists of notes

pub replay-more : (p : Replay) (ns : List Note) (n : Note) → replay p (ns ++ n ∷ []) ≡ next (replay p ns) n
replay-more p [] n = refl
replay-more p (m ∷ ns) n = replay-more (next p m) ns n

pub entries-more : (ns : List Note) (n : Note) → entries (ns ++ n ∷ []) ≡ entries ns ++ entries (n ∷ [])
entries-more [] n = refl
entries-more (Nothing ∷ ns) n = entries-more ns n
entries-more (Made e ∷ ns) n = ap (λ (es : List JournalEntry). e ∷ es) (entries-more ns n)
entries-more (Marked e ∷ ns) n = ap (λ (es : List JournalEntry). e ∷ es) (entries-more ns n)

appended-more : (ns : List Note) (n : Note) → appended (ns ++ n ∷ []) ≡ appended ns ++ appended (n ∷ [])
appended-more [] n = refl
appended-more (Nothing ∷ ns) n = appended-more ns n
appended-more (Made e ∷ ns) n = ap (λ (es : List JournalEntry). e ∷ es) (appended-more ns n)
appended-more (Marked e ∷ ns) n = appended-more ns n

marked-same : (ns : List Note) → marked (ns ++ Nothing ∷ []) ≡ marked ns
marked-same [] = refl
marked-same (Nothing ∷ ns) = marked-same ns
marked-same (Made e ∷ ns) = marked-same ns
marked-same (Marked e ∷ ns) = refl

marked-more : (ns : List Note) (n : Note) → marked ns ≡ None → marked (ns ++ n ∷ []) ≡ marked (n ∷ [])
marked-more [] n none = refl
marked-more (Nothing ∷ ns) n none = marked-more ns n none
marked-more (Made e ∷ ns) n none = marked-more ns n none
marked-more (Marked e ∷ ns) n none = absurd (cc none)

-- there are no more entries than turns
pub entries-few : (ns : List Note) → length (entries ns) ≤ length ns
entries-few [] = omega arith
entries-few (Nothing ∷ ns) = omega (arith, entries-few ns)
entries-few (Made e ∷ ns) = omega (arith, entries-few ns)
entries-few (Marked e ∷ ns) = omega (arith, entries-few ns)

pub none-marked : (ns : List Note) → option_map (λ (e : JournalEntry). e.number) (marked ns) ≡ None → marked ns ≡ None
none-marked ns e = nothing (marked ns) e
  where
    nothing : (m : Option JournalEntry) → option_map (λ (e : JournalEntry). e.number) m ≡ None → m ≡ None
    nothing None e = refl
    nothing (Some x) e = absurd (cc e)

-- ---- a turn that leaves nothing

module _ (ns ns' : List Note) (more : ns' ≡ ns ++ Nothing ∷ []) where
  pub nothing-entries : entries ns' ≡ entries ns
  nothing-entries = ap entries more ∙ (entries-more ns Nothing ∙ append-nil (entries ns))

  pub nothing-marked : marked ns' ≡ marked ns
  nothing-marked = ap marked more ∙ marked-same ns

  pub nothing-told : told_of ns' ≡ told_of ns
  nothing-told = let one : appended ns' ≡ appended ns = ap appended more ∙ (appended-more ns Nothing ∙ append-nil (appended ns)) in
      λ i. record { entries = one i; torn = nothing-marked i }

  pub nothing-history : (start now : Router) (stop : Option ℕ) → IsHistory start now ns stop → IsHistory start now ns' stop
  nothing-history start now stop was =
      ap (replay (opening start)) more ∙ (replay-more (opening start) ns Nothing ∙ (was ∙ ap (λ (es : List JournalEntry). record { router = now; lines = map line_of es; stop = stop }) (sym nothing-entries)))

-- ---- a turn that makes an entry

view-of : (r : Router) (place : ℕ) (m : model.Reply) (answer : Reply) → Answers r place m answer → reply_view answer ≡ model_view r place m
view-of r place model.Done answer e = ap reply_view e
view-of r place (model.Dropped name) answer (cause, e, named) = ap reply_view e ∙ ap Dropped named
view-of r place (model.Send out) answer e = ap reply_view e

module _ (start r t : Router) (ns ns' : List Note) (e : JournalEntry) (was : IsHistory start r ns None)
    (number : e.number ≡ length (entries ns) + 1)
    (state : t ≡ (step given r (event_of r e.event)).router)
    (answers : Answers t (place_of (event_of r e.event)) (step given r (event_of r e.event)).reply e.reply) where
  abbrev outcome : Outcome
  outcome = step given r (event_of r e.event)

  abbrev place : ℕ
  place = place_of (event_of r e.event)

  abbrev before : Replay
  before = reached r ns None

  same-reply : reply_view e.reply ≡ model_view outcome.router place outcome.reply
  same-reply = view-of t place outcome.reply e.reply answers ∙ ap (λ (q : Router). model_view q place outcome.reply) state

  same-number : e.number ≡ length before.lines + 1
  same-number = number ∙ ap (λ n. n + 1) (sym (length-map (entries ns) line_of))

  same-line : line_in before e outcome ≡ line_of e
  same-line = λ i. record { number = sym same-number i; pass = e.pass; event = e.event; reply = sym same-reply i }

  lines-more : (n : Note) → entries (n ∷ []) ≡ e ∷ [] → ns' ≡ ns ++ n ∷ [] → before.lines ++ line_in before e outcome ∷ [] ≡ map line_of (entries ns')
  lines-more n one more =
      ap (λ (l : Line). before.lines ++ l ∷ []) same-line
      ∙ (sym (map-append line_of (entries ns) (e ∷ []))
      ∙ ap (map line_of) (ap (λ (es : List JournalEntry). entries ns ++ es) (sym one) ∙ (sym (entries-more ns n) ∙ ap entries (sym more))))

  pub made-history : ns' ≡ ns ++ Made e ∷ [] → IsHistory start t ns' None
  made-history more =
      ap (replay (opening start)) more ∙ (replay-more (opening start) ns (Made e) ∙ (ap (λ (p : Replay). next p (Made e)) was
      ∙ (λ i. record { router = sym state i; lines = lines-more (Made e) refl more i; stop = None })))

  pub marked-history : ns' ≡ ns ++ Marked e ∷ [] → IsHistory start t ns' (Some e.number)
  marked-history more =
      ap (replay (opening start)) more ∙ (replay-more (opening start) ns (Marked e) ∙ (ap (λ (p : Replay). next p (Marked e)) was
      ∙ (λ i. record { router = sym state i; lines = lines-more (Marked e) refl more i; stop = Some (sym same-number i) })))

-- what is told of it
module _ (ns ns' : List Note) (e : JournalEntry) (none : marked ns ≡ None) where
  pub made-count : ns' ≡ ns ++ Made e ∷ [] → length (entries ns') ≡ length (entries ns) + 1
  made-count more = ap (λ (ms : List Note). length (entries ms)) more ∙ (ap (λ (es : List JournalEntry). length es) (entries-more ns (Made e)) ∙ length-append (entries ns) (e ∷ []))

  pub marked-count : ns' ≡ ns ++ Marked e ∷ [] → length (entries ns') ≡ length (entries ns) + 1
  marked-count more = ap (λ (ms : List Note). length (entries ms)) more ∙ (ap (λ (es : List JournalEntry). length es) (entries-more ns (Marked e)) ∙ length-append (entries ns) (e ∷ []))

  pub made-marked : ns' ≡ ns ++ Made e ∷ [] → marked ns' ≡ None
  made-marked more = ap marked more ∙ marked-more ns (Made e) none

  pub marked-marked : ns' ≡ ns ++ Marked e ∷ [] → marked ns' ≡ Some e
  marked-marked more = ap marked more ∙ marked-more ns (Marked e) none

  pub made-told : ns' ≡ ns ++ Made e ∷ [] → told_after {E = AppendFailed} (told_of ns) e (Ok tt) ≡ told_of ns'
  made-told more =
      let one : appended ns ++ e ∷ [] ≡ appended ns' = sym (ap appended more ∙ appended-more ns (Made e)) in
      let two : marked ns ≡ marked ns' = none ∙ sym (made-marked more) in
      λ i. record { entries = one i; torn = two i }

  pub marked-told : (f : AppendFailed) → ns' ≡ ns ++ Marked e ∷ [] → told_after {E = AppendFailed} (told_of ns) e (Err f) ≡ told_of ns'
  marked-told f more =
      let one : appended ns ≡ appended ns' = sym (ap appended more ∙ (appended-more ns (Marked e) ∙ append-nil (appended ns))) in
      let two : Some e ≡ marked ns' = sym (marked-marked more) in
      λ i. record { entries = one i; torn = two i }

-- ---- counts of faults

pub rose-later : (a b c : ℕ) → a ≤ b → Rose b c → Rose a c
rose-later a b c le rose = omega (arith, le, rose)

pub rose-more : (a b c : ℕ) → Rose a b → b ≤ c → Rose a c
rose-more a b c rose le = omega (arith, le, rose)

-- ---- what may be submitted

fits-there : (s r : Router) (circuit : ℕ) → desk_of r.config r.circuits ≡ desk_of s.config s.circuits → IsThere s circuit → IsThere r circuit
fits-there s r circuit e f = (f.0, let n = desk-count s r e in omega (arith, f.1, n))

pub fits-later : (s r : Router) (ev : NodeEvent) → desk_of r.config r.circuits ≡ desk_of s.config s.circuits → KeepsPrefixes ev → Fits s ev → Fits r ev
fits-later s r event.Second e k f = tt
fits-later s r (event.Take opened) e k f = (fits-there s r opened.circuit e f.0, subst (λ (d : DeskView). IsOpenedBy d opened) (sym e) f.1)
fits-later s r (event.Pull circuit) e k f = fits-there s r circuit e f
fits-later s r (event.Change (change.Metric circuit metric)) e k f = (fits-there s r circuit e f.0, f.1)
fits-later s r (event.Change (change.Prefix prefix metric)) e k f = absurd k
fits-later s r (event.Change (change.Overload on)) e k f = tt
