-- What a worker's and the ticker's jobs are after all ran, or not.
use Rattle.std.proofs.Common.{◌≡◌, ◌≢◌, ℕ, ◌+◌, ◌<◌, ◌≤◌, Bool, false, List, [], length, slice_get, Option, Some, None, IfSome, ⊎_elim, sym, refl, ap, ◌∙◌, subst, arith}
use Rattle.std.specs.Option.{ForSome}
use Rattle.model_router.specs.Routers.{Router}
use Rattle.router_core.specs.Events.{IsThere}
use Rattle.turn_lock.specs.declared.noted.Noted as noted
use Rattle.turn_lock.specs.declared.pass.Pass.{Pass}
use Rattle.turn_lock.specs.Passes.{turns_left, label, own, seen}
use Rattle.circuit_threads.specs.declared.journal.Journal.{Ghosts}
use Rattle.circuit_threads.specs.declared.behind.Behind.{Behind}
use Rattle.circuit_threads.specs.declared.behind.Start.{Start}
use Rattle.circuit_threads.specs.declared.entry.JournalEntry.{JournalEntry}
use Rattle.circuit_threads.specs.declared.entry.Note.{Note}
use Rattle.circuit_threads.specs.declared.entry.SubmitFault.{SubmitFault}
use Rattle.circuit_threads.specs.declared.entry.SubmitFault.TheVariants as fault
use Rattle.circuit_threads.specs.declared.shared.SharedRouter.{SharedRouter}
use Rattle.circuit_threads.specs.Sharing.{first_router, IsPassOf}
use Rattle.daemon_edge.specs.Closings.{Opening}
use Rattle.daemon_edge.specs.Ports.{IsFresh}
use Rattle.daemon_edge.specs.declared.spawning.Started.{Started}
use Rattle.daemon_edge.specs.declared.spawning.Started.TheVariants as started
use Rattle.circuit_serve.specs.declared.end.ServeEnd.{ServeEnd}
use Rattle.circuit_serve.specs.declared.end.ServeEnd.TheVariants.{Done, NotStarted, Journal, OutOfMemory}
use Rattle.circuit_serve.specs.declared.job.Task.{Task}
use Rattle.circuit_serve.specs.declared.job.Task.TheVariants.{Ticker, Circuit}
use Rattle.circuit_serve.specs.Labels.{of_label, by_label, Only}
use Rattle.circuit_serve.specs.Walks.{Ran, Ticked, IsMarked, IsCalm}
use Rattle.circuit_serve.specs.Ends.{end_of, end_of_start, first_end, IsEnd, AtEnd, CircuitIs, IsNew, IsRun, TickerIs}
use Rattle.circuit_serve.specs.Jobs.{IsReady, JobRan, KeepsOpening, IsOpened, IsTicker}
use Rattle.circuit_serve.specs.Served.{Served, TickerRan, circuit_turns}
use Rattle.circuit_serve.proofs.ByLabels.{only_none}
use Rattle.circuit_serve.proofs.Running.{sets_out}
use Rattle.circuit_serve.proofs.Gathered.{some_same, if_some_at, weaker}

-- a journal's fault that is marked is an end
pub marked_end : (start : Router) (seen : List Note) (end : Option SubmitFault) → IsMarked start seen end → IsEnd start seen (end_of end)
marked_end start seen None is = is
marked_end start seen (Some fault.OutOfMemory) is = is
marked_end start seen (Some (fault.JournalFault r)) is = is
marked_end start seen (Some (fault.Stopped n)) is = is

pub done_none : (end : Option SubmitFault) → end_of end ≡ Done → end ≡ None
done_none None is = refl
done_none (Some fault.OutOfMemory) is = absurd (cc is)
done_none (Some (fault.JournalFault r)) is = absurd (cc is)
done_none (Some (fault.Stopped n)) is = absurd (cc is)

-- whatever the end, at most one datagram was lost
pub at_end : (turns c : ℕ) (es : List JournalEntry) (given offered : List (List ℕ)) (asked : ℕ) (end : Option SubmitFault) → Ran c es given offered asked turns end → AtEnd c es given offered
at_end turns c es given offered asked None ran = record { pulls = turns; waiting = false; lost = []; runs = ran.0; few = omega arith }
at_end turns c es given offered asked (Some f) ran = record {
  pulls = ran.pulls;
  waiting = ran.waiting;
  lost = ran.lost;
  runs = ran.runs;
  few = ⊎_elim (λ (none : ran.lost ≡ []). let e : length ran.lost ≡ 0 = ap (λ z. length z) none in omega (arith, e)) (λ one. omega (arith, one.0)) ran.loses;
}

module _ {P T : Type 0} (opening : P → Opening) where
  pub same_opening : (task : Task P T) → KeepsOpening opening task task
  same_opening (Ticker t) = tt
  same_opening (Circuit c p) = refl

  pub opened_after : (o : Opening) (task task' : Task P T) → KeepsOpening opening task task' → IsOpened opening o task → IsOpened opening o task'
  opened_after o (Ticker t) task' keeps is = absurd is
  opened_after o (Circuit c p) (Ticker t) keeps is = absurd keeps
  opened_after o (Circuit c p) (Circuit d q) keeps is = keeps ∙ is

module _ {J P T : Type 0} {journal : Ghosts J} {tells : noted.Ghosts (Behind J journal) Note (Start J)} (given offered : P → List (List ℕ)) (asked : P → ℕ) (count : T → ℕ) (ended : T → Bool) (s : SharedRouter J journal) (turns : ℕ) (All : Type 0) where
  -- a circuit's job that ran
  pub circuit_after : (c : ℕ) (task task' : Task P T) (pass pass' : Option (Pass (Behind J journal) Note (Start J) tells)) (first end : Option SubmitFault) → IsNew given offered asked s turns c task pass first
      → ((p : Pass (Behind J journal) Note (Start J) tells) → pass ≡ Some p → JobRan given offered asked count ended s turns task p task' pass' end) → IsRun given offered asked s turns c All task' pass' end
  circuit_after c (Ticker t) task' pass pass' first end new ran = absurd new
  circuit_after c (Circuit d port) (Ticker t) pass pass' first end new ran =
      let p = new.4 in absurd ((ran p.0 p.1).6.2)
  circuit_after c (Circuit d port) (Circuit d' port') pass pass' first end new ran =
      let p = new.4 in let r = ran p.0 p.1 in let q : Pass (Behind J journal) Note (Start J) tells = r.0 in let es : List JournalEntry = r.6.0 in
      let only : Only c (own q) (seen q) es = subst (λ l. Only l (own q) (seen q) es) p.3 r.6.1 in
      let made : Ran c es (given port') (offered port') (asked port') turns end = subst (λ l. Ran l es (given port') (offered port') (asked port') turns end) p.3 r.6.2.1 in
      let all : CircuitIs given offered asked turns c port' es (end ≡ None) = (at_end turns c es (given port') (offered port') (asked port') end made, λ none. subst (λ z. Ran c es (given port') (offered port') (asked port') turns z) none made) in (
        q,
        r.1,
        r.2,
        r.4 ∙ p.5,
        marked_end (first_router s) (seen q) end r.5,
        only.other,
        weaker given offered asked turns c port' es (by_label c (own q) (seen q)) (end ≡ None) (All × (end_of end ≡ Done)) only.mine (λ w. done_none end w.1) all,
      )

  -- a circuit's job that is as before, where not all ran
  pub circuit_before : (c : ℕ) (task : Task P T) (pass : Option (Pass (Behind J journal) Note (Start J) tells)) (end : Option SubmitFault) → IsNew given offered asked s turns c task pass end → ¬ All → IsRun given offered asked s turns c All task pass end
  circuit_before c (Ticker t) pass end new not = absurd new
  circuit_before c (Circuit d port) pass end new not =
      let p = new.4 in let q : Pass (Behind J journal) Note (Start J) tells = p.0 in let fresh = new.3 in
      let only : Only c (own q) (seen q) [] = only_none c (own q) (seen q) p.4 in
      let none : length (own q) ≡ 0 = ap (λ z. length z) p.4 in
      let at : AtEnd c [] (given port) (offered port) = record { pulls = 0; waiting = false; lost = []; runs = sets_out c (given port) (offered port) fresh.0 fresh.1; few = omega arith } in
      let all : CircuitIs given offered asked turns c port [] All = (at, λ w. absurd (not w)) in (
        q,
        p.1,
        p.2,
        omega (arith, p.5, none),
        subst (λ e. IsEnd (first_router s) (seen q) (end_of e)) (sym new.1) p.6,
        only.other,
        weaker given offered asked turns c port [] (by_label c (own q) (seen q)) All (All × (end_of end ≡ Done)) only.mine (λ w. w.0) all,
      )

  -- the ticker's job that ran
  pub ticker_after : (share : ℕ) (t : T) (task' : Task P T) (rest : Pass (Behind J journal) Note (Start J) tells) (pass' : Option (Pass (Behind J journal) Note (Start J) tells)) (end : Option SubmitFault) → label rest ≡ 0 → turns_left rest ≡ share
      → JobRan given offered asked count ended s turns (Ticker t) rest task' pass' end → TickerRan count ended s share (count t) turns All task' pass' end
  ticker_after share t (Circuit d port) rest pass' end zero left r = absurd r.6.2
  ticker_after share t (Ticker t') rest pass' end zero left r =
      let q : Pass (Behind J journal) Note (Start J) tells = r.0 in let es : List JournalEntry = r.6.0 in
      let only : Only 0 (own q) (seen q) es = subst (λ l. Only l (own q) (seen q) es) zero r.6.1 in
      let made : Ticked es (count t) (count t') (ended t') turns end = r.6.2 in (
        q,
        r.1,
        r.2,
        r.3 ∙ zero,
        r.4 ∙ left,
        marked_end (first_router s) (seen q) end r.5,
        (λ d some. only.other d (λ e. absurd (omega (arith, e, some)))),
        subst (λ z. TickerIs z (count t) (count t') (ended t') turns (All × (end_of end ≡ Done))) (sym only.mine) (made.0, λ w. made.1 (done_none end w.1)),
      )

  -- the ticker's job that is as before, where not all ran
  pub ticker_before : (share : ℕ) (t : T) (rest : Pass (Behind J journal) Note (Start J) tells) → IsPassOf s rest → label rest ≡ 0 → own rest ≡ [] → turns_left rest ≡ share → IsCalm (first_router s) (seen rest) → ¬ All
      → TickerRan {P = P} count ended s share (count t) turns All (Ticker t) (Some rest) None
  ticker_before share t rest belongs zero none left calm not =
      let only : Only 0 (own rest) (seen rest) [] = only_none 0 (own rest) (seen rest) none in
      let few : length (own rest) ≡ 0 = ap (λ z. length z) none in (
        rest,
        refl,
        belongs,
        zero,
        omega (arith, left, few),
        calm,
        (λ d some. only.other d (λ e. absurd (omega (arith, e, some)))),
        subst (λ z. TickerIs z (count t) (count t) (ended t) turns (All × (end_of None ≡ Done))) (sym only.mine) (refl, λ w. absurd (not w.0)),
      )

  -- the ticker's job has a pass and is the ticker's
  pub ticker_there : (share before : ℕ) (task : Task P T) (pass : Option (Pass (Behind J journal) Note (Start J) tells)) (end : Option SubmitFault) → TickerRan count ended s share before turns All task pass end → IsTicker task × (pass ≢ None)
  ticker_there share before (Ticker t) pass end ran = (tt, λ none. cc (sym none ∙ ran.1))
  ticker_there share before (Circuit d port) pass end ran = absurd ran

  -- the ticker's job taken apart
  pub ticker_taken : (share before : ℕ) (task : Task P T) (pass : Option (Pass (Behind J journal) Note (Start J) tells)) (end : Option SubmitFault) (t : T) (p : Pass (Behind J journal) Note (Start J) tells) → task ≡ Ticker t → pass ≡ Some p
      → TickerRan count ended s share before turns All task pass end
      → (IsPassOf s p × (label p ≡ 0)) × (turns_left p + length (own p) ≡ share) × IsEnd (first_router s) (seen p) (end_of end)
      × ((d : ℕ) → 0 < d → by_label d (own p) (seen p) ≡ []) × TickerIs (by_label 0 (own p) (seen p)) before (count t) (ended t) turns (All × (end_of end ≡ Done))
  ticker_taken share before task pass end t p is at ran =
      let r = subst (λ z. TickerRan count ended s share before turns All z pass end) is ran in
      let same : r.0 ≡ p = some_same r.0 p (sym r.1 ∙ at) in
      subst
      (λ (z : Pass (Behind J journal) Note (Start J) tells). (IsPassOf s z × (label z ≡ 0)) × (turns_left z + length (own z) ≡ share) × IsEnd (first_router s) (seen z) (end_of end)
      × ((d : ℕ) → 0 < d → by_label d (own z) (seen z) ≡ []) × TickerIs (by_label 0 (own z) (seen z)) before (count t) (ended t) turns (All × (end_of end ≡ Done)))
      same ((r.2, r.3), r.4, r.5, r.6, r.7)

  -- a circuit's job before it runs has what its worker needs
  pub ready_new : (s' : SharedRouter J journal) (turns' c : ℕ) (task : Task P T) (pass : Option (Pass (Behind J journal) Note (Start J) tells)) (first : Option SubmitFault) → IsNew given offered asked s turns c task pass first → turns' ≡ turns → s' ≡ s
      → ForSome pass (λ p. IsPassOf s' p × (own p ≡ []) × IsReady given offered asked count ended (first_router s') task turns' p × IsCalm (first_router s') (seen p))
  ready_new s' turns' c (Ticker t) pass first new same same' = absurd new
  ready_new s' turns' c (Circuit d port) pass first new same same' = λ x at.
      let p = new.4 in let on : d ≡ c = new.0 in
      let is : p.0 ≡ x = some_same p.0 x (sym p.1 ∙ at) in
      let left : turns + turns ≤ turns_left p.0 = omega (arith, p.5) in
      let ready : IsPassOf s p.0 × (own p.0 ≡ []) × IsReady given offered asked count ended (first_router s) (Circuit d port) turns p.0 × IsCalm (first_router s) (seen p.0) = (p.2, p.4, (p.3 ∙ sym on, left, subst (λ z. IsThere (first_router s) z) (sym on) new.2, new.3), p.6) in
      subst (λ (z : SharedRouter J journal). IsPassOf z x × (own x ≡ []) × IsReady given offered asked count ended (first_router z) (Circuit d port) turns' x × IsCalm (first_router z) (seen x)) (sym same')
      (subst (λ (n : ℕ). IsPassOf s x × (own x ≡ []) × IsReady given offered asked count ended (first_router s) (Circuit d port) n x × IsCalm (first_router s) (seen x)) (sym same)
      (subst (λ (z : Pass (Behind J journal) Note (Start J) tells). IsPassOf s z × (own z ≡ []) × IsReady given offered asked count ended (first_router s) (Circuit d port) turns z × IsCalm (first_router s) (seen z)) is ready))

pub started_all : (st : Started) → end_of_start st ≡ Done → st ≡ started.All
started_all started.All is = refl
started_all started.Refused is = absurd (cc is)
started_all started.OutOfMemory is = absurd (cc is)

pub started_refused : (st : Started) → end_of_start st ≡ NotStarted → st ≡ started.Refused
started_refused started.All is = absurd (cc is)
started_refused started.Refused is = refl
started_refused started.OutOfMemory is = absurd (cc is)

-- the end of the starts, and that of the ticker
pub end_started : (start : Router) (seen : List Note) (st : Started) (end : ServeEnd) → IsEnd start seen end → IsEnd start seen (first_end (end_of_start st) end)
end_started start seen started.All end is = is
end_started start seen started.Refused end is = tt
end_started start seen started.OutOfMemory NotStarted is = tt
end_started start seen started.OutOfMemory (Journal n) is = is
end_started start seen started.OutOfMemory OutOfMemory is = is
end_started start seen started.OutOfMemory Done is = is

-- nothing was begun
pub served_early : {J P : Type 0} {journal : Ghosts J} {tells : noted.Ghosts (Behind J journal) Note (Start J)} (opening : P → Opening) (given offered : P → List (List ℕ)) (asked : P → ℕ) (s : SharedRouter J journal) (turns : ℕ) (ports : List P) (before : ℕ) (ended : Bool)
    (p : Pass (Behind J journal) Note (Start J) tells) → IsPassOf s p → label p ≡ 0 → own p ≡ [] → seen p ≡ [] → ((i : ℕ) → IfSome (slice_get ports i) (λ x. IsFresh (given x) (offered x) (asked x)))
    → Served opening given offered asked s turns ports ports before before ended p p OutOfMemory
served_early opening given offered asked s turns ports before ended p belongs zero none nothing fresh = record {
  pass = (belongs, zero);
  share = (let e : length (own p) ≡ 0 = ap (λ z. length z) none in omega (arith, e));
  count = refl;
  openings = λ opens all i. all i;
  circuits = λ i port at.
      let f = if_some_at _ _ port at (fresh i) in
      let now : AtEnd (i + 1) [] (given port) (offered port) = record { pulls = 0; waiting = false; lost = []; runs = sets_out (i + 1) (given port) (offered port) f.0 f.1; few = omega arith } in
      subst (λ (ns : List Note). CircuitIs given offered asked (circuit_turns turns) (i + 1) port (of_label (i + 1) ns) (OutOfMemory ≡ Done)) (sym nothing) (now, λ done. cc done);
  others = λ d past. ap (of_label d) nothing;
  ticker = subst (λ (ns : List Note). TickerIs (of_label 0 ns) before before ended turns (OutOfMemory ≡ Done)) (sym nothing) (refl, λ done. cc done);
  ends = subst (IsCalm (first_router s)) (sym nothing) refl;
}
