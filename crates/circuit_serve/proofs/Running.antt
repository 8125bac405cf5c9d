-- A circuit's run, entry by entry.
use Rattle.std.proofs.Common.{◌≡◌, ℕ, zero, suc, ◌+◌, ◌<◌, ◌&&◌, not, Bool, true, false, List, [], ◌∷◌, ◌++◌, length, Option, None, Some, Result, Ok, Err, inl, inr, sym, refl, ap, ◌∙◌, subst, arith, append-nil, append_assoc, eqb, eq-eqb}
use Rattle.circuit_threads.specs.declared.entry.JournalEntry.{JournalEntry}
use Rattle.circuit_threads.specs.declared.entry.Receipt.{Receipt}
use Rattle.circuit_threads.specs.declared.entry.SubmitFault.{SubmitFault}
use Rattle.circuit_threads.specs.declared.entry.SubmitFault.TheVariants as fault
use Rattle.router_core.specs.declared.event.NodeEvent.TheVariants.{Take, Pull, Second}
use Rattle.model_router.specs.Routers.{Router}
use Rattle.circuit_threads.specs.declared.entry.Note.{Note}
use Rattle.circuit_threads.specs.Answered.{entry_of, note_of, IsAnswered}
use Rattle.circuit_threads.specs.History.{entries}
use Rattle.daemon_edge.specs.Ports.{Adds}
use Rattle.router_desk.specs.Opening.{OpenedView}
use Rattle.circuit_serve.specs.Walks.{Walk, sends_of, sends_in, fault_in, IsMarked, stepped, walk, setting_out, seconds, Runs, Stops, Ran, TookIn, Pulled}

pub walk_more : (c : ℕ) (w : Walk) (es : List JournalEntry) (e : JournalEntry) → walk c w (es ++ e ∷ []) ≡ stepped c (walk c w es) e.event (sends_of e.reply)
walk_more c w [] e = refl
walk_more c w (x ∷ es) e = walk_more c (stepped c w x.event (sends_of x.reply)) es e

pub seconds_more : (es : List JournalEntry) (e : JournalEntry) → seconds (es ++ e ∷ []) ≡ seconds es + seconds (e ∷ [])
seconds_more [] e = omega arith
seconds_more (x ∷ es) e = omega (arith, seconds_more es e)

pub sets_out : (c : ℕ) (given offered : List (List ℕ)) → given ≡ [] → offered ≡ [] → Runs c [] given offered 0 false []
sets_out c given offered g o = record { takes = g; sent = o; pulls = refl; waiting = refl; legal = refl }

module _ (c : ℕ) (es : List JournalEntry) (given offered given' offered' : List (List ℕ)) (count : ℕ) (waits : Bool) where
  -- datagrams come that aren't submitted yet
  pub comes : (lost more : List (List ℕ)) → Runs c es given offered count waits lost → Adds given given' more → Adds offered offered' [] → Runs c es given' offered' count waits (lost ++ more)
  comes lost more was adds offers = record {
    takes = adds ∙ (ap (λ z. z ++ more) was.takes ∙ append_assoc (walk c setting_out es).takes lost more);
    sent = offers ∙ (append-nil offered ∙ was.sent);
    pulls = was.pulls;
    waiting = was.waiting;
    legal = was.legal;
  }

  module _ (r : Receipt) (adds : Adds given given' []) (offers : Adds offered offered' (sends_of r.reply)) where
    pub took : (x : OpenedView) → x.circuit ≡ c → waits ≡ false → Runs c es given offered count waits (x.octets ∷ []) → Runs c (es ++ entry_of c (Take x) r ∷ []) given' offered' count true []
    took x on idle was = let more = walk_more c setting_out es (entry_of c (Take x) r) in let w : Walk = walk c setting_out es in record {
      takes = adds ∙ (append-nil given ∙ (was.takes ∙ (sym (append-nil (w.takes ++ x.octets ∷ [])) ∙ ap (λ (z : Walk). z.takes ++ []) (sym more))));
      sent = offers ∙ (ap (λ z. z ++ sends_of r.reply) was.sent ∙ ap (λ (z : Walk). z.sent) (sym more));
      pulls = ap (λ (z : Walk). z.pulls) more ∙ was.pulls;
      waiting = ap (λ (z : Walk). z.waiting) more;
      legal = ap (λ (z : Walk). z.legal) more ∙ (ap (λ b. b && (not w.waiting && eqb x.circuit c)) was.legal ∙ (ap (λ b. not b && eqb x.circuit c) (was.waiting ∙ idle) ∙ eq-eqb x.circuit c on));
    }

    pub pulled : Runs c es given offered count waits [] → Runs c (es ++ entry_of c (Pull c) r ∷ []) given' offered' (count + 1) false []
    pulled was = let more = walk_more c setting_out es (entry_of c (Pull c) r) in let w : Walk = walk c setting_out es in record {
      takes = adds ∙ (append-nil given ∙ (was.takes ∙ ap (λ (z : Walk). z.takes ++ []) (sym more)));
      sent = offers ∙ (ap (λ z. z ++ sends_of r.reply) was.sent ∙ ap (λ (z : Walk). z.sent) (sym more));
      pulls = ap (λ (z : Walk). z.pulls) more ∙ ap (λ z. z + 1) was.pulls;
      waiting = ap (λ (z : Walk). z.waiting) more;
      legal = ap (λ (z : Walk). z.legal) more ∙ (ap (λ b. b && eqb c c) was.legal ∙ eq-eqb c c refl);
    }

module _ (c : ℕ) (es : List JournalEntry) (given offered given' offered' : List (List ℕ)) (count : ℕ) (waits : Bool) (adds : Adds given given' []) where
  pub take_stops : (x : OpenedView) (f : SubmitFault) → x.circuit ≡ c → waits ≡ false → Runs c es given offered count waits (x.octets ∷ []) → Adds offered offered' (sends_in (Err f))
      → Stops c (es ++ entries (note_of c (Take x) (Err f) ∷ [])) given' offered' f
  take_stops x fault.OutOfMemory on idle was offers = record { pulls = count; waiting = waits; lost = x.octets ∷ []; runs = subst (λ z. Runs c z given' offered' count waits (x.octets ∷ [])) (sym (append-nil es)) (comes c es given offered given' offered' count waits (x.octets ∷ []) [] was adds offers); loses = inr (refl, tt) }
  take_stops x (fault.Stopped n) on idle was offers = record { pulls = count; waiting = waits; lost = x.octets ∷ []; runs = subst (λ z. Runs c z given' offered' count waits (x.octets ∷ [])) (sym (append-nil es)) (comes c es given offered given' offered' count waits (x.octets ∷ []) [] was adds offers); loses = inr (refl, tt) }
  take_stops x (fault.JournalFault r) on idle was offers = record { pulls = count; waiting = true; lost = []; runs = took c es given offered given' offered' count waits r adds offers x on idle was; loses = inl refl }

  pub pull_stops : (f : SubmitFault) → Runs c es given offered count waits [] → Adds offered offered' (sends_in (Err f)) → Stops c (es ++ entries (note_of c (Pull c) (Err f) ∷ [])) given' offered' f
  pull_stops fault.OutOfMemory was offers = record { pulls = count; waiting = waits; lost = []; runs = subst (λ z. Runs c z given' offered' count waits []) (sym (append-nil es)) (comes c es given offered given' offered' count waits [] [] was adds offers); loses = inl refl }
  pull_stops (fault.Stopped n) was offers = record { pulls = count; waiting = waits; lost = []; runs = subst (λ z. Runs c z given' offered' count waits []) (sym (append-nil es)) (comes c es given offered given' offered' count waits [] [] was adds offers); loses = inl refl }
  pull_stops (fault.JournalFault r) was offers = record { pulls = count + 1; waiting = false; lost = []; runs = pulled c es given offered given' offered' count waits r adds offers was; loses = inl refl }

-- a take and a pull, whatever the submit answers
module _ (c : ℕ) (es : List JournalEntry) (given offered given' offered' : List (List ℕ)) (count : ℕ) (waits : Bool) (adds : Adds given given' []) where
  pub take_ends : (x : OpenedView) (a : Result Receipt SubmitFault) → x.circuit ≡ c → waits ≡ false → Runs c es given offered count waits (x.octets ∷ []) → Adds offered offered' (sends_in a)
      → TookIn c (es ++ entries (note_of c (Take x) a ∷ [])) given' offered' count (fault_in a)
  take_ends x (Ok r) on idle was offers = (true, took c es given offered given' offered' count waits r adds offers x on idle was)
  take_ends x (Err f) on idle was offers = take_stops c es given offered given' offered' count waits adds x f on idle was offers

  pub pull_ends : (a : Result Receipt SubmitFault) → Runs c es given offered count waits [] → Adds offered offered' (sends_in a) → Pulled c (es ++ entries (note_of c (Pull c) a ∷ [])) given' offered' (count + 1) (fault_in a)
  pull_ends (Ok r) was offers = pulled c es given offered given' offered' count waits r adds offers was
  pull_ends (Err f) was offers = pull_stops c es given offered given' offered' count waits adds f was offers

pub is_marked : (start : Router) (seen : List Note) (a : Result Receipt SubmitFault) → IsAnswered start seen a → IsMarked start seen (fault_in a)
is_marked start seen (Ok r) h = h.1.stop_at
is_marked start seen (Err fault.OutOfMemory) h = h.stop_at
is_marked start seen (Err (fault.JournalFault r)) h = h.1.stop_at
is_marked start seen (Err (fault.Stopped n)) h = h.1.stop_at

-- a run that stops where nothing was made of what it waits for
pub stops_here : (c : ℕ) (es : List JournalEntry) (given offered : List (List ℕ)) (count : ℕ) (waits : Bool) (f : SubmitFault) → Runs c es given offered count waits [] → Stops c es given offered f
stops_here c es given offered count waits f was = record { pulls = count; waiting = waits; lost = []; runs = was; loses = inl refl }

pub ran : (c : ℕ) (es : List JournalEntry) (given offered : List (List ℕ)) (asked count : ℕ) (f : Option SubmitFault) → asked ≡ count → Pulled c es given offered count f → Ran c es given offered asked count f
ran c es given offered asked count None same was = (was, same)
ran c es given offered asked count (Some f) same was = was

pub fault_seconds : (l : ℕ) (es : List JournalEntry) (f : SubmitFault) → seconds es ≡ length es → seconds (es ++ entries (note_of l Second (Err f) ∷ [])) ≡ length (es ++ entries (note_of l Second (Err f) ∷ []))
fault_seconds l es fault.OutOfMemory was = subst (λ z. seconds z ≡ length z) (sym (append-nil es)) was
fault_seconds l es (fault.Stopped n) was = subst (λ z. seconds z ≡ length z) (sym (append-nil es)) was
fault_seconds l es (fault.JournalFault r) was = let e : JournalEntry = entry_of l Second r in omega (arith, seconds_more es e, was, Rattle.std.proofs.Common.length-append es (e ∷ []))

second_more : (l : ℕ) (es : List JournalEntry) (r : Receipt) → (seconds (es ++ entry_of l Second r ∷ []) ≡ seconds es + 1) × (length (es ++ entry_of l Second r ∷ []) ≡ length es + 1)
second_more l es r = let e : JournalEntry = entry_of l Second r in (omega (arith, seconds_more es e), omega (arith, Rattle.std.proofs.Common.length-append es (e ∷ [])))

-- a second, whatever the submit answers
pub second_ends : (l : ℕ) (es : List JournalEntry) (a : Result Receipt SubmitFault) → seconds es ≡ length es → seconds (es ++ entries (note_of l Second a ∷ [])) ≡ length (es ++ entries (note_of l Second a ∷ []))
second_ends l es (Ok r) was = let s = second_more l es r in omega (arith, s.0, s.1, was)
second_ends l es (Err f) was = fault_seconds l es f was

pub second_done : (l : ℕ) (es : List JournalEntry) (a : Result Receipt SubmitFault) → fault_in a ≡ None → (seconds (es ++ entries (note_of l Second a ∷ [])) ≡ seconds es + 1) × (length (es ++ entries (note_of l Second a ∷ [])) ≡ length es + 1)
second_done l es (Ok r) is = second_more l es r
second_done l es (Err f) is = absurd (cc is)
