-- Words that ask for a state ask for nothing else; and how the writing of a state ends is how the run does.
use Rattle.std.proofs.Common.{◌≡◌, ◌∙◌, ◌⊎◌, ℕ, Bool, true, false, if◌then◌else◌, List, [], ◌∷◌, Option, Some, None, Result, Ok, Err, inl, inr, codes, refl, sym, subst, ap}
use Rattle.std.specs.Str.{bytes_eq}
use Rattle.std.proofs.lemmas.Slice.Eq.{bytes_eq-Decides}
use Rattle.isis_daemon.specs.declared.status.Status.{Status}
use Rattle.isis_daemon.specs.declared.status.Status.TheVariants as status
use Rattle.isis_daemon.specs.Commands.{AreNoText, walk_of, trace_of, weave_of}
use Rattle.isis_daemon.specs.Options.{options_of, pieces_of, state_of}
use Rattle.isis_daemon.specs.Runs.{IsDoneUnlessMemory}
use Rattle.isis_daemon.specs.StateRuns.{HasState, state_status, status_after}
use Rattle.isis_daemon.proofs.TakenLemmas.{same_octets}
use Rattle.isis_edge.specs.Told.{Took}
use Rattle.state_replay.specs.declared.fault.StateFault.{StateFault}
use Rattle.state_replay.specs.declared.fault.StateFault.TheVariants as fault
use Rattle.state_replay.specs.Ends.{IsRefused, StateEnds, StateEndsOn}

abbrev AreOfState : List (List ℕ) → Type 0
AreOfState words = AreNoText words × (walk_of words ≡ None) × (trace_of words ≡ None) × (weave_of words ≡ None)

of-state : (words : List (List ℕ)) → AreOfState (codes "state" ∷ words)
of-state [] = ((refl, refl), refl, refl, refl)
of-state (a ∷ []) = ((refl, refl), refl, refl, refl)
of-state (a ∷ b ∷ []) = ((refl, refl), refl, refl, refl)
of-state (a ∷ b ∷ c ∷ words) = ((refl, refl), refl, refl, refl)

pub state-alone : (words : List (List ℕ)) (x : ℕ × ℕ) → Some x ≡ state_of words → AreOfState words
state-alone [] x is = absurd (cc is)
state-alone (word ∷ words) x is =
    subst (λ (w : List ℕ). AreOfState (w ∷ words)) (sym ((bytes_eq-Decides word (codes "state")).0 (hit (bytes_eq word (codes "state")) is))) (of-state words)
  where
    hit : (b : Bool) → Some x ≡ (if b then options_of (codes "--entry") 4294967295 (pieces_of words) else None) → b ≡ true
    hit true e = refl
    hit false e = absurd (cc e)

-- ---- how it ends

pub no-usage : (why : StateFault) → ¬ (state_status why ≡ status.Usage)
no-usage fault.Read e = cc e
no-usage fault.TooLong e = cc e
no-usage (fault.Head line) e = cc e
no-usage (fault.Config what key) e = cc e
no-usage (fault.Form line) e = cc e
no-usage (fault.Event entry) e = cc e
no-usage (fault.Reply entry) e = cc e
no-usage fault.Write e = cc e
no-usage fault.OutOfMemory e = cc e

pub is-started : (why : StateFault) → ¬ (state_status why ≡ status.NotStarted)
is-started fault.Read e = cc e
is-started fault.TooLong e = cc e
is-started (fault.Head line) e = cc e
is-started (fault.Config what key) e = cc e
is-started (fault.Form line) e = cc e
is-started (fault.Event entry) e = cc e
is-started (fault.Reply entry) e = cc e
is-started fault.Write e = cc e
is-started fault.OutOfMemory e = cc e

-- what was read is what was read
pub is-read : (why : StateFault) → state_status why ≡ status.ReadFault → why ≡ fault.Read
is-read fault.Read e = refl
is-read fault.TooLong e = absurd (cc e)
is-read (fault.Head line) e = absurd (cc e)
is-read (fault.Config what key) e = absurd (cc e)
is-read (fault.Form line) e = absurd (cc e)
is-read (fault.Event entry) e = absurd (cc e)
is-read (fault.Reply entry) e = absurd (cc e)
is-read fault.Write e = absurd (cc e)
is-read fault.OutOfMemory e = absurd (cc e)

pub is-write : (why : StateFault) → state_status why ≡ status.WriteFault → why ≡ fault.Write
is-write fault.Read e = absurd (cc e)
is-write fault.TooLong e = absurd (cc e)
is-write (fault.Head line) e = absurd (cc e)
is-write (fault.Config what key) e = absurd (cc e)
is-write (fault.Form line) e = absurd (cc e)
is-write (fault.Event entry) e = absurd (cc e)
is-write (fault.Reply entry) e = absurd (cc e)
is-write fault.Write e = refl
is-write fault.OutOfMemory e = absurd (cc e)

-- nothing but memory stands against a state, where no read and no write failed
pub state-done : (boot most : ℕ) (gave gave' octets : List ℕ) (ended : Bool) (put put' : List ℕ) (why : StateFault)
    → Took gave gave' octets → HasState boot most octets ended → StateEnds boot most gave gave' ended put put' (Err why)
    → ¬ (why ≡ fault.Read) → ¬ (why ≡ fault.Write) → IsDoneUnlessMemory (state_status why)
state-done boot most gave gave' octets ended put put' why took has ends calm quiet = by ends.2
  where
    same : octets ≡ ends.0
    same = same_octets gave gave' octets ends.0 took ends.1

    memory : (why ≡ fault.Read) ⊎ (why ≡ fault.OutOfMemory) → IsDoneUnlessMemory (state_status why)
    memory (inl read) = absurd (calm read)
    memory (inr short) = inr (ap state_status short)

    by : StateEndsOn boot most ends.0 ended put put' (Err why) → IsDoneUnlessMemory (state_status why)
    by (inl refused) = memory (has why (subst (λ (input : List ℕ). IsRefused boot most input ended why) (sym same) refused.0))
    by (inr wrote) = absurd (quiet wrote.0)
