-- Words that ask for a trace ask for nothing else; and a trace that there is is written.
use Rattle.std.proofs.Common.{◌≡◌, ℕ, Bool, true, false, if◌then◌else◌, List, [], ◌∷◌, Option, Some, None, IfSome, IsOk, inl, inr, codes, refl, sym, subst}
use Rattle.std.specs.Option.{option_map}
use Rattle.std.specs.Str.{bytes_eq}
use Rattle.std.proofs.lemmas.Slice.Eq.{bytes_eq-Decides}
use Rattle.isis_daemon.specs.Commands.{AreNoText, walk_of, trace_of, tracing_of}
use Rattle.isis_daemon.specs.Options.{daemon_of}
use Rattle.lab_script.specs.declared.reason.ScriptFault.{ScriptFault}
use Rattle.lab_script.specs.declared.reason.ScriptFault.TheVariants as script
use Rattle.isis_daemon.specs.declared.status.Status.{Status}
use Rattle.isis_daemon.specs.declared.status.Status.TheVariants as status
use Rattle.isis_daemon.specs.Runs.{IsDoneUnlessMemory}
use Rattle.isis_daemon.specs.WalkEnds.{IsRefusedScript}
use Rattle.isis_daemon.specs.TraceEnds.{IsTraceable, TraceEndsOn}

abbrev pub AreOfTrace : List (List ℕ) → Type 0
AreOfTrace words = AreNoText words × (daemon_of words ≡ None) × (walk_of words ≡ None)

trace-alone : (words : List (List ℕ)) (x : List ℕ × ℕ) → Some x ≡ trace_of words → AreOfTrace words
trace-alone [] x is = absurd (cc is)
trace-alone (word ∷ []) x is = absurd (cc is)
trace-alone (word ∷ name ∷ []) x is = absurd (cc is)
trace-alone (word ∷ name ∷ address ∷ []) x is =
    subst (λ (w : List ℕ). AreOfTrace (w ∷ name ∷ address ∷ [])) (sym ((bytes_eq-Decides word (codes "trace")).0 (hit (bytes_eq word (codes "trace")) is)))
    ((refl, refl), refl, refl)
  where
    hit : (b : Bool) → Some x ≡ (if b then tracing_of name address else None) → b ≡ true
    hit true e = refl
    hit false e = absurd (cc e)
trace-alone (word ∷ name ∷ address ∷ next ∷ words) x is = absurd (cc is)

pub alone-if : {A : Type 0} (f : A → List ℕ × ℕ) (asked : Option A) (words : List (List ℕ)) → option_map f asked ≡ trace_of words → IfSome asked (λ _. AreOfTrace words)
alone-if f None words is = tt
alone-if f (Some a) words is = trace-alone words (f a) is

-- ---- an input after whose script there is a trace

refused_none : (name input : List ℕ) (fault : ScriptFault) → IsTraceable name input → IsRefusedScript name input fault → ⊥
refused_none name input fault can refused = cc (subst IsOk refused.0 can.runs)

-- its run is done, or memory ran out, where no write failed
pub traced_done : (name : List ℕ) (address : ℕ) (text put put' : List ℕ) (end : Status) → IsTraceable name text → ¬ (end ≡ status.WriteFault) → TraceEndsOn name address text put put' end → IsDoneUnlessMemory end
traced_done name address text put put' status.Done can write h = inl refl
traced_done name address text put put' status.Usage can write h = absurd h
traced_done name address text put put' (status.ScriptRefused line why) can write h = absurd (refused_none name text (script.Refused line why) can h.0)
traced_done name address text put put' status.ReadFault can write h = absurd h
traced_done name address text put put' status.WriteFault can write h = absurd (write refl)
traced_done name address text put put' status.TooLong can write h = absurd h
traced_done name address text put put' status.OutOfMemory can write h = inr refl
traced_done name address text put put' (status.ConfigRefused what key) can write h = absurd h
traced_done name address text put put' status.NotStarted can write h = absurd h
traced_done name address text put put' (status.LabLimit which) can write h = absurd (refused_none name text (script.Limit which) can h.0)
traced_done name address text put put' (status.WeaveRefused journal entry why) can write h = absurd h
traced_done name address text put put' (status.NoWalk why) can write h = absurd (can.traces why h.0)
traced_done name address text put put' status.ScheduleLimit can write h = absurd h
traced_done name address text put put' (status.NoLosses why) can write h = absurd h
traced_done name address text put put' (status.Absent what) can write h = absurd h
