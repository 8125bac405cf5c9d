-- Words that ask for a weaving ask for nothing else; and journals that have one are woven.
use Rattle.std.proofs.Common.{◌≡◌, inl, inr, ℕ, Bool, true, false, if◌then◌else◌, List, [], ◌∷◌, Option, Some, None, IfSome, Result, Err, codes, refl, sym, subst}
use Rattle.std.specs.Str.{bytes_eq}
use Rattle.std.proofs.lemmas.Slice.Eq.{bytes_eq-Decides}
use Rattle.lab_keys.specs.declared.faults.LimitName.{LimitName}
use Rattle.lab_script.specs.declared.reason.ScriptFault.{ScriptFault}
use Rattle.lab_script.specs.declared.reason.ScriptFault.TheVariants as script
use Rattle.weave_text.specs.Passed.WeaveFault.{WeaveFault}
use Rattle.weave_text.specs.Passed.WeaveFault.TheVariants as weave
use Rattle.weave_text.specs.Passed.{no_memory}
use Rattle.weave_text.specs.declared.reason.WeaveReason.{WeaveReason}
use Rattle.weave_text.specs.declared.reason.WeaveReason.TheVariants as reason
use Rattle.weave_text.specs.Reasons.{fault_for}
use Rattle.weave_text.specs.Weavings.{Weaving, weaving_of}
use Rattle.weave_text.specs.Weaves.{HasNoWeaving, PassesLimit, IsWeavable}
use Rattle.isis_daemon.specs.declared.status.Status.{Status}
use Rattle.isis_daemon.specs.declared.status.Status.TheVariants as status
use Rattle.isis_daemon.specs.Runs.{IsDoneUnlessMemory}
use Rattle.isis_daemon.specs.WeaveEnds.{WeaveEndsOn, CanBeWoven}
use Rattle.isis_daemon.specs.Commands.{AreNoText, walk_of, trace_of, weave_of}
use Rattle.isis_daemon.specs.Options.{daemon_of}

abbrev pub AreOfWeave : List (List ℕ) → Type 0
AreOfWeave words =
    AreNoText words × (daemon_of words ≡ None) × (walk_of words ≡ None) × (trace_of words ≡ None)

weave-alone : (words : List (List ℕ)) (x : Unit {0}) → Some x ≡ weave_of words → AreOfWeave words
weave-alone [] x is = absurd (cc is)
weave-alone (word ∷ []) x is =
    subst (λ (w : List ℕ). AreOfWeave (w ∷ [])) (sym ((bytes_eq-Decides word (codes "weave")).0 (hit (bytes_eq word (codes "weave")) is)))
    ((refl, refl), refl, refl, refl)
  where
    hit : (b : Bool) → Some x ≡ (if b then Some tt else None) → b ≡ true
    hit true e = refl
    hit false e = absurd (cc e)
weave-alone (word ∷ next ∷ words) x is = absurd (cc is)

pub alone-if : (asked : Option (Unit {0})) (words : List (List ℕ)) → asked ≡ weave_of words → IfSome asked (λ _. AreOfWeave words)
alone-if None words is = tt
alone-if (Some x) words is = weave-alone words x is

-- ---- journals that have a weaving

abbrev pub WeavableLaw : Type 0
WeavableLaw = (said : Result Weaving ScriptFault) (f : WeaveFault) → IsWeavable said → HasNoWeaving said f → f ≡ no_memory

refused-none : (said : Result Weaving ScriptFault) (f : ScriptFault) → IsWeavable said → said ≡ Err f → ⊥
refused-none said f weavable e = subst IsWeavable e weavable

unwoven-none : WeavableLaw → (said : Result Weaving ScriptFault) (journal entry : ℕ) (why : WeaveReason) → IsWeavable said → HasNoWeaving said (fault_for journal entry why) → ⊥
unwoven-none law said journal entry reason.Event weavable none = cc (law said (weave.Event journal entry) weavable none)
unwoven-none law said journal entry reason.Reply weavable none = cc (law said (weave.Reply journal entry) weavable none)
unwoven-none law said journal entry reason.Stuck weavable none = cc (law said (weave.Stuck journal entry) weavable none)

limit-none : WeavableLaw → (said : Result Weaving ScriptFault) (which : LimitName) → IsWeavable said → PassesLimit said which → ⊥
limit-none law said which weavable (inl e) = refused-none said (script.Limit which) weavable e
limit-none law said which weavable (inr none) = cc (law said (weave.Limit which) weavable none)

-- a run of journals that have a weaving is done, or memory ran out, where no write failed
pub woven_done : WeavableLaw → (text put put' : List ℕ) (end : Status) → CanBeWoven text → ¬ (end ≡ status.WriteFault) → WeaveEndsOn text put put' end → IsDoneUnlessMemory end
woven_done law text put put' status.Done can write h = inl refl
woven_done law text put put' status.Usage can write h = absurd h
woven_done law text put put' (status.ScriptRefused line why) can write h = absurd (refused-none (weaving_of text) (script.Refused line why) can.1 h.0)
woven_done law text put put' status.ReadFault can write h = absurd h
woven_done law text put put' status.WriteFault can write h = absurd (write refl)
woven_done law text put put' status.TooLong can write h = absurd h
woven_done law text put put' status.OutOfMemory can write h = inr refl
woven_done law text put put' (status.ConfigRefused what key) can write h = absurd h
woven_done law text put put' status.NotStarted can write h = absurd h
woven_done law text put put' (status.LabLimit which) can write h = absurd (limit-none law (weaving_of text) which can.1 h.0)
woven_done law text put put' (status.WeaveRefused journal entry why) can write h = absurd (unwoven-none law (weaving_of text) journal entry why can.1 h.0)
woven_done law text put put' (status.NoWalk why) can write h = absurd h
woven_done law text put put' status.ScheduleLimit can write h = absurd h
woven_done law text put put' (status.NoLosses why) can write h = absurd h
woven_done law text put put' (status.Absent what) can write h = absurd h
