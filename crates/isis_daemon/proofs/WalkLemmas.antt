-- Words that ask for a walk ask for nothing else; and a walk that there is is written.
use Rattle.std.proofs.Common.{◌≡◌, ℕ, Bool, true, false, if◌then◌else◌, List, [], ◌∷◌, Option, Some, None, IfSome, IsOk, inl, inr, codes, refl, sym, subst}
use Rattle.std.specs.Option.{option_map}
use Rattle.std.specs.Str.{bytes_eq}
use Rattle.std.proofs.lemmas.Slice.Eq.{bytes_eq-Decides}
use Rattle.isis_base.specs.declared.prefix.Prefix.{Prefix}
use Rattle.isis_daemon.specs.Commands.{AreNoText, walk_of, asked_of}
use Rattle.isis_daemon.specs.Options.{daemon_of}
use Rattle.lab_script.specs.declared.reason.ScriptFault.{ScriptFault}
use Rattle.lab_script.specs.declared.reason.ScriptFault.TheVariants as script
use Rattle.isis_daemon.specs.declared.status.Status.{Status}
use Rattle.isis_daemon.specs.declared.status.Status.TheVariants as status
use Rattle.isis_daemon.specs.Runs.{IsDoneUnlessMemory}
use Rattle.isis_daemon.specs.WalkEnds.{IsRefusedScript, IsWalkable, WalkEndsOn}

abbrev pub AreOfWalk : List (List ℕ) → Type 0
AreOfWalk words = AreNoText words × (daemon_of words ≡ None)

walk-alone : (words : List (List ℕ)) (x : List ℕ × Prefix) → Some x ≡ walk_of words → AreOfWalk words
walk-alone [] x is = absurd (cc is)
walk-alone (word ∷ []) x is = absurd (cc is)
walk-alone (word ∷ name ∷ []) x is = absurd (cc is)
walk-alone (word ∷ name ∷ prefix ∷ []) x is =
    subst (λ (w : List ℕ). AreOfWalk (w ∷ name ∷ prefix ∷ [])) (sym ((bytes_eq-Decides word (codes "walk")).0 (hit (bytes_eq word (codes "walk")) is)))
    ((refl, refl), refl)
  where
    hit : (b : Bool) → Some x ≡ (if b then asked_of name prefix else None) → b ≡ true
    hit true e = refl
    hit false e = absurd (cc e)
walk-alone (word ∷ name ∷ prefix ∷ next ∷ words) x is = absurd (cc is)

pub alone-if : {A : Type 0} (f : A → List ℕ × Prefix) (asked : Option A) (words : List (List ℕ)) → option_map f asked ≡ walk_of words → IfSome asked (λ _. AreOfWalk words)
alone-if f None words is = tt
alone-if f (Some a) words is = walk-alone words (f a) is

-- ---- an input after whose script there is a walk

refused_none : (name input : List ℕ) (prefix : Prefix) (fault : ScriptFault) → IsWalkable name prefix input → IsRefusedScript name input fault → ⊥
refused_none name input prefix fault can refused = cc (subst IsOk refused.0 can.runs)

-- its run is done, or memory ran out, where no write failed
pub walked_done : (name : List ℕ) (prefix : Prefix) (text put put' : List ℕ) (end : Status) → IsWalkable name prefix text → ¬ (end ≡ status.WriteFault) → WalkEndsOn name prefix text put put' end → IsDoneUnlessMemory end
walked_done name prefix text put put' status.Done can write h = inl refl
walked_done name prefix text put put' status.Usage can write h = absurd h
walked_done name prefix text put put' (status.ScriptRefused line why) can write h = absurd (refused_none name text prefix (script.Refused line why) can h.0)
walked_done name prefix text put put' status.ReadFault can write h = absurd h
walked_done name prefix text put put' status.WriteFault can write h = absurd (write refl)
walked_done name prefix text put put' status.TooLong can write h = absurd h
walked_done name prefix text put put' status.OutOfMemory can write h = inr refl
walked_done name prefix text put put' (status.ConfigRefused what key) can write h = absurd h
walked_done name prefix text put put' status.NotStarted can write h = absurd h
walked_done name prefix text put put' (status.LabLimit which) can write h = absurd (refused_none name text prefix (script.Limit which) can h.0)
walked_done name prefix text put put' (status.WeaveRefused journal entry why) can write h = absurd h
walked_done name prefix text put put' (status.NoWalk why) can write h = absurd (can.walks why h.0)
walked_done name prefix text put put' status.ScheduleLimit can write h = absurd h
walked_done name prefix text put put' (status.NoLosses why) can write h = absurd h
walked_done name prefix text put put' (status.Absent what) can write h = absurd h
