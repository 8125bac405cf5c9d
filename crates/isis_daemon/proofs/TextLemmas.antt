-- A command that comes to its end on an input is done, or memory ran out, where no write failed.
use Rattle.std.proofs.Common.{◌≡◌, ℕ, List, IsOk, inl, inr, refl, subst}
use Rattle.lab_script.specs.declared.reason.ScriptFault.{ScriptFault}
use Rattle.lab_script.specs.declared.reason.ScriptFault.TheVariants as script
use Rattle.capture_text.specs.declared.absence.Absence.{Absence}
use Rattle.lab_losses.specs.declared.reason.LossesReason.{LossesReason}
use Rattle.walk_text.specs.declared.reason.WalkReason.{WalkReason}
use Rattle.isis_daemon.specs.declared.command.Command.{Command}
use Rattle.isis_daemon.specs.declared.command.Command.TheVariants.{Lab, Show, Merge, Captured, Timeline, Losses}
use Rattle.isis_daemon.specs.declared.status.Status.{Status}
use Rattle.isis_daemon.specs.declared.status.Status.TheVariants as status
use Rattle.isis_daemon.proofs.MergeLemmas.{lacks-no-part, refuses-none}
use Rattle.isis_daemon.specs.Runs.{AreTooMany, ComesToEnd, EndsOn, HasNoPackets, IsDoneBut, IsOfCaptured, IsRefusedBy, IsTaken, IsWrittenUnlessMemory, Lacks}

unrefused : (command : Command) (input : List ℕ) (fault : ScriptFault) → ComesToEnd command input → IsRefusedBy command input fault → ⊥
unrefused Lab input fault can refused = cc (subst IsOk refused can)
unrefused (Show long) input fault can refused = refused
unrefused Merge input fault can refused = refuses-none input fault can refused
unrefused (Captured what level system) input fault can refused = refused
unrefused (Timeline address) input fault can refused = cc (subst IsOk refused can.runs)
unrefused (Losses most part) input fault can refused = can.taken fault refused

few : (command : Command) (input : List ℕ) → ComesToEnd command input → AreTooMany command input → ⊥
few Lab input can many = many
few (Show long) input can many = many
few Merge input can many = many
few (Captured what level system) input can many = many
few (Timeline address) input can many = many
few (Losses most part) input can many = can.few many

lacks-none : (command : Command) (input : List ℕ) (reason : LossesReason) → ComesToEnd command input → Lacks command input reason → ⊥
lacks-none Lab input reason can lacks = lacks
lacks-none (Show long) input reason can lacks = lacks
lacks-none Merge input reason can lacks = lacks-no-part input reason can lacks
lacks-none (Captured what level system) input reason can lacks = lacks
lacks-none (Timeline address) input reason can lacks = lacks
lacks-none (Losses most part) input reason can lacks = can.some reason lacks

packets-none : (command : Command) (input : List ℕ) (reason : WalkReason) → ComesToEnd command input → HasNoPackets command input reason → ⊥
packets-none Lab input reason can lacks = lacks
packets-none (Show long) input reason can lacks = lacks
packets-none Merge input reason can lacks = lacks
packets-none (Captured what level system) input reason can lacks = lacks
packets-none (Timeline address) input reason can lacks = can.some reason lacks
packets-none (Losses most part) input reason can lacks = lacks

of_captured : (absence : Absence) (command : Command) (input put put' : List ℕ) → IsDoneBut absence command input put put' → IsOfCaptured command
of_captured absence Lab input put put' h = absurd h
of_captured absence (Show long) input put put' h = absurd h
of_captured absence Merge input put put' h = absurd h
of_captured absence (Captured what level system) input put put' h = tt
of_captured absence (Timeline address) input put put' h = absurd h
of_captured absence (Losses most part) input put put' h = absurd h

pub text_done : (command : Command) (input put put' : List ℕ) (end : Status) → IsTaken command input → ¬ (end ≡ status.WriteFault) → EndsOn command input put put' end → IsWrittenUnlessMemory command end
text_done command input put put' status.Done taken write h = inl (inl refl)
text_done command input put put' status.Usage taken write h = absurd h
text_done command input put put' (status.ScriptRefused line why) taken write h = absurd (unrefused command input (script.Refused line why) taken.1 h.0)
text_done command input put put' status.ReadFault taken write h = absurd h
text_done command input put put' status.WriteFault taken write h = absurd (write refl)
text_done command input put put' status.TooLong taken write h = absurd h
text_done command input put put' status.OutOfMemory taken write h = inl (inr refl)
text_done command input put put' (status.ConfigRefused what key) taken write h = absurd h
text_done command input put put' status.NotStarted taken write h = absurd h
text_done command input put put' (status.LabLimit which) taken write h = absurd (unrefused command input (script.Limit which) taken.1 h.0)
text_done command input put put' (status.WeaveRefused journal entry why) taken write h = absurd h
text_done command input put put' (status.NoWalk why) taken write h = absurd (packets-none command input why taken.1 h.0)
text_done command input put put' status.ScheduleLimit taken write h = absurd (few command input taken.1 h.0)
text_done command input put put' (status.NoLosses why) taken write h = absurd (lacks-none command input why taken.1 h.0)
text_done command input put put' (status.Absent what) taken write h = inr (of_captured what command input put put' h, (what, refl))
