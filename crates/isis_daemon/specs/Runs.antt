-- How a run of the program ends (own).
use Rattle.std.specs.Prelude.{◌≡◌, ℕ, ◌+◌, ◌<◌, ◌≤◌, Bool, true, List, length, Option, Some, None, Result, Err, IsOk, IsOkAnd, ◌⊎◌}
use Rattle.isis_edge.specs.Told.{Took, Wrote}
use Rattle.isis_base.specs.declared.identifiers.SystemId.{SystemId}
use Rattle.isis_base.specs.declared.level.Level.{Level}
use Rattle.lab_script.specs.declared.reason.ScriptFault.{ScriptFault}
use Rattle.lab_script.specs.declared.reason.ScriptFault.TheVariants.{Refused, Limit}
use Rattle.lab_script.specs.Scripts.{◌>>=◌, script_of}
use Rattle.lab_text.specs.Runs.{IsReport, outcome_of, WrotePart}
use Rattle.isis_daemon.specs.declared.command.Command.{Command}
use Rattle.isis_daemon.specs.declared.command.Command.TheVariants.{Lab, Show, Merge, Captured, Timeline, Losses}
use Rattle.isis_daemon.specs.declared.command.CapturedText.{CapturedText}
use Rattle.isis_daemon.specs.declared.command.CapturedText.TheVariants.{Routes, Routes6, Alternates}
use Rattle.isis_daemon.specs.declared.status.Status.{Status}
use Rattle.isis_daemon.specs.declared.status.Status.TheVariants as status
use Rattle.capture_text.specs.declared.absence.Absence.{Absence}
use Rattle.capture_text.specs.TextEnds.{IsAny}
use Rattle.capture_text.specs.RoutesText.{IsRoutesText}
use Rattle.capture_text.specs.Routes6Text.{IsRoutes6Text}
use Rattle.capture_text.specs.AlternatesText.{IsAlternatesText}
use Rattle.lab_losses.specs.declared.reason.LossesReason.{LossesReason}
use Rattle.isis_daemon.specs.LossesRuns.{HasLosses, HasTooMany, LacksLosses, RefusesLosses, TellsLosses}
use Rattle.isis_daemon.specs.MergeRuns.{CanBeMerged, LacksParts, MergesTo, RefusesTexts}
use Rattle.isis_daemon.specs.TimelineRuns.{HasNoTimeline, TellsTimeline}
use Rattle.walk_text.specs.declared.reason.WalkReason.{WalkReason}
use Rattle.isis_daemon.specs.ShowText.{shown_text}
use Rattle.isis_daemon.specs.Headline.{IsHeadline}

-- how many octets an input may have
abbrev pub input_limit : ℕ
input_limit = 16777216

-- a text of captured LSPs: the IPv4 routes, the IPv6 routes or the alternates of a system, of which the LSPs lack this
abbrev pub IsCapturedText : CapturedText → Level → SystemId → List ℕ → Option Absence → List ℕ → Type 0
IsCapturedText Routes level system input = IsRoutesText level system input
IsCapturedText Routes6 level system input = IsRoutes6Text level system input
IsCapturedText Alternates level system input = IsAlternatesText level system input

-- a text is what a command makes of an input: of a script its report, or what lost deliveries do to its last line, or
-- a timeline; of PDUs
-- their fields; of texts of losses that of the whole; and of captured LSPs what they say of a system
abbrev pub IsTextOf : Command → List ℕ → List ℕ → Type 0
IsTextOf Lab input text = IsOkAnd (script_of input) (λ script. IsReport script text)
IsTextOf (Show long) input text = text ≡ shown_text long input
IsTextOf Merge input text = MergesTo input text
IsTextOf (Captured what level system) input text = IsAny (IsCapturedText what level system input) text
IsTextOf (Timeline address) input text = TellsTimeline address input text
IsTextOf (Losses most part) input text = TellsLosses most part input text

-- what a script comes to: an end, or what refuses it
abbrev pub script_outcome : List ℕ → Result (Unit {0}) ScriptFault
script_outcome input = script_of input >>= λ script. outcome_of script

-- what refuses the input of a command
abbrev pub IsRefusedBy : Command → List ℕ → ScriptFault → Type 0
IsRefusedBy Lab input fault = script_outcome input ≡ Err fault
IsRefusedBy (Show long) input fault = ⊥
IsRefusedBy Merge input fault = RefusesTexts input fault
IsRefusedBy (Captured what level system) input fault = ⊥
IsRefusedBy (Timeline address) input fault = script_outcome input ≡ Err fault
IsRefusedBy (Losses most part) input fault = RefusesLosses most part input fault

-- a command has too many schedules of lost deliveries
abbrev pub AreTooMany : Command → List ℕ → Type 0
AreTooMany Lab input = ⊥
AreTooMany (Show long) input = ⊥
AreTooMany Merge input = ⊥
AreTooMany (Captured what level system) input = ⊥
AreTooMany (Timeline address) input = ⊥
AreTooMany (Losses most part) input = HasTooMany most part input

-- a command has no lost deliveries to tell of, for this reason
abbrev pub Lacks : Command → List ℕ → LossesReason → Type 0
Lacks Lab input reason = ⊥
Lacks (Show long) input reason = ⊥
Lacks Merge input reason = LacksParts input reason
Lacks (Captured what level system) input reason = ⊥
Lacks (Timeline address) input reason = ⊥
Lacks (Losses most part) input reason = LacksLosses input reason

-- a command follows no packets, for this reason
abbrev pub HasNoPackets : Command → List ℕ → WalkReason → Type 0
HasNoPackets Lab input reason = ⊥
HasNoPackets (Show long) input reason = ⊥
HasNoPackets Merge input reason = ⊥
HasNoPackets (Captured what level system) input reason = ⊥
HasNoPackets (Timeline address) input reason = HasNoTimeline input reason
HasNoPackets (Losses most part) input reason = ⊥

-- the input gave no more than its first octets, at most one more than it may have
abbrev pub IsTakenWithin : (gave gave' : List ℕ) → Type 0
IsTakenWithin gave gave' =
    (octets : List ℕ) × (length octets ≤ input_limit + 1) × Took gave gave' octets

-- the input gave these octets and then its end, and they weren't too many
abbrev pub IsReadWhole : (gave gave' : List ℕ) → (ended : Bool) → List ℕ → Type 0
IsReadWhole gave gave' ended octets =
    (length octets ≤ input_limit) × Took gave gave' octets × (ended ≡ true)

-- why the input wasn't read whole: a read failed, it gave too many octets, or memory ran out
abbrev pub IsNotRead : (gave gave' : List ℕ) → Status → Type 0
IsNotRead gave gave' status.ReadFault = Unit {0}
IsNotRead gave gave' status.TooLong =
    (octets : List ℕ) × (input_limit < length octets) × Took gave gave' octets
IsNotRead gave gave' status.OutOfMemory = Unit {0}
IsNotRead gave gave' status.Done = ⊥
IsNotRead gave gave' status.Usage = ⊥
IsNotRead gave gave' (status.ScriptRefused line reason) = ⊥
IsNotRead gave gave' status.WriteFault = ⊥
IsNotRead gave gave' (status.ConfigRefused what key) = ⊥
IsNotRead gave gave' status.NotStarted = ⊥
IsNotRead gave gave' (status.LabLimit which) = ⊥
IsNotRead gave gave' (status.WeaveRefused journal entry reason) = ⊥
IsNotRead gave gave' (status.NoWalk reason) = ⊥
IsNotRead gave gave' status.ScheduleLimit = ⊥
IsNotRead gave gave' (status.NoLosses reason) = ⊥
IsNotRead gave gave' (status.Absent what) = ⊥

-- how a run that reads an input ends, by how it ends on octets: the input wasn't read whole, and nothing was written; or it
-- was, and its octets come to this
abbrev pub OnInput : (On : List ℕ → Status → Type 0) → (gave gave' : List ℕ) → (ended : Bool)
    → (put put' : List ℕ) → Status → Type 0
OnInput On gave gave' ended put put' end = (IsNotRead gave gave' end × (put' ≡ put))
    ⊎ ((octets : List ℕ) × IsReadWhole gave gave' ended octets × On octets end)

-- the whole text was written
abbrev pub WroteText : Command → List ℕ → (put put' : List ℕ) → Type 0
WroteText command octets put put' =
    (text : List ℕ) × IsTextOf command octets text × Wrote put put' text

-- the whole text of captured LSPs was written, which lack this of the system
abbrev pub WroteCaptured : CapturedText → Level → SystemId → Option Absence → List ℕ → (put put' : List ℕ) → Type 0
WroteCaptured what level system absence octets put put' =
    (text : List ℕ) × IsCapturedText what level system octets absence text × Wrote put put' text

-- what done means: of a script its report was written, of whose run the headline holds; of another command its text, and
-- captured LSPs lack nothing of the system
abbrev pub IsDone : Command → List ℕ → (put put' : List ℕ) → Type 0
IsDone Lab octets put put' = IsHeadline octets put put'
IsDone (Show long) octets put put' = WroteText (Show long) octets put put'
IsDone Merge octets put put' = WroteText Merge octets put put'
IsDone (Captured what level system) octets put put' =
    WroteCaptured what level system None octets put put'
IsDone (Timeline address) octets put put' = WroteText (Timeline address) octets put put'
IsDone (Losses most part) octets put put' = WroteText (Losses most part) octets put put'

-- done, but captured LSPs lack this of the system
abbrev pub IsDoneBut : Absence → Command → List ℕ → (put put' : List ℕ) → Type 0
IsDoneBut absence Lab octets put put' = ⊥
IsDoneBut absence (Show long) octets put put' = ⊥
IsDoneBut absence Merge octets put put' = ⊥
IsDoneBut absence (Captured what level system) octets put put' =
    WroteCaptured what level system (Some absence) octets put put'
IsDoneBut absence (Timeline address) octets put put' = ⊥
IsDoneBut absence (Losses most part) octets put put' = ⊥

-- how a command's run on octets ends: the status has its cause in them; and the whole text was written, a prefix of it, or
-- nothing
abbrev pub EndsOn : Command → List ℕ → (put put' : List ℕ) → Status → Type 0
EndsOn command octets put put' status.Done = IsDone command octets put put'
EndsOn command octets put put' (status.ScriptRefused line reason) =
    IsRefusedBy command octets (Refused line reason) × (put' ≡ put)
EndsOn command octets put put' status.WriteFault = WrotePart (IsTextOf command octets) put put'
EndsOn command octets put put' status.OutOfMemory =
    (put' ≡ put) ⊎ WrotePart (IsTextOf command octets) put put'
EndsOn command octets put put' (status.LabLimit which) =
    IsRefusedBy command octets (Limit which) × (put' ≡ put)
EndsOn command octets put put' status.ScheduleLimit =
    AreTooMany command octets × (put' ≡ put)
EndsOn command octets put put' (status.NoLosses reason) =
    Lacks command octets reason × (put' ≡ put)
EndsOn command octets put put' status.Usage = ⊥
EndsOn command octets put put' status.ReadFault = ⊥
EndsOn command octets put put' status.TooLong = ⊥
EndsOn command octets put put' (status.ConfigRefused what key) = ⊥
EndsOn command octets put put' status.NotStarted = ⊥
EndsOn command octets put put' (status.WeaveRefused journal entry reason) = ⊥
EndsOn command octets put put' (status.NoWalk reason) =
    HasNoPackets command octets reason × (put' ≡ put)
EndsOn command octets put put' (status.Absent what) = IsDoneBut what command octets put put'

-- how a command's run ends, by what its input gave and its output was given, before and afterwards
abbrev pub Ends : Command → (gave gave' : List ℕ) → (ended : Bool) → (put put' : List ℕ) → Status
    → Type 0
Ends command gave gave' ended put put' end =
    OnInput (λ octets. EndsOn command octets put put') gave gave' ended put put' end

-- nothing is against a timeline: the script's run is neither refused nor limited, and it is a lab script
pub record HasTimeline (input : List ℕ) : Type 0 where
  pub runs : IsOk (script_outcome input)
  pub some : (reason : WalkReason) → HasNoTimeline input reason → ⊥

-- a command comes to its end on an input
abbrev pub ComesToEnd : Command → List ℕ → Type 0
ComesToEnd Lab input = IsOk (script_outcome input)
ComesToEnd (Show long) input = Unit {0}
ComesToEnd Merge input = CanBeMerged input
ComesToEnd (Captured what level system) input = Unit {0}
ComesToEnd (Timeline address) input = HasTimeline input
ComesToEnd (Losses most part) input = HasLosses most part input

-- an input that a command takes to its end
abbrev pub IsTaken : Command → List ℕ → Type 0
IsTaken command input = (length input ≤ input_limit) × ComesToEnd command input

-- done, or there was no memory for it
abbrev pub IsDoneUnlessMemory : Status → Type 0
IsDoneUnlessMemory end = (end ≡ status.Done) ⊎ (end ≡ status.OutOfMemory)

-- a text of captured LSPs is asked for
abbrev pub IsOfCaptured : Command → Type 0
IsOfCaptured Lab = ⊥
IsOfCaptured (Show long) = ⊥
IsOfCaptured Merge = ⊥
IsOfCaptured (Captured what level system) = Unit {0}
IsOfCaptured (Timeline address) = ⊥
IsOfCaptured (Losses most part) = ⊥

-- a command's whole text was written, though captured LSPs may lack something of the system; or there was no memory for it
abbrev pub IsWrittenUnlessMemory : Command → Status → Type 0
IsWrittenUnlessMemory command end =
    IsDoneUnlessMemory end ⊎ (IsOfCaptured command × ((what : Absence) × (end ≡ status.Absent what)))
