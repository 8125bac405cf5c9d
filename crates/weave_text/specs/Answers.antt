-- Answers of calls that read, play and weave (own).
use Rattle.std.specs.Prelude.{◌≡◌, ℕ, List, Option, Result, Ok, Err, None}
use Rattle.lab_keys.specs.declared.faults.LimitName.{LimitName}
use Rattle.model_network.specs.Networks.{Network}
use Rattle.network_lab.specs.LabNets.{LabNet, StandsFor}
use Rattle.lab_script.specs.declared.reason.ScriptFault.{ScriptFault}
use Rattle.lab_script.specs.declared.reason.ScriptFault.TheVariants as script
use Rattle.lab_script.specs.declared.script.Script.{Script}
use Rattle.weave_text.specs.Blocks.{IsFaultOf}
use Rattle.weave_text.specs.declared.fault.WeaveTextFault.{WeaveTextFault}
use Rattle.weave_text.specs.declared.fault.WeaveTextFault.TheVariants.{Refused, Limit, NotWoven, Write, OutOfMemory}
use Rattle.weave_text.specs.Weavings.{Weaving, limit_of}
use Rattle.weave_text.specs.Weaves.{TellsWeaving, HasNoWeaving, PassesLimit}
use Rattle.weave_text.specs.Reasons.{fault_for}

-- what refuses a reading; of want of memory nothing is said
abbrev pub IsRefusedBy : ScriptFault → WeaveTextFault → Type 0
IsRefusedBy fault (Refused line reason) = fault ≡ script.Refused line reason
IsRefusedBy fault (Limit which) = fault ≡ script.Limit which
IsRefusedBy fault (NotWoven journal entry reason) = ⊥
IsRefusedBy fault Write = ⊥
IsRefusedBy fault OutOfMemory = Unit {0}

-- a network stands for the expected one, unless there was no memory for it
abbrev pub PlaysTo : Result Network ScriptFault → Result LabNet WeaveTextFault → Type 0
PlaysTo expected (Ok after) =
    (net : Network) × (expected ≡ Ok net) × StandsFor net after × (after.stopped ≡ None)
PlaysTo expected (Err (Refused line reason)) = expected ≡ Err (script.Refused line reason)
PlaysTo expected (Err (Limit which)) = expected ≡ Err (script.Limit which)
PlaysTo expected (Err (NotWoven journal entry reason)) = ⊥
PlaysTo expected (Err Write) = ⊥
PlaysTo expected (Err OutOfMemory) = Unit {0}

-- the limit that is passed by a text that can't be read as a script, for this
abbrev pub IsLimitTold : ScriptFault → Option LimitName → Type 0
IsLimitTold fault which =
    (script : Result Script ScriptFault) → IsFaultOf script fault → which ≡ limit_of script

-- a lab script whose schedule weaves the journals of a text that says this, or why there is none
abbrev pub Weaves : Result Weaving ScriptFault → Result (List ℕ) WeaveTextFault → Type 0
Weaves said (Ok text) = TellsWeaving said text
Weaves said (Err (Refused line reason)) = said ≡ Err (script.Refused line reason)
Weaves said (Err (Limit which)) = PassesLimit said which
Weaves said (Err (NotWoven journal entry reason)) =
    HasNoWeaving said (fault_for journal entry reason)
Weaves said (Err Write) = ⊥
Weaves said (Err OutOfMemory) = Unit {0}
