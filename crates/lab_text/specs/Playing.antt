-- The network at the end of a lab script, or why there is none (own).
use Rattle.std.specs.Prelude.{◌≡◌, length, Result, Ok, Err, None}
use Rattle.model_network.specs.Networks.{Network}
use Rattle.lab_text.specs.Passed.{LabNet, Seen, StandsFor}
use Rattle.lab_script.specs.declared.reason.ScriptFault.{ScriptFault}
use Rattle.lab_script.specs.declared.reason.ScriptFault.TheVariants.{Refused, Limit}
use Rattle.lab_script.specs.declared.script.Script.{Script}
use Rattle.lab_script.specs.declared.script.Script.TheVariants.{Keys, Lab}
use Rattle.lab_text.specs.LabRuns.{end_of}
use Rattle.lab_text.specs.Played.{IsLaid}
use Rattle.lab_text.specs.declared.fault.RunFault.{RunFault}
use Rattle.lab_text.specs.declared.fault.RunFault.TheVariants as run

-- a network stands for the expected one, or the answer says why there is none; nothing is written, so
-- no write fails
abbrev pub PlayedTo : Result Network ScriptFault → Result LabNet RunFault → Type 0
PlayedTo expected (Ok after) =
    (net : Network) × (expected ≡ Ok net) × StandsFor net after × (after.stopped ≡ None)
PlayedTo expected (Err (run.Refused line reason)) = expected ≡ Err (Refused line reason)
PlayedTo expected (Err (run.Limit which)) = expected ≡ Err (Limit which)
PlayedTo expected (Err run.Write) = ⊥
PlayedTo expected (Err run.OutOfMemory) = Unit {0}

-- a lab script is played to the end of its run; a keys script isn't
abbrev pub IsPlayed : Script → Result LabNet RunFault → Type 0
IsPlayed (Keys script) played = ⊥
IsPlayed (Lab script) played = PlayedTo (end_of script) played

-- what is seen of a network has the routers and links of a lab script
abbrev pub IsLaidBy : Script → Seen → Type 0
IsLaidBy (Keys script) s = ⊥
IsLaidBy (Lab script) s = IsLaid (length script.routers) script.links s
