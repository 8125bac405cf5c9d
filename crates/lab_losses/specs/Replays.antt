-- A script's network in its run (own).
use Rattle.std.specs.Prelude.{◌≡◌, Bool, false, Result, Ok, Err, None}
use Rattle.model_network.specs.Networks.{Network}
use Rattle.network_lab.specs.LabNets.{LabNet, StandsFor}
use Rattle.lab_keys.specs.declared.faults.LabFault.{LabFault}
use Rattle.lab_keys.specs.declared.faults.LabFault.TheVariants as fault
use Rattle.lab_keys.specs.declared.faults.LimitName.TheVariants as limit
use Rattle.losses.specs.declared.player.Stop.{Stop}
use Rattle.losses.specs.declared.player.Stop.TheVariants as stop
use Rattle.lab_script.specs.LabScripts.{LabScript}
use Rattle.lab_script.specs.declared.reason.ScriptFault.{ScriptFault}
use Rattle.lab_script.specs.declared.reason.ScriptFault.TheVariants.{Refused, Limit, OutOfMemory}
use Rattle.lab_text.specs.LabRuns.{end_of}

-- It stands for a network of the definitions, and wasn't stopped. Where nothing was done to it since the
-- script's end, that is the network there (own).
pub record IsReplay (script : LabScript) (went_on : Bool) (now : LabNet) (net : Network) : Type 0 where
  pub stands : StandsFor net now
  pub running : now.stopped ≡ None
  pub first : went_on ≡ false → end_of script ≡ Ok net

-- what stops a run: a limit, or memory; an event that is refused doesn't
abbrev pub stop_of : LabFault → Result (Unit {0}) Stop
stop_of (fault.Limit limit.Datagrams) = Err stop.Limit
stop_of fault.OutOfMemory = Err stop.OutOfMemory
stop_of other = Ok tt

-- a script is refused so; want of memory says nothing of it
abbrev pub IsRefusalOf : Result Network ScriptFault → ScriptFault → Type 0
IsRefusalOf end OutOfMemory = Unit {0}
IsRefusalOf end (Refused line reason) = end ≡ Err (Refused line reason)
IsRefusalOf end (Limit which) = end ≡ Err (Limit which)
