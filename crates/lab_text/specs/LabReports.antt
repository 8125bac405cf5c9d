-- The report of a lab script (own).
use Rattle.std.specs.Prelude.{◌≡◌, ℕ, List, Result, Ok, Err}
use Rattle.route_table.specs.declared.route.Route.{Route}
use Rattle.model_network.specs.Networks.{Network}
use Rattle.lab_text.specs.Passed.{Seen, LabNet, seen_of}
use Rattle.lab_script.specs.declared.reason.ScriptFault.{ScriptFault}
use Rattle.lab_script.specs.declared.reason.ScriptFault.TheVariants.{Refused, Limit}
use Rattle.lab_script.specs.LabScripts.{LabScript, router_names, link_names}
use Rattle.lab_script.specs.Scripts.{◌>>=◌}
use Rattle.lab_report.specs.Reports.{AreAllRoutes, report_text}
use Rattle.lab_text.specs.LabRuns.{end_of, dumps_of}
use Rattle.lab_text.specs.declared.fault.RunFault.{RunFault}
use Rattle.lab_text.specs.declared.fault.RunFault.TheVariants as run

-- the report of what is seen of a network by a script's names, with these routes of its routers and
-- the datagrams that its lines tell
unfoldable pub report_by : LabScript → List (List Route) → Seen → List ℕ
report_by script routes seen =
    report_text (router_names script.routers) (link_names script.links) (dumps_of script.lines)
    routes seen

-- a text is the report of the network at the end of a lab script, with its routers' routes
pub record IsLabReport (script : LabScript) (text : List ℕ) : Type 0 where
  pub net : Network
  pub ends : end_of script ≡ Ok net
  pub routes : List (List Route)
  pub are_all : AreAllRoutes net.routers routes
  pub text_is : text ≡ report_by script routes (seen_of net)

-- what a lab script comes to: an end, or what refuses it while it runs
abbrev pub lab_outcome : LabScript → Result (Unit {0}) ScriptFault
lab_outcome script = end_of script >>= λ net. Ok tt

-- a network is seen as the one at the end of the script is, unless there was no memory for it
abbrev pub Tells : LabScript → Result LabNet RunFault → Type 0
Tells script (Ok net) =
    (end : Network) × (end_of script ≡ Ok end) × (seen_of end ≡ net.seen)
Tells script (Err run.OutOfMemory) = Unit {0}
Tells script (Err run.Write) = ⊥
Tells script (Err (run.Refused line reason)) = lab_outcome script ≡ Err (Refused line reason)
Tells script (Err (run.Limit which)) = lab_outcome script ≡ Err (Limit which)
