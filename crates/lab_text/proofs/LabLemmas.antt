-- The report of a lab script is that of the network at its end.
use Rattle.std.proofs.Common.{◌≡◌, ℕ, List, map, length, Result, Ok, Err, IfOk, OnOk, sym, ap, subst, ◌∙◌}
use Rattle.std.proofs.lemmas.List.{length-map}
use Rattle.std.specs.Borrow.{Bor}
use Rattle.route_table.specs.declared.route.Route.{Route}
use Rattle.model_network.specs.Networks.{Network}
use Rattle.lab_text.specs.Passed.{Seen, LabNet}
use Rattle.lab_script.specs.declared.reason.ScriptFault.{ScriptFault}
use Rattle.lab_script.specs.declared.script.Script.{Script}
use Rattle.lab_script.specs.declared.script.Script.TheVariants.{Lab}
use Rattle.lab_script.specs.declared.setup.LabLink.{LabLink}
use Rattle.lab_script.specs.declared.setup.LabRouter.{LabRouter}
use Rattle.lab_script.specs.LabScripts.{LabScript, router_names, link_names}
use Rattle.lab_script.specs.Scripts.{◌>>=◌}
use Rattle.line_cuts.specs.Words.{texts}
use Rattle.lab_report.specs.Reports.{AreAllRoutes}
use Rattle.lab_text.specs.LabRuns.{end_of}
use Rattle.lab_text.specs.Played.{IsLaid, ends_of}
use Rattle.lab_text.specs.LabClaims.{IsClaimedRun}
use Rattle.lab_text.specs.Claimed.{IsClaimedScript}
use Rattle.lab_text.specs.declared.fault.RunFault.{RunFault}
use Rattle.lab_text.specs.declared.fault.RunFault.TheVariants as run
use Rattle.lab_text.specs.LabReports.{report_by, IsLabReport, Tells}
use Rattle.lab_text.specs.Playing.{PlayedTo, IsPlayed, IsLaidBy}

next : Result Network ScriptFault → Result (Unit {0}) ScriptFault
next r = r >>= λ net. Ok tt

played-tells : (script : LabScript) (r : Result LabNet RunFault) → PlayedTo (end_of script) r → Tells script r
unfolding next
played-tells script (Ok net) p = (p.0, p.1, p.2.seen)
played-tells script (Err run.OutOfMemory) p = tt
played-tells script (Err run.Write) p = elim p [ ]
played-tells script (Err (run.Refused line reason)) p = ap next p
played-tells script (Err (run.Limit which)) p = ap next p

-- a script that is this lab script is played to what this one tells
pub script-tells : (script : Script) (lab : LabScript) (r : Result LabNet RunFault) → script ≡ Lab lab → IsPlayed script r → Tells lab r
script-tells script lab r e p = played-tells lab r (subst (λ (s : Script). IsPlayed s r) e p)

-- the same of the routers and links, and of what is claimed
laid-by : (script : Script) (lab : LabScript) (r : Result LabNet RunFault) → script ≡ Lab lab → IfOk r (λ net. IsLaidBy script net.seen) → IfOk r (λ net. IsLaid (length lab.routers) lab.links net.seen)
laid-by script lab r e laid = subst (λ (s : Script). IfOk r (λ net. IsLaidBy s net.seen)) e laid

laid-routers : (lab : LabScript) (r : Result LabNet RunFault) → IfOk r (λ net. IsLaid (length lab.routers) lab.links net.seen) → IfOk r (λ net. length net.seen.routers ≡ length lab.routers)
laid-routers lab (Ok net) laid = laid.routers_are
laid-routers lab (Err fault) laid = tt

laid-links : (lab : LabScript) (r : Result LabNet RunFault) → IfOk r (λ net. IsLaid (length lab.routers) lab.links net.seen) → IfOk r (λ net. net.seen.links ≡ map ends_of lab.links)
laid-links lab (Ok net) laid = laid.links_are
laid-links lab (Err fault) laid = tt

pub script-routers : (script : Script) (lab : LabScript) (r : Result LabNet RunFault) → script ≡ Lab lab → IfOk r (λ net. IsLaidBy script net.seen) → IfOk r (λ net. length net.seen.routers ≡ length lab.routers)
script-routers script lab r e laid = laid-routers lab r (laid-by script lab r e laid)

pub script-links : (script : Script) (lab : LabScript) (r : Result LabNet RunFault) → script ≡ Lab lab → IfOk r (λ net. IsLaidBy script net.seen) → IfOk r (λ net. net.seen.links ≡ map ends_of lab.links)
script-links script lab r e laid = laid-links lab r (laid-by script lab r e laid)

pub script-claimed : (script : Script) (lab : LabScript) (r : Result LabNet RunFault) → script ≡ Lab lab → OnOk r (IsClaimedScript script) → OnOk r (IsClaimedRun lab)
script-claimed script lab r e claimed = subst (λ (s : Script). OnOk r (IsClaimedScript s)) e claimed

-- a text of what is seen, with the routes of its routers, is a report of the script
pub is-report : (script : LabScript) (net : LabNet) (routes : List (List Route)) → Tells script (Ok net) → AreAllRoutes net.seen.routers routes → (text : List ℕ) → text ≡ report_by script routes net.seen → IsLabReport script text
is-report script net routes t all text e = record {
  net = t.0;
  ends = t.1;
  routes = routes;
  are_all = subst (λ (s : Seen). AreAllRoutes s.routers routes) (sym t.2) all;
  text_is = e ∙ ap (report_by script routes) (sym t.2);
}

pub names-count : (names : List (Bor (List ℕ))) (routers : List LabRouter) → texts names ≡ router_names routers → length names ≡ length routers
names-count names routers e = sym (length-map names (λ (n : Bor (List ℕ)). n.now)) ∙ ap (λ (xs : List (List ℕ)). length xs) e ∙ length-map routers (λ (r : LabRouter). r.name)

pub links-count : (names : List (Bor (List ℕ))) (links : List LabLink) → texts names ≡ link_names links → length names ≡ length links
links-count names links e = sym (length-map names (λ (n : Bor (List ℕ)). n.now)) ∙ ap (λ (xs : List (List ℕ)). length xs) e ∙ length-map links (λ (l : LabLink). l.name)
