-- The headline, from the report that was written and from what holds after each event.
use Rattle.std.proofs.Common.{◌≡◌, ℕ, List, Result, Ok, Err, IsOkAnd, refl}
use Rattle.isis_edge.specs.Told.{Wrote}
use Rattle.model_network.specs.Networks.{Network}
use Rattle.network_lab.specs.LabNets.{seen_of}
use Rattle.lab_script.specs.declared.reason.ScriptFault.{ScriptFault}
use Rattle.lab_script.specs.declared.script.Script.{Script}
use Rattle.lab_script.specs.declared.script.Script.TheVariants.{Keys, Lab}
use Rattle.lab_script.specs.LabScripts.{LabScript}
use Rattle.lab_script.specs.Scripts.{◌>>=◌, script_of}
use Rattle.lab_text.specs.LabRuns.{end_of}
use Rattle.lab_text.specs.LabClaims.{IsClaimedRun}
use Rattle.lab_text.specs.Claimed.{IsClaimedScript}
use Rattle.lab_text.specs.Runs.{IsReport, RunEnds}
use Rattle.lab_grid.specs.declared.summary.Summary.{Summary}
use Rattle.lab_grid.specs.GridText.{grid_text}
use Rattle.lab_grid.specs.GridRuns.{IsSummary, end_in, grid_end, IsClaimedIn, IsClaimedGrid}
use Rattle.lab_grid.specs.SummaryText.{summary_text}
use Rattle.isis_daemon.specs.Headline.{RunHolds, ScriptHolds, IsHeadline, IsGridHeadline}

-- what holds of a run, in the headline's parts
run-holds : (script : LabScript) (net : Network) → end_of script ≡ Ok net → IsClaimedRun script → RunHolds script net
run-holds script net ends claimed = record {
  ends = ends;
  leads = claimed.leads net ends;
  links = λ first rest e. (claimed.each first rest e).links;
  groups = λ first rest e. (claimed.each first rest e).groups;
  sweeps = λ first rest e. (claimed.each first rest e).sweeps;
  bodies = λ first rest e. (claimed.each first rest e).bodies;
  within = claimed.within net ends;
}

script-holds : (script : Script) (text : List ℕ) → IsReport script text → IsClaimedScript script → ScriptHolds script text
script-holds (Keys script) text report claimed = report
script-holds (Lab script) text report claimed = record {
  net = report.net;
  held = run-holds script report.net report.ends claimed;
  routes = report.routes;
  best = report.are_all;
  text_is = report.text_is;
}

-- a script was read, and its report written
pub is-headline : (input : List ℕ) (script : Script) (before now : List ℕ) → script_of input ≡ Ok script → RunEnds script before now (Ok tt) → IsClaimedScript script → IsHeadline input before now
is-headline input script before now read ends claimed = record {
  script = script;
  read = read;
  text = ends.0;
  written = ends.2;
  holds = script-holds script ends.0 ends.1 claimed;
}

at-end : (size : ℕ) (summary : Summary) (before now : List ℕ) (script : LabScript) → script_of (grid_text size) ≡ Ok (Lab script) → IsClaimedRun script → (end : Result Network ScriptFault) → end_of script ≡ end → IsOkAnd end (λ net. IsSummary size (seen_of net) summary) → Wrote before now (summary_text summary) → IsGridHeadline size before now
at-end size summary before now script read claimed (Ok net) e is wrote = record {
  script = script;
  read = read;
  net = net;
  held = run-holds script net e claimed;
  summary = summary;
  summary_is = is;
  written = wrote;
}
at-end size summary before now script read claimed (Err fault) e is wrote = absurd is

at-read : (size : ℕ) (summary : Summary) (before now : List ℕ) (read : Result Script ScriptFault) → script_of (grid_text size) ≡ read → IsOkAnd read IsClaimedIn → IsOkAnd (read >>= end_in) (λ net. IsSummary size (seen_of net) summary) → Wrote before now (summary_text summary) → IsGridHeadline size before now
at-read size summary before now (Ok (Lab script)) e claimed is wrote = at-end size summary before now script e claimed (end_of script) refl is wrote
at-read size summary before now (Ok (Keys script)) e claimed is wrote = absurd claimed
at-read size summary before now (Err fault) e claimed is wrote = absurd claimed

-- a grid's script was run, and its summary written
pub is-grid-headline : (size : ℕ) (summary : Summary) (before now : List ℕ) → IsClaimedGrid size → IsOkAnd (grid_end size) (λ net. IsSummary size (seen_of net) summary) → Wrote before now (summary_text summary) → IsGridHeadline size before now
is-grid-headline size summary before now claimed is wrote = at-read size summary before now (script_of (grid_text size)) refl claimed is wrote
