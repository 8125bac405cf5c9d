-- The summary of a grid's network is the text of its run.
use Rattle.std.proofs.Common.{◌≡◌, ℕ, Result, Ok, Err, IsOkAnd, refl}
use Rattle.model_network.specs.Networks.{Network}
use Rattle.network_lab.specs.LabNets.{seen_of}
use Rattle.lab_script.specs.declared.reason.ScriptFault.{ScriptFault}
use Rattle.lab_grid.specs.declared.summary.Summary.{Summary}
use Rattle.lab_grid.specs.GridRuns.{IsSummary, grid_end}
use Rattle.lab_grid.specs.SummaryText.{summary_text}
use Rattle.isis_daemon.specs.GridEnds.{IsGridText}

at-end : (size : ℕ) (end : Result Network ScriptFault) (summary : Summary) → IsOkAnd end (λ net. IsSummary size (seen_of net) summary) → IsOkAnd end (λ net. (s : Summary) × IsSummary size (seen_of net) s × (summary_text summary ≡ summary_text s))
at-end size (Ok net) summary is = (summary, is, refl)
at-end size (Err fault) summary is = is

pub is-grid-text : (size : ℕ) (summary : Summary) → IsOkAnd (grid_end size) (λ net. IsSummary size (seen_of net) summary) → IsGridText size (summary_text summary)
is-grid-text size summary is = at-end size (grid_end size) summary is
