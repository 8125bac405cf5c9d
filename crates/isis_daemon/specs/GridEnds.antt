-- How the run of a grid ends (own).
use Rattle.std.specs.Prelude.{◌≡◌, ℕ, List, Err, IsOkAnd, ◌⊎◌}
use Rattle.isis_edge.specs.Told.{WrotePrefix}
use Rattle.network_lab.specs.LabNets.{seen_of}
use Rattle.lab_script.specs.declared.reason.ScriptFault.TheVariants.{Limit}
use Rattle.lab_grid.specs.declared.summary.Summary.{Summary}
use Rattle.lab_grid.specs.GridRuns.{IsSummary, grid_end}
use Rattle.lab_grid.specs.SummaryText.{summary_text}
use Rattle.isis_daemon.specs.Headline.{IsGridHeadline}
use Rattle.isis_daemon.specs.declared.status.Status.{Status}
use Rattle.isis_daemon.specs.declared.status.Status.TheVariants as status

-- a text is the summary of the network at the end of the script that a grid's text is read as
abbrev pub IsGridText : ℕ → List ℕ → Type 0
IsGridText size text = IsOkAnd (grid_end size) (λ net. (summary : Summary)
    × IsSummary size (seen_of net) summary × (text ≡ summary_text summary))

abbrev pub WroteGrid : ℕ → (List ℕ → Type 0) → Type 0
WroteGrid size Written = (text : List ℕ) × IsGridText size text × Written text

-- how the run of a grid ends, which reads no input: the whole summary was written, of a grid
-- for which the headline holds, a prefix of it, or nothing
abbrev pub GridEnds : ℕ → (put put' : List ℕ) → Status → Type 0
GridEnds size put put' status.Done = IsGridHeadline size put put'
GridEnds size put put' status.Usage = ⊥
GridEnds size put put' (status.ScriptRefused line reason) = ⊥
GridEnds size put put' status.ReadFault = ⊥
GridEnds size put put' status.WriteFault = WroteGrid size (WrotePrefix put put')
GridEnds size put put' status.TooLong = ⊥
GridEnds size put put' status.OutOfMemory =
    (put' ≡ put) ⊎ WroteGrid size (WrotePrefix put put')
GridEnds size put put' (status.ConfigRefused what key) = ⊥
GridEnds size put put' status.NotStarted = ⊥
GridEnds size put put' (status.LabLimit which) =
    (grid_end size ≡ Err (Limit which)) × (put' ≡ put)
GridEnds size put put' (status.WeaveRefused journal entry reason) = ⊥
GridEnds size put put' (status.NoWalk reason) = ⊥
GridEnds size put put' status.ScheduleLimit = ⊥
GridEnds size put put' (status.NoLosses reason) = ⊥
GridEnds size put put' (status.Absent what) = ⊥
