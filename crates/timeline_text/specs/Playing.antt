-- What a part of a script adds to a timeline. All of it own.
use Rattle.std.specs.Prelude.{◌≡◌, ◌<◌, ℕ, List, [], ◌∷◌, length, Option, Some, None, Result, Ok, Err}
use Rattle.model_network.specs.Networks.{Network}
use Rattle.model_network.specs.RunLines.{run_line}
use Rattle.network_lab.specs.Passed.{given}
use Rattle.network_lab.specs.LabNets.{LabNet, StandsFor}
use Rattle.lab_keys.specs.declared.faults.LimitName.TheVariants as limit
use Rattle.lab_script.specs.declared.deeds.LabDeed.{LabDeed}
use Rattle.lab_script.specs.declared.deeds.LabDeed.TheVariants.{Run}
use Rattle.lab_script.specs.declared.deeds.LabLine.{LabLine}
use Rattle.lab_script.specs.declared.reason.ScriptFault.{ScriptFault}
use Rattle.lab_script.specs.declared.reason.ScriptFault.TheVariants.{Refused, Limit, OutOfMemory}
use Rattle.lab_text.specs.LabRuns.{play_deed}
use Rattle.timeline_text.specs.declared.moments.RunLine.{RunLine}
use Rattle.timeline_text.specs.Moments.{Moment, moments_at, moments_from}
use Rattle.timeline_text.specs.Pages.{PageOf, new_page, AreAdded}

-- what a line `run` says
abbrev pub run_of : LabDeed → Option RunLine
run_of (Run seconds without except) =
    Some (record { seconds = seconds; without = without; except = except })
run_of deed = None

-- the network after so many seconds of it
abbrev pub run_by : RunLine → ℕ → Network → Network
run_by run seconds net = run_line given run.without run.except seconds net

-- a line was played from a network, and its moments were added; or it is refused
abbrev pub LineEnds : ℕ → ℕ → LabDeed → Network → (after : LabNet) → (old new : PageOf)
    → Result (Unit {0}) ScriptFault → Type 0
LineEnds address line deed net after old new (Ok done) =
    (next : Network) × (play_deed net line deed ≡ Ok next) × StandsFor next after
    × AreAdded address (moments_at line deed net next) old new
LineEnds address line deed net after old new (Err (Refused number reason)) =
    play_deed net line deed ≡ Err (Refused number reason)
LineEnds address line deed net after old new (Err (Limit which)) =
    play_deed net line deed ≡ Err (Limit which)
LineEnds address line deed net after old new (Err OutOfMemory) = Unit {0}

-- one second more of a line `run` passed, and the moment after it was added, by its number; or it sent
-- too many datagrams
abbrev pub SecondEnds : ℕ → ℕ → RunLine → ℕ → Network → (after : LabNet) → (old new : PageOf)
    → Result (Unit {0}) ScriptFault → Type 0
SecondEnds address line run second net after old new (Ok done) =
    StandsFor (run_by run 1 net) after
    × AreAdded address (record {
      line = line;
      second = second;
      except = run.except;
      net = run_by run 1 net;
    } ∷ []) old new
SecondEnds address line run second net after old new (Err (Limit limit.Datagrams)) =
    262144 < length (run_by run 1 net).datagrams
SecondEnds address line run second net after old new (Err OutOfMemory) = Unit {0}
SecondEnds address line run second net after old new (Err fault) = ⊥

-- lines were played from a network, and their moments were added; or one of them is refused
abbrev pub LinesEnd : ℕ → List LabLine → Network → (old new : PageOf)
    → Result (Unit {0}) ScriptFault → Type 0
LinesEnd address lines net old new (Ok done) =
    (moments : List Moment) × (moments_from net lines ≡ Ok moments) × AreAdded address moments old new
LinesEnd address lines net old new (Err (Refused number reason)) =
    moments_from net lines ≡ Err (Refused number reason)
LinesEnd address lines net old new (Err (Limit which)) = moments_from net lines ≡ Err (Limit which)
LinesEnd address lines net old new (Err OutOfMemory) = Unit {0}

-- all lines were played from a network, and the page has their moments; or one of them is refused
abbrev pub PageEnds : ℕ → List LabLine → Network → Result PageOf ScriptFault → Type 0
PageEnds address lines net (Ok page) = LinesEnd address lines net new_page page (Ok tt)
PageEnds address lines net (Err fault) = LinesEnd address lines net new_page new_page (Err fault)
