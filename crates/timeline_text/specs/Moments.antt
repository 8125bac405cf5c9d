-- The moments of a script: after each event line, and after each second of a line `run`. All of it own.
use Rattle.std.specs.Prelude.{ℕ, List, [], ◌∷◌, ◌++◌, map, Option, None, Result, Ok}
use Rattle.std.specs.List.{range_with_len}
use Rattle.model_network.specs.declared.word.PduWord.{PduWord}
use Rattle.model_network.specs.Networks.{Network}
use Rattle.model_network.specs.RunLines.{run_line}
use Rattle.network_lab.specs.Passed.{given}
use Rattle.lab_script.specs.declared.deeds.LabDeed.{LabDeed}
use Rattle.lab_script.specs.declared.deeds.LabDeed.TheVariants.{Run}
use Rattle.lab_script.specs.declared.deeds.LabLine.{LabLine}
use Rattle.lab_script.specs.declared.reason.ScriptFault.{ScriptFault}
use Rattle.lab_script.specs.LabScripts.{LabScript}
use Rattle.lab_text.specs.Layouts.{laid_out, opened}
use Rattle.lab_text.specs.LabRuns.{play_deed, ◌>>=◌}

-- a network after a line, or after a second of it: seconds of a line `run` count from 1, and 0 stands
-- for another event line; and the router that the line excepts
pub record Moment : Type 0 where
  pub line : ℕ
  pub second : ℕ
  pub except : Option ℕ
  pub net : Network

-- after so many seconds of a line `run`
abbrev pub second_of : ℕ → Option PduWord → Option ℕ → Network → ℕ → Moment
second_of line without except net second = record {
  line = line;
  second = second;
  except = except;
  net = run_line given without except second net;
}

-- after each of so many seconds
abbrev pub seconds_of : ℕ → Option PduWord → Option ℕ → ℕ → Network → List Moment
seconds_of line without except seconds net =
    map (second_of line without except net) (range_with_len 1 seconds)

-- after an event line
abbrev pub event_of : ℕ → Network → Moment
event_of line net = record { line = line; second = 0; except = None; net = net }

-- those of a line that leads from a network to the next
abbrev pub moments_at : ℕ → LabDeed → Network → Network → List Moment
moments_at line (Run seconds without except) net next = seconds_of line without except seconds net
moments_at line deed net next = event_of line next ∷ []

-- those of all lines, unless one of them is refused
unfoldable pub moments_from : Network → List LabLine → Result (List Moment) ScriptFault
moments_from net [] = Ok []
moments_from net (line ∷ lines) =
    play_deed net line.line line.deed
    >>= λ next. moments_from next lines
    >>= λ later. Ok (moments_at line.line line.deed net next ++ later)

abbrev pub moments_of : LabScript → Result (List Moment) ScriptFault
moments_of script = moments_from (opened (laid_out script)) script.lines
