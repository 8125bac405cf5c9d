-- The run of a keys script: its network, its events one after another, and its report (own).
use Rattle.std.specs.Prelude.{ℕ, List, [], ◌∷◌, length, Result, Ok, Err, if◌then◌else◌}
use Rattle.lab_keys.specs.KeysNet.{Net, empty_net, with_link, with_copy, with_pass, is_at}
use Rattle.lab_script.specs.declared.events.EventLine.{EventLine}
use Rattle.lab_script.specs.declared.events.KeyEvent.{KeyEvent}
use Rattle.lab_script.specs.declared.events.KeyEvent.TheVariants.{Issue, Pass}
use Rattle.lab_script.specs.declared.reason.Reason.TheVariants.{NotSent}
use Rattle.lab_script.specs.declared.reason.ScriptFault.{ScriptFault}
use Rattle.lab_script.specs.declared.reason.ScriptFault.TheVariants.{Refused}
use Rattle.lab_script.specs.KeysJudged.{KeysScript}
use Rattle.lab_text.specs.KeysReport.{report_of_net}
use Rattle.lab_script.specs.Scripts.{◌>>=◌}

-- a network of so many routers, without links
abbrev pub routers_only : ℕ → Net
routers_only count = record empty_net { routers = count }

abbrev pub with_links : Net → List (ℕ × ℕ) → Net
with_links net [] = net
with_links net (link ∷ links) = with_links (with_link net link.0 link.1) links

-- the network of a script before its events
abbrev pub laid_out : KeysScript → Net
laid_out script = with_links (routers_only (length script.routers)) script.links

-- the network after an event; a copy that isn't where it is passed from is refused
abbrev pub play_event : Net → ℕ → KeyEvent → Result Net ScriptFault
play_event net line (Issue router id key) = Ok (with_copy net router id key)
play_event net line (Pass copy from to) =
    if is_at net copy from then Ok (with_pass net copy to) else Err (Refused line NotSent)

abbrev pub play_line : Net → EventLine → Result Net ScriptFault
play_line net line = play_event net line.line line.event

-- the network after all events: the first that is refused is told
unfoldable pub play_all : Net → List EventLine → Result Net ScriptFault
play_all net [] = Ok net
play_all net (line ∷ events) = play_line net line >>= λ more. play_all more events

-- the network at the end of a script, or the line that is refused
abbrev pub end_of : KeysScript → Result Net ScriptFault
end_of script = play_all (laid_out script) script.events

-- the report of a keys script, or the line that is refused
abbrev pub keys_report : KeysScript → Result (List ℕ) ScriptFault
keys_report script = end_of script >>= λ net. Ok (report_of_net script.routers net)

-- what a keys script comes to: an end, or the line that is refused
abbrev pub keys_outcome : KeysScript → Result (Unit {0}) ScriptFault
keys_outcome script = end_of script >>= λ net. Ok tt
