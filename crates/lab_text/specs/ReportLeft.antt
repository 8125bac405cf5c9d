-- What is still to come of a report, and how many calls make it at most (own).
use Rattle.std.specs.Prelude.{ℕ, suc, ◌+◌, List, [], ◌∷◌, ◌++◌, length}
use Rattle.std.specs.List.{flat_map}
use Rattle.lab_keys.specs.KeysNet.{Net}
use Rattle.lab_keys.specs.KeysHeld.{keys_at}
use Rattle.lab_text.specs.declared.left.KeysReport.{KeysReport}
use Rattle.lab_text.specs.KeysReport.{key_line, router_lines}
use Rattle.line_cuts.specs.Words.{texts}

-- the head, the keys of the router that comes next, and the lines of those behind it
abbrev pub lines_left : KeysReport → List ℕ
lines_left report =
    report.head.now ++ (flat_map (key_line report.name.now) report.entries.now
    ++ router_lines report.net.now report.router (texts report.names.now))

-- a call for each router, and one for each of its keys
abbrev pub router_calls : Net → ℕ → List (List ℕ) → ℕ
router_calls net router [] = 0
router_calls net router (name ∷ names) =
    suc (length (keys_at net router) + router_calls net (router + 1) names)

abbrev pub calls_left : KeysReport → ℕ
calls_left report =
    length report.entries.now + router_calls report.net.now report.router (texts report.names.now)
