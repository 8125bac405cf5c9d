use Rattle.std.proofs.Common.{◌≡◌, ◌++◌, drop}
use Rattle.std.specs.List.{flat_map}
use Rattle.lab_script.specs.Scripts.{names_in}
use Rattle.trace_text.specs.TraceText.{at_line}
use Rattle.trace_text.proofs.lines.add_places.Given as goal

-- what is written, and what is left
abbrev pub invariant-loop-place : goal.invariant-loop-place
invariant-loop-place l =
    l.text ++ flat_map (at_line (names_in l.script) l.trace.forwarders.items l.address) (drop l.place-index l.trace.traced.places.items)
    ≡ l.fn.text ++ flat_map (at_line (names_in l.script) l.trace.forwarders.items l.address) l.trace.traced.places.items
