use Rattle.std.proofs.Common.{◌≡◌, ◌++◌, drop}
use Rattle.std.specs.List.{flat_map}
use Rattle.weave_text.specs.Named.{naming_in}
use Rattle.weave_text.specs.Written.{event_line}
use Rattle.weave_text.proofs.lines.add_events.Given as goal

-- what is written, and what is left
abbrev pub invariant-loop-place : goal.invariant-loop-place
invariant-loop-place l =
    l.text ++ flat_map (event_line (naming_in l.script) l.net.seen) (drop l.place l.schedule)
    ≡ l.fn.text ++ flat_map (event_line (naming_in l.script) l.net.seen) l.schedule
