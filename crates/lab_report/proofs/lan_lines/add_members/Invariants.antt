use Rattle.std.proofs.Common.{◌≡◌, ◌++◌, drop}
use Rattle.model_router.specs.Places.{nth}
use Rattle.model_network.specs.RunLines.{ends_of}
use Rattle.lab_report.specs.LanLines.{member_lines}
use Rattle.lab_report.specs.Names.{texts}
use Rattle.lab_report.proofs.lan_lines.add_members.Given as goal

-- what is written, and what is left
abbrev pub invariant-loop-place : goal.invariant-loop-place
invariant-loop-place l =
    l.page ++ member_lines (texts l.routers) l.name l.net.seen l.lan l.level (drop l.place (ends_of (nth l.net.seen.links l.lan)))
    ≡ l.fn.page ++ member_lines (texts l.routers) l.name l.net.seen l.lan l.level (ends_of (nth l.net.seen.links l.lan))
