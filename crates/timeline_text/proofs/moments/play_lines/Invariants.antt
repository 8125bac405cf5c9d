use Rattle.std.proofs.Common.{◌≡◌, None, length, drop}
use Rattle.std.specs.List.{AllByRecursion}
use Rattle.lab_script.specs.declared.deeds.LabLine.{LabLine}
use Rattle.lab_script.specs.LabSound.{IsDeed}
use Rattle.lab_text.specs.Played.{IsLaid}
use Rattle.timeline_text.proofs.MomentLemmas.{Leads}
use Rattle.timeline_text.proofs.moments.play_lines.Given as goal

-- the lines that are left lead to the end, and what they name is there
abbrev pub invariant-loop-line : goal.invariant-loop-line
invariant-loop-line l = record {
  leads : Leads l.address l.fn.net l.lines l.net (drop l.line-index l.lines) l.fn.page l.page;
  goes_on : l.net.stopped ≡ None;
  laid : IsLaid (length l.script.routers) l.script.links l.net.seen;
  deeds : AllByRecursion (λ (line : LabLine). IsDeed (length l.script.routers) l.script.links line.deed) (drop l.line-index l.lines);
}
