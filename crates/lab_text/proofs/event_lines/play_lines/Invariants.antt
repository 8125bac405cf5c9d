use Rattle.std.proofs.Common.{◌≡◌, None, length, drop}
use Rattle.std.specs.List.{AllByRecursion}
use Rattle.lab_script.specs.declared.deeds.LabLine.{LabLine}
use Rattle.lab_script.specs.LabSound.{IsDeed}
use Rattle.lab_text.specs.Played.{IsLaid, Leads}
use Rattle.lab_text.proofs.event_lines.play_lines.Given as goal

-- the lines that are left lead to the end, and what they name is there
abbrev pub invariant-loop-line : goal.invariant-loop-line
invariant-loop-line l = record {
  leads : Leads l.fn.net l.lines l.net (drop l.line-index l.lines);
  goes_on : l.net.stopped ≡ None;
  laid : IsLaid (length l.script.routers) l.script.links l.net.seen;
  links : l.net.seen.links ≡ l.fn.net.seen.links;
  routers : length l.net.seen.routers ≡ length l.fn.net.seen.routers;
  deeds : AllByRecursion (λ (line : LabLine). IsDeed (length l.script.routers) l.script.links line.deed) (drop l.line-index l.lines);
}
