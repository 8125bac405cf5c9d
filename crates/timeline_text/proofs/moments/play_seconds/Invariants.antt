use Rattle.std.proofs.Common.{◌≡◌, None, length}
use Rattle.model_network.specs.Networks.{Network}
use Rattle.network_lab.specs.LabNets.{StandsFor}
use Rattle.timeline_text.specs.Moments.{seconds_of}
use Rattle.timeline_text.specs.Pages.{AreAdded}
use Rattle.timeline_text.specs.Playing.{run_by}
use Rattle.timeline_text.proofs.moments.play_seconds.Given as goal

-- the seconds so far were played, and their moments added
abbrev pub invariant-loop-second : goal.invariant-loop-second
invariant-loop-second l = record {
  stands : (m : Network) → StandsFor m l.fn.net → StandsFor (run_by l.run l.second m) l.net;
  added : (m : Network) → StandsFor m l.fn.net → AreAdded l.address (seconds_of l.line l.run.without l.run.except l.second m) l.fn.page l.page;
  goes_on : l.net.stopped ≡ None;
  links : l.net.seen.links ≡ l.fn.net.seen.links;
  routers : length l.net.seen.routers ≡ length l.fn.net.seen.routers;
}
