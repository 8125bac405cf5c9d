use Rattle.std.proofs.Common.{◌≡◌, take}
use Rattle.lab_text.specs.KeysRuns.{with_links}
use Rattle.lab_text.proofs.run.add_links.Given as goal

-- the links so far
abbrev pub invariant-loop-link : goal.invariant-loop-link
invariant-loop-link l = l.net ≡ with_links l.initial.net (take l.link-index l.links)
