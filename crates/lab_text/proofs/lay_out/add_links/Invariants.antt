use Rattle.std.proofs.Common.{◌≡◌, length, take, drop}
use Rattle.lab_text.specs.Layouts as layout
use Rattle.lab_text.specs.Setups.{HasLinks}
use Rattle.lab_text.proofs.lay_out.add_links.Given as goal

-- the links so far, and those that are left
abbrev pub invariant-loop-link : goal.invariant-loop-link
invariant-loop-link l = record {
  left : layout.with_links l.routers (drop l.link-index l.links) l.net ≡ layout.with_links l.routers l.links l.fn.net;
  has : HasLinks (length l.script.routers) (take l.link-index l.links) l.net;
}
