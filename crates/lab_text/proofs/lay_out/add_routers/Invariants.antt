use Rattle.std.proofs.Common.{◌≡◌, take, drop}
use Rattle.lab_text.specs.Layouts as layout
use Rattle.lab_text.specs.Setups.{HasRouters}
use Rattle.lab_text.proofs.lay_out.add_routers.Given as goal

-- the routers so far, and those that are left
abbrev pub invariant-loop-router : goal.invariant-loop-router
invariant-loop-router l = record {
  number : l.number ≡ l.router-index;
  left : layout.with_routers l.keys l.router-index (drop l.router-index l.routers) l.net ≡ layout.with_routers l.keys 0 l.routers l.fn.net;
  has : HasRouters (take l.router-index l.routers) l.net;
}
