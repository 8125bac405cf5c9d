use Rattle.std.proofs.Common.{◌≡◌, drop, false}
use Rattle.std.specs.List.{AllByRecursion}
use Rattle.lab_text.specs.Layouts as layout
use Rattle.lab_text.specs.Setups.{HasEnd}
use Rattle.lab_text.proofs.lay_out.set_priorities.Given as goal

-- the ends that are left
abbrev pub invariant-loop-end : goal.invariant-loop-end
invariant-loop-end l = record {
  left : layout.with_priorities l.routers (drop l.end-index l.ends) l.net ≡ layout.with_priorities l.routers l.ends l.fn.net;
  there : AllByRecursion (λ e. HasEnd l.net e) (drop l.end-index l.ends);
  early : l.net.begun ≡ false;
}
