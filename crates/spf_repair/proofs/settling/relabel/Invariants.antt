use Rattle.std.proofs.Common.{◌≡◌}
use Rattle.spf_tree.specs.Labels.{names}
use Rattle.spf_repair.specs.Repair.{IsLoose, IsCounted, effort}
use Rattle.spf_repair.proofs.settling.relabel.Given as goal

abbrev pub invariant-loop-steps : goal.invariant-loop-steps
invariant-loop-steps g l = record {
  names : names l.labels ≡ names l.fn.labels;
  loose : IsLoose l.rows l.root l.labels l.queue;
  counted : IsCounted l.fn.labels l.labels l.queue l.fn.steps l.steps;
}

abbrev pub decreases-loop-steps : goal.decreases-loop-steps
decreases-loop-steps g l = effort l.rows l.labels l.queue
