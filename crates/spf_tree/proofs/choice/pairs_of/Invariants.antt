use Rattle.std.proofs.Common.{◌≡◌, map, take}
use Rattle.spf_tree.specs.Pairs.{ends_of}
use Rattle.spf_tree.proofs.choice.pairs_of.Given as goal

abbrev pub invariant-loop-row : goal.invariant-loop-row
invariant-loop-row l = l.pairs.items ≡ map ends_of (take l.row-index l.rows)
