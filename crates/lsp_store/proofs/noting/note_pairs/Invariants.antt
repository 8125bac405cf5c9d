use Rattle.std.proofs.Common.{◌≡◌, ◌++◌, ◌-◌, ◌≤◌, length, take, drop}
use Rattle.std.specs.Prelude.{vec_capacity, vec_len}
use Rattle.lsp_store.specs.Maps.{change_all, first_where}
use Rattle.lsp_store.proofs.noting.note_pairs.Given as goal

abbrev pub invariant-loop-place : goal.invariant-loop-place
invariant-loop-place g l = record {
  items : l.pairs.items ≡ change_all (g.C.Noting.changed l.change) (take l.place l.fn.pairs.items) ++ drop l.place l.fn.pairs.items;
  first : l.first ≡ first_where (g.C.Noting.noted l.change) (change_all (g.C.Noting.changed l.change) (take l.place l.fn.pairs.items));
  bound : l.place ≤ length l.fn.pairs.items;
  len : vec_len l.pairs ≡ vec_len l.fn.pairs;
  capacity : vec_capacity l.pairs ≡ vec_capacity l.fn.pairs;
}

abbrev pub decreases-loop-place : goal.decreases-loop-place
decreases-loop-place g l = length l.fn.pairs.items - l.place
