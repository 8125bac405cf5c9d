use Rattle.std.proofs.Common.{◌≡◌, ◌≤◌, ◌-◌}
use Rattle.std.specs.Prelude.{vec_len, vec_capacity}
use Rattle.lsp_store.specs.Places.{AllEmpty, HasRoom}
use Rattle.lsp_store.proofs.rooms.fill_pool.Given as goal

abbrev pub invariant-loop-alloc : goal.invariant-loop-alloc
invariant-loop-alloc g l = record {
  pages : l.pages.items ≡ l.fn.pages.items;
  room : HasRoom (vec_len l.pages) (vec_len l.pool) (vec_capacity l.pages) (vec_capacity l.pool);
  empty : AllEmpty l.pool.items;
  kept : vec_len l.fn.pool ≤ vec_len l.pool;
}

abbrev pub decreases-loop-alloc : goal.decreases-loop-alloc
decreases-loop-alloc g l = l.more - vec_len l.pool
