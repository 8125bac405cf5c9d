use Rattle.std.proofs.Common.{◌≡◌, ◌+◌, ◌≤◌, ◌++◌, vec_len, vec_capacity}
use Rattle.route_table.specs.Patches.{IsPatched, coming}
use Rattle.route_table.proofs.putting.put_all.Given as goal

abbrev pub invariant-loop-patch : goal.invariant-loop-patch
invariant-loop-patch l = record {
  patched : IsPatched l.fn.routes.items l.yielded l.routes.items;
  few : vec_len l.routes + coming l.routes.items l.patch-iterator.rest.items ≤ vec_len l.fn.routes + coming l.fn.routes.items l.fn.list.items;
  room : vec_capacity l.fn.routes ≤ vec_capacity l.routes;
  all : l.fn.list.items ≡ l.yielded ++ l.patch-iterator.rest.items;
}
