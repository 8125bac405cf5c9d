use Rattle.std.proofs.Common.{◌≡◌}
use Rattle.lsp_store.specs.Maps.{between}
use Rattle.lsp_view.specs.Views.{number_of}
use Rattle.router_core.specs.Asides.{put_all}
use Rattle.router_core.proofs.aside.put_part.Given as goal

-- those that are left come to those that are there
abbrev pub invariant-loop-id : goal.invariant-loop-id
invariant-loop-id l = put_all l.part.entries l.id-iterator ≡ put_all l.fn.part.entries (between (number_of l.fn.node 0) (number_of l.fn.node 255) l.store.entries)
