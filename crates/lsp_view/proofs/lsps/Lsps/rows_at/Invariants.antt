use Rattle.std.proofs.Common.{◌≡◌, ◌++◌}
use Rattle.std.specs.List.{flat_map}
use Rattle.lsp_store.specs.Maps.{between}
use Rattle.lsp_store.specs.Databases.{live_of}
use Rattle.lsp_view.specs.Lsps.{entries_in}
use Rattle.lsp_view.specs.Views.{number_of, rows_of}
use Rattle.lsp_view.proofs.lsps.Lsps.rows_at.Given as goal

-- the rows so far, and those of what is left
abbrev pub invariant-loop-id : goal.invariant-loop-id
invariant-loop-id l =
    l.rows.items ++ flat_map rows_of (live_of l.id-iterator)
    ≡ flat_map rows_of (live_of (between (number_of l.fn.node 0) (number_of l.fn.node 255) (entries_in l.self)))
