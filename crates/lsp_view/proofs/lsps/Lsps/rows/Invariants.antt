use Rattle.std.proofs.Common.{◌≡◌, ◌++◌}
use Rattle.std.specs.List.{flat_map}
use Rattle.lsp_store.specs.Databases.{live_of}
use Rattle.lsp_view.specs.Lsps.{entries_in}
use Rattle.lsp_view.specs.Views.{led_rows}
use Rattle.lsp_view.proofs.lsps.Lsps.rows.Given as goal

-- the rows so far, and those of what is left
abbrev pub invariant-loop-id : goal.invariant-loop-id
invariant-loop-id l =
    l.rows.items ++ flat_map (led_rows (entries_in l.self)) (live_of l.id-iterator)
    ≡ flat_map (led_rows (entries_in l.self)) (live_of (entries_in l.self))
