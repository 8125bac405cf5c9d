use Rattle.std.proofs.Common.{◌≡◌, ◌++◌, map, filter}
use Rattle.isis_base.specs.declared.identifiers.LspId.{LspId}
use Rattle.lsp_store.specs.declared.entry.Entry.{Entry}
use Rattle.lsp_store.specs.Databases.{live_of}
use Rattle.lsp_view.specs.Lsps.{entries_in}
use Rattle.lsp_view.specs.Views.{is_overloaded}
use Rattle.lsp_view.proofs.lsps.Lsps.overloaded.Given as goal

-- the nodes so far, and those of what is left
abbrev pub invariant-loop-id : goal.invariant-loop-id
invariant-loop-id l =
    l.nodes.items ++ map (λ (pair : LspId × Entry). pair.0.node) (filter is_overloaded (live_of l.id-iterator))
    ≡ map (λ (pair : LspId × Entry). pair.0.node) (filter is_overloaded (live_of (entries_in l.self)))
