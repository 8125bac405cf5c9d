use Rattle.std.proofs.Common.{◌≡◌, ◌++◌}
use Rattle.std.specs.List.{flat_map}
use Rattle.isis_base.specs.declared.identifiers.LspId.{LspId}
use Rattle.lsp_store.specs.declared.entry.Entry.{Entry}
use Rattle.lsp_store.specs.Databases.{live_of}
use Rattle.ipv6_reach.specs.Reach6.{beside6}
use Rattle.ipv6_reach.proofs.candidates6.add_others.Given as goal

-- the candidates so far, and those of what is left
abbrev pub invariant-loop-id : goal.invariant-loop-id
invariant-loop-id l =
    let of = λ (pair : LspId × Entry). beside6 l.store.entries l.root l.distances pair.0 in
    l.list.items ++ flat_map of l.id-iterator ≡ l.fn.list.items ++ flat_map of (live_of l.store.entries)
