use Rattle.std.proofs.Common.{◌++◌, ◌≡◌, List}
use Rattle.isis_base.specs.declared.identifiers.SystemId.{SystemId}
use Rattle.lsp_store.specs.Databases.{live_of}
use Rattle.walk_text.specs.Foreign.{systems_in, IsLeastForeign}
use Rattle.walk_text.proofs.strangers.least_foreign.Given as goal

-- the least of the systems so far
abbrev pub invariant-loop-id : goal.invariant-loop-id
invariant-loop-id l =
    (before : List SystemId) → IsLeastForeign l.known before l.fn.least
    → (done : List SystemId) × IsLeastForeign l.known (before ++ done) l.least
    × (done ++ systems_in l.id-iterator ≡ systems_in (live_of l.store.entries))
