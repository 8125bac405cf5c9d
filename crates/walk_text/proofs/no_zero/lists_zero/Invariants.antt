use Rattle.std.proofs.Common.{◌≡◌}
use Rattle.std.specs.List.{list_any}
use Rattle.lsp_store.specs.Databases.{live_of}
use Rattle.walk_text.specs.Zeros.{lists_zero}
use Rattle.walk_text.proofs.no_zero.lists_zero.Given as goal

-- none so far does
abbrev pub invariant-loop-id : goal.invariant-loop-id
invariant-loop-id l = list_any (lists_zero l.node) (live_of l.store.entries) ≡ list_any (lists_zero l.node) l.id-iterator
