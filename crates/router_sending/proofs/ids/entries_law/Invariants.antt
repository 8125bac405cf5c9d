use Rattle.std.proofs.Common.{◌≡◌, length, map}
use Rattle.flag_sync.specs.Heard.{entries_of}
use Rattle.model_datagram.specs.Tlvs.{lsp_entry}
use Rattle.router_sending.proofs.ids.entries_law.Given as goal

-- what holds of those left holds of all
abbrev pub invariant-loop-left : goal.invariant-loop-left
invariant-loop-left l = map lsp_entry (entries_of l.left) ≡ l.left → map lsp_entry (entries_of l.entries) ≡ l.entries

abbrev pub decreases-loop-left : goal.decreases-loop-left
decreases-loop-left l = length l.left
