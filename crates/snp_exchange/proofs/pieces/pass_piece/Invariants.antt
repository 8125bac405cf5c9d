use Rattle.std.proofs.Common.{◌≡◌, ◌++◌, ◌-◌, ◌<◌, ◌≤◌, length, take}
use Rattle.isis_base.specs.Identifiers.{lsp_number}
use Rattle.model_router.specs.SnpLists.{last_id}
use Rattle.flag_sync.specs.Heard.{entries_of}
use Rattle.snp_exchange.proofs.pieces.pass_piece.Given as goal

-- the keys that were passed, and those that are left
abbrev pub invariant-loop-count : goal.invariant-loop-count
invariant-loop-count l = record {
  split : take l.count l.fn.keys ++ l.keys ≡ l.fn.keys;
  count : length (take l.count l.fn.keys) ≡ l.count;
  few : l.count ≤ 75;
  last : 0 < l.count → last_id (entries_of (take l.count l.fn.keys)) ≡ lsp_number l.last;
}

abbrev pub decreases-loop-count : goal.decreases-loop-count
decreases-loop-count l = 75 - l.count
