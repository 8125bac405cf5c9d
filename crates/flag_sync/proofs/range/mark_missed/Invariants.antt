use Rattle.std.proofs.Common.{◌≡◌, ◌||◌, length}
use Rattle.isis_base.specs.Identifiers.{lsp_number}
use Rattle.lsp_store.specs.Maps.{between}
use Rattle.flag_sync.specs.Marks.{marks, some_pass, is_unlisted}
use Rattle.flag_sync.proofs.range.mark_missed.Given as goal

abbrev pub invariant-loop-id : goal.invariant-loop-id
invariant-loop-id l = record {
  rows : marks (is_unlisted l.listed) l.place l.left l.flags.entries ≡ marks (is_unlisted l.listed) l.place (between (lsp_number l.fn.start) (lsp_number l.fn.end) l.store.entries) l.fn.flags.entries;
  some : (l.some || some_pass (is_unlisted l.listed) l.left) ≡ some_pass (is_unlisted l.listed) (between (lsp_number l.fn.start) (lsp_number l.fn.end) l.store.entries);
  spare : l.flags.spare ≡ l.fn.flags.spare;
}

abbrev pub decreases-loop-id : goal.decreases-loop-id
decreases-loop-id l = length l.left
