use Rattle.std.proofs.Common.{◌≡◌, length}
use Rattle.flag_sync.specs.Said.{said_keys}
use Rattle.flag_sync.proofs.said.KeysIterator.next.Given as goal

abbrev pub invariant-loop-id : goal.invariant-loop-id
invariant-loop-id l = said_keys l.self-inside.entries ≡ said_keys l.initial.self-inside.entries

abbrev pub decreases-loop-id : goal.decreases-loop-id
decreases-loop-id l = length l.self-inside.entries
