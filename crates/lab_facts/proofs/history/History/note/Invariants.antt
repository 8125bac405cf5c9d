use Rattle.std.proofs.Common.{◌+◌, List, length}
use Rattle.lsp_store.specs.Maps.{between}
use Rattle.lab_facts.specs.Sightings.{Sighting}
use Rattle.lab_facts.specs.Entries.{live_of, Left}
use Rattle.lab_facts.proofs.history.History.note.Given as goal

abbrev pub invariant-loop-id : goal.invariant-loop-id
invariant-loop-id l =
    (whole : List Sighting) → Left l.fn.self (live_of (between l.first (l.first + 65535) l.book.store.entries)) whole → Left l.self (live_of l.entries) whole

abbrev pub decreases-loop-id : goal.decreases-loop-id
decreases-loop-id l = length l.entries
