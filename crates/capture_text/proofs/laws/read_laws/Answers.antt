use Rattle.std.proofs.Common.{refl}
use Rattle.capture_text.specs.Reading.{nothing_read, octets_in}
use Rattle.capture_text.proofs.ReadLemmas.{counted, taken}
use Rattle.capture_text.proofs.laws.read_laws.Goals as goal

pub returns-clause-counted : goal.returns-clause-counted
returns-clause-counted c = λ level lines end read. counted lines (nothing_read level) end read refl

pub returns-clause-newest : goal.returns-clause-newest
returns-clause-newest c = λ level lines end read small.
    c.taken_law.ensures level (octets_in lines) end.capture (taken lines (nothing_read level) end read small).1
