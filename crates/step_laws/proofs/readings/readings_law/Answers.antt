-- No entry sets a flag, entry after entry, exactly where none would at the book before.
use Rattle.step_laws.proofs.ReadingLemmas.{any-clean, clean-any, flagless-keeps, clean-taken, taken-clean}
use Rattle.step_laws.proofs.readings.readings_law.Goals as goal

pub returns-clause-entries : goal.returns-clause-entries
returns-clause-entries c = λ scene s system place entries. (clean-any scene s system place entries, any-clean scene s system place entries)

pub returns-clause-keys : goal.returns-clause-keys
returns-clause-keys c = flagless-keeps

pub returns-clause-clean : goal.returns-clause-clean
returns-clause-clean c = λ given r place circuit l from source range entries sorted at_place taken.
    (clean-taken given r place circuit l from source range entries, taken-clean given r place circuit l from source range entries sorted at_place taken)
