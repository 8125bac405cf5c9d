-- A split has at most 256 fragments, each of them fits the room, and they say its entries.
use Rattle.std.proofs.Common.{◌+◌, ◌<◌, ◌≤◌, length}
use Rattle.model_router.specs.Splits.{Item}
use Rattle.model_router.specs.SplitLaws.{IsSmall}
use Rattle.model_router.proofs.ListLemmas.{all-map}
use Rattle.model_router.proofs.SplitLemmas.{split-few, split-fits}
use Rattle.model_router.proofs.SaysLemmas.{split-says}
use Rattle.model_router.proofs.laws.states.split_laws.Goals as goal

pub returns-clause-count : goal.returns-clause-count
returns-clause-count c = split-few

pub returns-clause-room : goal.returns-clause-room
returns-clause-room c first items room h all =
    split-fits first items room h (all-map (IsSmall room) (λ (i : Item). (0 < i.code) × (2 + length i.octets ≤ room)) items (λ i small. (small.code, small.fits)) all)

pub returns-clause-entries : goal.returns-clause-entries
returns-clause-entries c = split-says
