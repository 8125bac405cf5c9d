-- The causes of a drop by name, and their counters (own).
use Rattle.std.specs.Prelude.{ℕ, List, Option, Some, None, codes}
use Rattle.model_router.specs.declared.drop_name.DropName.{DropName}
use Rattle.model_router.specs.declared.drop_name.DropName.TheVariants.{Frame, Version, Pdu, TooLong, WrongKind, WrongLevel, Auth, Value, ZeroNumber, BadChecksum, OwnId, OtherSnpa, OldBoot, NoLevel, NoArea, NoThreeWay, OtherNeighbour, TooMany, NoAdjacency, NotDesignated, StoreFull}
use Rattle.model_router.specs.Places.{nth, with_nth}
use Rattle.model_router.specs.Books.{risen}

-- the word of a cause (own)
abbrev pub drop_word : DropName → List ℕ
drop_word Frame = codes "frame"
drop_word Version = codes "version"
drop_word Pdu = codes "pdu"
drop_word TooLong = codes "too-long"
drop_word WrongKind = codes "wrong-kind"
drop_word WrongLevel = codes "wrong-level"
drop_word Auth = codes "auth"
drop_word Value = codes "value"
drop_word ZeroNumber = codes "zero-number"
drop_word BadChecksum = codes "checksum"
drop_word OwnId = codes "own-id"
drop_word OtherSnpa = codes "other-snpa"
drop_word OldBoot = codes "old-boot"
drop_word NoLevel = codes "no-level"
drop_word NoArea = codes "no-area"
drop_word NoThreeWay = codes "no-three-way"
drop_word OtherNeighbour = codes "other-neighbour"
drop_word TooMany = codes "too-many"
drop_word NoAdjacency = codes "no-adjacency"
drop_word NotDesignated = codes "not-designated"
drop_word StoreFull = codes "store-full"

-- the place of a cause's counter: the order in which a datagram is tested (own)
abbrev pub drop_place : DropName → ℕ
drop_place Frame = 0
drop_place Version = 1
drop_place Pdu = 2
drop_place TooLong = 3
drop_place WrongKind = 4
drop_place WrongLevel = 5
drop_place Auth = 6
drop_place Value = 7
drop_place ZeroNumber = 8
drop_place BadChecksum = 9
drop_place OwnId = 10
drop_place OtherSnpa = 11
drop_place OldBoot = 12
drop_place NoLevel = 13
drop_place NoArea = 14
drop_place NoThreeWay = 15
drop_place OtherNeighbour = 16
drop_place TooMany = 17
drop_place NoAdjacency = 18
drop_place NotDesignated = 19
drop_place StoreFull = 20

-- own
abbrev pub count_or : Option ℕ → ℕ
count_or None = 0
count_or (Some count) = count

-- how often a cause was met (own)
abbrev pub drops_of : List ℕ → DropName → ℕ
drops_of drops cause = count_or (nth drops (drop_place cause))

-- the counters with one more of a cause (own)
abbrev pub count_drop : List ℕ → DropName → List ℕ
count_drop drops cause = with_nth drops (drop_place cause) (risen (drops_of drops cause))

-- the first of two tests that refuses (own)
abbrev pub or_else : Option DropName → Option DropName → Option DropName
or_else None later = later
or_else (Some cause) later = Some cause
