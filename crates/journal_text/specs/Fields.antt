-- The fields of a journal's lines: a reader for each kind, from a word to the value that it writes
-- (own).
use Rattle.std.specs.Prelude.{ℕ, ◌==◌, List, [], ◌∷◌, Option, Some, None, codes, option_and_then, if◌then◌else◌}
use Rattle.std.specs.Option.{option_map}
use Rattle.std.specs.Str.{bytes_eq}
use Rattle.model_router.specs.declared.drop_name.DropName.{DropName}
use Rattle.model_router.specs.declared.drop_name.DropName.TheVariants.{Frame, Version, Pdu, TooLong, WrongKind, WrongLevel, Auth, Value, ZeroNumber, BadChecksum, OwnId, OtherSnpa, OldBoot, NoLevel, NoArea, NoThreeWay, OtherNeighbour, TooMany, NoAdjacency, NotDesignated, StoreFull}
use Rattle.model_router.specs.Drops.{drop_word}
use Rattle.line_cuts.specs.Numerals.{numeral_of, number_to}

-- this number, and no other
abbrev pub this_number : ℕ → List ℕ → Option ℕ
this_number number word =
    option_and_then (λ n. if n == number then Some n else None) (numeral_of word)

-- the label of a pass, of 64 bits
abbrev pub pass_of : List ℕ → Option ℕ
pass_of word = number_to 18446744073709551615 word

-- the number of a circuit, of one octet
abbrev pub circuit_of : List ℕ → Option ℕ
circuit_of word = number_to 255 word

-- a metric, of 32 bits
abbrev pub metric_of : List ℕ → Option ℕ
metric_of word = number_to 4294967295 word

-- the metric of a prefix, or the word `none`
abbrev pub prefix_metric_of : List ℕ → Option (Option ℕ)
prefix_metric_of word =
    if bytes_eq word (codes "none") then Some None
    else option_map (λ metric. Some metric) (metric_of word)

abbrev pub all_causes : List DropName
all_causes =
    Frame ∷ Version ∷ Pdu ∷ TooLong ∷ WrongKind ∷ WrongLevel ∷ Auth ∷ Value ∷ ZeroNumber ∷
    BadChecksum ∷ OwnId ∷ OtherSnpa ∷ OldBoot ∷ NoLevel ∷ NoArea ∷ NoThreeWay ∷ OtherNeighbour ∷
    TooMany ∷ NoAdjacency ∷ NotDesignated ∷ StoreFull ∷ []

-- the first of these causes that has this word
abbrev pub cause_among : List DropName → List ℕ → Option DropName
cause_among [] word = None
cause_among (name ∷ names) word =
    if bytes_eq word (drop_word name) then Some name else cause_among names word

-- the cause of a drop, of its word
abbrev pub drop_of : List ℕ → Option DropName
drop_of word = cause_among all_causes word
