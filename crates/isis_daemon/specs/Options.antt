-- The options of `daemon` and `state` (own).
use Rattle.std.specs.Prelude.{ℕ, ◌==◌, nat_le, ◌&&◌, Bool, false, List, [], ◌∷◌, ◌++◌, Option, Some, None, codes, option_and_then, if◌then◌else◌}
use Rattle.std.specs.Option.{option_map}
use Rattle.std.specs.Borrow.{Bor}
use Rattle.std.specs.Str.{bytes_eq}
use Rattle.line_cuts.specs.Numerals.{numeral_of}

-- a number from 1 to a limit, without sign or leading zero (own)
abbrev pub number_within : ℕ → List ℕ → Option ℕ
number_within limit word =
    option_and_then (λ n. if nat_le 1 n && nat_le n limit then Some n else None) (numeral_of word)

-- a boot number of three octets, and another number up to a limit (own)
abbrev pub both : (limit : ℕ) → List ℕ → List ℕ → Option (ℕ × ℕ)
both limit boot count = option_and_then (λ b. option_map (λ n. (b, n)) (number_within limit count))
    (number_within 16777215 boot)

-- ---- the pieces of words: an option is cut at its first `=`

-- it begins with `--`
abbrev pub is_option : List ℕ → Bool
is_option [] = false
is_option (first ∷ []) = false
is_option (first ∷ second ∷ rest) = (first == 45) && (second == 45)

abbrev pub name_in : List ℕ → List ℕ
name_in [] = []
name_in (byte ∷ word) = if byte == 61 then [] else byte ∷ name_in word

abbrev pub value_in : List ℕ → Option (List ℕ)
value_in [] = None
value_in (byte ∷ word) = if byte == 61 then Some word else value_in word

abbrev pub listed : Option (List ℕ) → List (List ℕ)
listed None = []
listed (Some piece) = piece ∷ []

-- a piece that is lent, if there is one
abbrev pub lent : Option (Bor (List ℕ)) → List (List ℕ)
lent None = []
lent (Some piece) = piece.now ∷ []

abbrev pub pieces_in : List ℕ → List (List ℕ)
pieces_in word = if is_option word then name_in word ∷ listed (value_in word) else word ∷ []

abbrev pub pieces_of : List (List ℕ) → List (List ℕ)
pieces_of [] = []
pieces_of (word ∷ words) = pieces_in word ++ pieces_of words

-- ---- the options

-- the boot number alone; the other number is then 10^12: no machine lives to see the end of so many turns (own)
abbrev pub boot_alone : List ℕ → Option (ℕ × ℕ)
boot_alone boot = option_map (λ b. (b, 1000000000000)) (number_within 16777215 boot)

-- the boot number, and another option of this name and limit or not: each with its number behind it, in either order (own)
abbrev pub options_of : (name : List ℕ) → (limit : ℕ) → List (List ℕ) → Option (ℕ × ℕ)
options_of name limit [] = None
options_of name limit (first ∷ []) = None
options_of name limit (first ∷ number ∷ []) =
    if bytes_eq first (codes "--boot") then boot_alone number else None
options_of name limit (first ∷ number ∷ second ∷ []) = None
options_of name limit (first ∷ number ∷ second ∷ other ∷ []) =
    if bytes_eq first (codes "--boot") && bytes_eq second name then both limit number other
    else if bytes_eq first name && bytes_eq second (codes "--boot") then both limit other number
    else None
options_of name limit (first ∷ number ∷ second ∷ other ∷ next ∷ words) = None

-- what words ask for which are a word and its options (own)
abbrev pub asked_by : (word name : List ℕ) → (limit : ℕ) → List (List ℕ) → Option (ℕ × ℕ)
asked_by word name limit [] = None
asked_by word name limit (first ∷ words) =
    if bytes_eq first word then options_of name limit (pieces_of words) else None

-- the boot number and the turns that the words ask for, of which a day has 86400: `daemon` and its options (own)
abbrev pub daemon_of : List (List ℕ) → Option (ℕ × ℕ)
daemon_of words = asked_by (codes "daemon") (codes "--turns") 86400 words

-- the boot number, and how many entries of a journal the words ask for: `state` and its options (own)
abbrev pub state_of : List (List ℕ) → Option (ℕ × ℕ)
state_of words = asked_by (codes "state") (codes "--entry") 4294967295 words
