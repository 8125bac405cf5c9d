-- What a text of octets and marks reads as, and where it stops fitting its form (own).
use Rattle.std.specs.Prelude.{ℕ, ◌+◌, ◌*◌, ◌==◌, nat_lt, List, [], ◌∷◌, Option, Some, None, Result, Ok, Err, if◌then◌else◌}
use Rattle.std.specs.Char.{digit_value}
use Rattle.isis_base.specs.declared.parts.Part.{Part}
use Rattle.isis_base.specs.declared.parts.Part.TheVariants.{Octet, Mark}

-- a place that is counted from a later one
abbrev pub later : ℕ → Option ℕ → Option ℕ
later n None = None
later n (Some place) = Some (n + place)

-- the octet of two hex digits, or how many of the two are digits before the first that is none
abbrev pub pair_of : ℕ → ℕ → Result ℕ ℕ
pair_of high low =
    if nat_lt (digit_value high) 16 then
    (if nat_lt (digit_value low) 16 then Ok (16 * digit_value high + digit_value low) else Err 1)
    else Err 0

-- where an octet's two digits don't fit, and where what follows them doesn't
abbrev pub after_pair : Result ℕ ℕ → Option ℕ → Option ℕ
after_pair (Ok octet) place = later 2 place
after_pair (Err digits) place = Some digits

-- the octet of two digits, before further ones
abbrev pub before_octets : Result ℕ ℕ → List ℕ → List ℕ
before_octets (Ok octet) octets = octet ∷ octets
before_octets (Err digits) octets = []

-- the place of the first octet of the text that doesn't fit the form; the text's length where it ends too early
unfoldable pub misfit_of : List Part → List ℕ → Option ℕ
misfit_of [] [] = None
misfit_of [] (byte ∷ text) = Some 0
misfit_of (Mark mark ∷ parts) [] = Some 0
misfit_of (Mark mark ∷ parts) (byte ∷ text) =
    if byte == mark then later 1 (misfit_of parts text) else Some 0
misfit_of (Octet ∷ parts) [] = Some 0
misfit_of (Octet ∷ parts) (high ∷ []) = if nat_lt (digit_value high) 16 then Some 1 else Some 0
misfit_of (Octet ∷ parts) (high ∷ low ∷ text) = after_pair (pair_of high low) (misfit_of parts text)

-- the octets of the hex digits where the form has them
unfoldable pub octets_of : List Part → List ℕ → List ℕ
octets_of [] text = []
octets_of (Mark mark ∷ parts) [] = []
octets_of (Mark mark ∷ parts) (byte ∷ text) = octets_of parts text
octets_of (Octet ∷ parts) [] = []
octets_of (Octet ∷ parts) (high ∷ []) = []
octets_of (Octet ∷ parts) (high ∷ low ∷ text) =
    before_octets (pair_of high low) (octets_of parts text)

abbrev pub unless_misfit : Option ℕ → List ℕ → Option (List ℕ)
unless_misfit None octets = Some octets
unless_misfit (Some place) octets = None

-- the octets that a text of this form spells; nothing where the text doesn't have it
unfoldable pub text_octets : List Part → List ℕ → Option (List ℕ)
text_octets parts text = unless_misfit (misfit_of parts text) (octets_of parts text)
