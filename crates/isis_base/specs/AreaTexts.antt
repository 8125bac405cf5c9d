-- The texts of area addresses (own).
use Rattle.std.specs.Prelude.{◌≡◌, ℕ, ◌+◌, ◌*◌, ◌/◌, ◌<◌, ◌≤◌, max, min, List, [], ◌∷◌, ◌++◌, length, take, Option, codes}
use Rattle.std.specs.List.{AllByRecursion}
use Rattle.std.specs.Str.{str_to_ascii_lowercase}
use Rattle.isis_base.specs.declared.area_text.TheConstants.{AREA_TEXT}
use Rattle.isis_base.specs.Misfit.{text_octets}
use Rattle.isis_base.specs.Texts.{hex_pair}

-- the groups behind an area's first octet: a dot and two octets each, of which the last may have one (own)
abbrev pub groups_text : List ℕ → List ℕ
groups_text [] = []
groups_text (octet ∷ []) = codes "." ++ hex_pair octet
groups_text (high ∷ low ∷ octets) = codes "." ++ hex_pair high ++ hex_pair low ++ groups_text octets

-- an area address's text, as 49.0001 or 49.0001.02 (own)
abbrev pub area_text : List ℕ → List ℕ
area_text [] = []
area_text (first ∷ octets) = hex_pair first ++ groups_text octets

-- the text spells the area address of these octets; upper case is read too (own)
pub record SpellsArea (text octets : List ℕ) : Type 0 where
  pub small : AllByRecursion (λ octet. octet < 256) octets
  pub some : 1 ≤ length octets
  pub fits : length octets ≤ 13
  pub same : str_to_ascii_lowercase text ≡ area_text octets

-- the text is that of an area address
abbrev pub IsAreaText : List ℕ → Type 0
IsAreaText text = (octets : List ℕ) × SpellsArea text octets

-- how many octets an area address has whose text has this length: the least number n from 1 to 13 whose texts, of
-- 2 n + n / 2 characters, are no shorter
abbrev pub octets_of_length : ℕ → ℕ
octets_of_length long = max ((2 * min long 32 + 4) / 5) 1

-- the area address that a text spells; nothing where it spells none
unfoldable pub area_of : List ℕ → Option (List ℕ)
area_of text =
    let count = octets_of_length (length text) in
    text_octets (take (count + count / 2) AREA_TEXT) text
