-- Words that may be no text: none of them is an identifier or an area address.
use Rattle.std.proofs.Common.{◌≡◌, ℕ, zero, suc, ◌+◌, ◌/◌, List, [], ◌∷◌, length, take, None, refl, ap, rules}
use Rattle.std.specs.Option.{option_map}
use Rattle.std.specs.Str.{IsUtf8}
use Rattle.isis_base.specs.AreaTexts.{area_of, octets_of_length}
use Rattle.isis_base.specs.Identifiers.{system_from}
use Rattle.isis_base.specs.declared.area_text.TheConstants.{AREA_TEXT}
use Rattle.isis_base.specs.declared.parts.Part.{Part}
use Rattle.isis_base.specs.declared.parts.Part.TheVariants.{Octet, Mark}
use Rattle.isis_base.specs.declared.texts.TheConstants.{SYSTEM_TEXT}
use Rattle.isis_base.specs.Misfit.{misfit_of, text_octets}
use Rattle.isis_base.proofs.SpellingLemmas.{HasPlainMarks}
use Rattle.lab_script.specs.LabFields.{system_of}
use Rattle.lab_script.proofs.IdLemmas.{octets-none}

-- what isn't text is no system ID
pub system_of-text : (word : List ℕ) → (IsUtf8 word → ⊥) → system_of word ≡ None
unfolding text_octets
system_of-text word bad = ap (option_map system_from) (octets-none SYSTEM_TEXT word (search rules) bad (misfit_of SYSTEM_TEXT word) refl)

plain-taken : (n : ℕ) (parts : List Part) → HasPlainMarks parts → HasPlainMarks (take n parts)
plain-taken zero parts h = tt
plain-taken (suc n) [] h = tt
plain-taken (suc n) (Mark m ∷ parts) h = (h.0, plain-taken n parts h.1)
plain-taken (suc n) (Octet ∷ parts) h = plain-taken n parts h

area-parts : HasPlainMarks AREA_TEXT
area-parts = search rules

-- what isn't text is no area address
pub area_of-text : (word : List ℕ) → (IsUtf8 word → ⊥) → area_of word ≡ None
unfolding text_octets area_of
area_of-text word bad =
    let count = octets_of_length (length word) in
    let parts = take (count + count / 2) AREA_TEXT in
    octets-none parts word (plain-taken (count + count / 2) AREA_TEXT area-parts) bad (misfit_of parts word) refl
