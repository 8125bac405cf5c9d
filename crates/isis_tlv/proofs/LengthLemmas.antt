-- How many octets areas and prefixes take.
use Rattle.std.proofs.Common.{◌≡◌, ℕ, ◌+◌, List, [], ◌∷◌, length, arith, length-append, refl}
use Rattle.std.specs.List.{sum_by}
use Rattle.std.proofs.lemmas.List.{length-take-le}
use Rattle.std.proofs.lemmas.List.Sums.{sum_by-cons}
use Rattle.isis_tlv.specs.declared.prefix.PrefixItem.{PrefixItem}
use Rattle.isis_base.specs.Fields.{u32_octets}
use Rattle.isis_tlv.specs.Items.{octets_for}
use Rattle.isis_tlv.specs.Spelling.{area_value, prefix_octets, prefix_value}

pub length-areas : (list : List (List ℕ)) → length (area_value list) ≡ sum_by (λ area. 1 + length area) list
length-areas [] = refl
length-areas (area ∷ list) =
    omega (arith, length-append area (area_value list), length-areas list, sum_by-cons (λ (a : List ℕ). 1 + length a) area list)

length-prefix : (item : PrefixItem) → length (prefix_octets item) ≡ 5 + octets_for item.prefix.length
length-prefix item =
    let fits = item.prefix.fits in
    let held = length-take-le (octets_for item.prefix.length) (u32_octets item.prefix.address) (omega arith) in
    omega (arith, held)

pub length-prefixes : (list : List PrefixItem) → length (prefix_value list) ≡ sum_by (λ item. 5 + octets_for item.prefix.length) list
length-prefixes [] = refl
length-prefixes (item ∷ list) =
    omega (arith, length-append (prefix_octets item) (prefix_value list), length-prefix item, length-prefixes list, sum_by-cons (λ (i : PrefixItem). 5 + octets_for i.prefix.length) item list)
