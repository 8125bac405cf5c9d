use Rattle.std.proofs.Common.{◌≡◌, ◌≤◌, ◌<◌, ◌+◌, ◌/◌, ◌*◌, ◌-◌, ◌∙◌, ℕ, List, Ok, Some, length, take, sym, ap, subst}
use Rattle.isis_base.specs.declared.parts.Part.{Part}
use Rattle.isis_base.specs.declared.area_text.TheConstants.{AREA_TEXT}
use Rattle.isis_base.specs.Texts.{octet_count, IsFaultAt}
use Rattle.isis_base.specs.Misfit.{misfit_of, octets_of}
use Rattle.isis_base.specs.AreaTexts.{IsAreaText, octets_of_length}
use Rattle.isis_base.proofs.AreaLemmas.{form-front, area_form, area_form-count, SpellsArea-from_misfit, SpellsArea-one, IsFaultAt-area, IsCount, octets_of_length-count, area_of-misfit, area_of-octets}
use Rattle.isis_base.proofs.area_text.read_area.Goals as goal

-- the number of octets that the text's length asks for
counted : (text : List ℕ) (n : ℕ) → n ≡ octets_of_length (length text) → IsCount (length text) n
counted text n e = subst (IsCount (length text)) (sym e) (octets_of_length-count (length text))

pub read_parts-requires : goal.read_parts-requires
read_parts-requires c =
    let n = c.octets_of_length-count.result in
    let count = counted c.args.text.now n c.octets_of_length-count.ensures in
    let form = form-front n count.some count.fits in
    subst (λ (k : ℕ). k ≤ 13) (sym (ap octet_count form ∙ area_form-count n)) count.fits

fault : (n place : ℕ) (parts : List Part) (text : List ℕ) → parts ≡ area_form n → IsCount (length text) n → Some place ≡ misfit_of parts text → IsFaultAt IsAreaText text place
fault n place parts text form count e = IsFaultAt-area n text place count (sym (e ∙ ap (λ (p : List Part). misfit_of p text) form))

pub returns-in-Some-clause-err : goal.returns-in-Some-clause-err
returns-in-Some-clause-err c =
    let call = c.octets_of_length-count in
    let n = call.result in
    let text = c.args.text.now in
    let parts = take (n + n / 2) AREA_TEXT in
    let count = counted text n call.ensures in
    fault n c.in-Some.place parts text (form-front n count.some count.fits) count (c.in-Some.ensures.place ∙ ap (misfit_of parts) c.as_bytes.ensures.value)

pub returns-in-Some-clause-read : goal.returns-in-Some-clause-read
returns-in-Some-clause-read c = λ octets s.
    let call = c.octets_of_length-count in
    let n = call.result in
    let text = c.args.text.now in
    let parts = take (n + n / 2) AREA_TEXT in
    let count = counted text n call.ensures in
    absurd ((fault n c.in-Some.place parts text (form-front n count.some count.fits) count (c.in-Some.ensures.place ∙ ap (misfit_of parts) c.as_bytes.ensures.value)).none (octets, s))

pub returns-in-None-clause-ok : goal.returns-in-None-clause-ok
returns-in-None-clause-ok c =
    let call = c.octets_of_length-count in
    let n = call.result in
    let text = c.args.text.now in
    let parts = take (n + n / 2) AREA_TEXT in
    let count = counted text n call.ensures in
    let fits = c.in-None.ensures.place ∙ ap (misfit_of parts) c.as_bytes.ensures.value in
    let octets = c.in-None.ensures.octets ∙ ap (octets_of parts) c.as_bytes.ensures.value in
    let taken : c.unwrap.result ≡ take n c.read_parts.new.octets = rw c.unwrap.ensures at c.new.ensures.some in
    SpellsArea-from_misfit n parts text c.read_parts.new.octets c.unwrap.result count (form-front n count.some count.fits) fits octets taken

pub returns-in-None-clause-read : goal.returns-in-None-clause-read
returns-in-None-clause-read c = λ octets s. ap Ok (SpellsArea-one c.args.text.now c.unwrap.result octets (returns-in-None-clause-ok c) s)

-- the code takes its form off the front of the longest
form-same : (n long : ℕ) → n ≡ octets_of_length long → take (n + n / 2) AREA_TEXT ≡ take (octets_of_length long + octets_of_length long / 2) AREA_TEXT
form-same n long e = ap (λ (k : ℕ). take (k + k / 2) AREA_TEXT) e

pub returns-in-Some-clause-value : goal.returns-in-Some-clause-value
returns-in-Some-clause-value c =
    let n = c.octets_of_length-count.result in
    let text = c.args.text.now in
    let parts = take (n + n / 2) AREA_TEXT in
    area_of-misfit text c.in-Some.place parts (form-same n (length text) c.octets_of_length-count.ensures) (c.in-Some.ensures.place ∙ ap (misfit_of parts) c.as_bytes.ensures.value)

pub returns-in-None-clause-value : goal.returns-in-None-clause-value
returns-in-None-clause-value c =
    let n = c.octets_of_length-count.result in
    let text = c.args.text.now in
    let parts = take (n + n / 2) AREA_TEXT in
    let count = counted text n c.octets_of_length-count.ensures in
    let fits = c.in-None.ensures.place ∙ ap (misfit_of parts) c.as_bytes.ensures.value in
    let octets = c.in-None.ensures.octets ∙ ap (octets_of parts) c.as_bytes.ensures.value in
    let taken : c.unwrap.result ≡ take n c.read_parts.new.octets = rw c.unwrap.ensures at c.new.ensures.some in
    let sized : octet_count parts ≡ n = ap octet_count (form-front n count.some count.fits) ∙ area_form-count n in
    area_of-octets text c.unwrap.result parts (form-same n (length text) c.octets_of_length-count.ensures) fits
    (taken ∙ ap (λ (k : ℕ). take k c.read_parts.new.octets) (sym sized) ∙ octets)
