-- Area addresses' texts: their forms by length, what is read of them and where they go wrong.
use Rattle.std.proofs.Common.{◌≡◌, ℕ, zero, suc, ◌+◌, ◌*◌, ◌/◌, ◌-◌, ◌<◌, ◌≤◌, Bool, true, false, cond, eqb, ltb, List, [], ◌∷◌, ◌++◌, length, take, Option, Some, None, Result, Ok, Err, refl, sym, ap, ◌∙◌, subst, arith, inl, inr, append_assoc, lit<, zero-add, max, min}
use Rattle.std.specs.Char.{digit_value}
use Rattle.std.specs.List.{AllByRecursion}
use Rattle.std.specs.Str.{str_to_ascii_lowercase}
use Rattle.std.proofs.lemmas.Bool.{cases_lt, cases_order}
use Rattle.isis_base.specs.declared.parts.Part.{Part}
use Rattle.isis_base.specs.declared.parts.Part.TheVariants.{Octet, Mark}
use Rattle.isis_base.specs.declared.area_text.TheConstants.{AREA_TEXT}
use Rattle.isis_base.specs.Texts.{form_text, octet_count, Spells, IsFaultAt}
use Rattle.isis_base.specs.AreaTexts.{groups_text, area_text, SpellsArea, IsAreaText, octets_of_length, area_of}
use Rattle.isis_base.specs.Misfit.{later, pair_of, after_pair, misfit_of, octets_of, unless_misfit, text_octets}
use Rattle.isis_base.proofs.MisfitLemmas.{later-none, misfit_of-longest, misfit_of-goes_on, misfit_of-within, blank, misfit_of-blank, never-none}
use Rattle.isis_base.proofs.SpellingLemmas.{HasPlainMarks, Spells-from_misfit, Spells-fits, Spells-one, Spells-spelled, text_octets-spelled}

-- the form of the groups of n octets
abbrev pub group_form : ℕ → List Part
group_form zero = []
group_form (suc zero) = Mark 46 ∷ Octet ∷ []
group_form (suc (suc n)) = Mark 46 ∷ Octet ∷ Octet ∷ group_form n

-- the form of an area address of n octets
abbrev pub area_form : ℕ → List Part
area_form zero = []
area_form (suc n) = Octet ∷ group_form n

-- the code takes that form off the front of the longest
pub form-front : (n : ℕ) → 1 ≤ n → n ≤ 13 → take (n + n / 2) AREA_TEXT ≡ area_form n
form-front zero some fits = absurd (omega arith)
form-front (suc zero) some fits = refl
form-front (suc (suc zero)) some fits = refl
form-front (suc (suc (suc zero))) some fits = refl
form-front (suc (suc (suc (suc zero)))) some fits = refl
form-front (suc (suc (suc (suc (suc zero))))) some fits = refl
form-front (suc (suc (suc (suc (suc (suc zero)))))) some fits = refl
form-front (suc (suc (suc (suc (suc (suc (suc zero))))))) some fits = refl
form-front (suc (suc (suc (suc (suc (suc (suc (suc zero)))))))) some fits = refl
form-front (suc (suc (suc (suc (suc (suc (suc (suc (suc zero))))))))) some fits = refl
form-front (suc (suc (suc (suc (suc (suc (suc (suc (suc (suc zero)))))))))) some fits = refl
form-front (suc (suc (suc (suc (suc (suc (suc (suc (suc (suc (suc zero))))))))))) some fits = refl
form-front (suc (suc (suc (suc (suc (suc (suc (suc (suc (suc (suc (suc zero)))))))))))) some fits = refl
form-front (suc (suc (suc (suc (suc (suc (suc (suc (suc (suc (suc (suc (suc zero))))))))))))) some fits = refl
form-front (suc (suc (suc (suc (suc (suc (suc (suc (suc (suc (suc (suc (suc (suc n)))))))))))))) some fits = absurd (omega arith)

group_form-plain : (n : ℕ) → HasPlainMarks (group_form n)
group_form-plain zero = tt
group_form-plain (suc zero) = (lit< tt, tt)
group_form-plain (suc (suc n)) = (lit< tt, group_form-plain n)

area_form-plain : (n : ℕ) → HasPlainMarks (area_form n)
area_form-plain zero = tt
area_form-plain (suc n) = group_form-plain n

group_form-count : (n : ℕ) → octet_count (group_form n) ≡ n
group_form-count zero = refl
group_form-count (suc zero) = refl
group_form-count (suc (suc n)) = omega (arith, group_form-count n)

pub area_form-count : (n : ℕ) → octet_count (area_form n) ≡ n
area_form-count zero = refl
area_form-count (suc n) = omega (arith, group_form-count n)

groups-spelled : (octets : List ℕ) → form_text (group_form (length octets)) octets ≡ groups_text octets
groups-spelled [] = refl
groups-spelled (a ∷ []) = refl
groups-spelled (a ∷ b ∷ octets) = let rest = groups-spelled octets in cc

area-spelled : (octets : List ℕ) → form_text (area_form (length octets)) octets ≡ area_text octets
area-spelled [] = refl
area-spelled (a ∷ octets) = let rest = groups-spelled octets in cc

-- an area's text is that of its form
pub Spells-from_area : (text octets : List ℕ) → SpellsArea text octets → Spells (area_form (length octets)) text octets
Spells-from_area text octets s = record { small = s.small; count = sym (area_form-count (length octets)); same = s.same ∙ sym (area-spelled octets) }

pub SpellsArea-from_form : (n : ℕ) (text octets : List ℕ) → 1 ≤ n → n ≤ 13 → Spells (area_form n) text octets → SpellsArea text octets
SpellsArea-from_form n text octets some fits s =
    let count : n ≡ length octets = sym (s.count ∙ area_form-count n) in
    record {
      small = s.small;
      some = omega arith;
      fits = omega arith;
      same = subst (λ (m : ℕ). str_to_ascii_lowercase text ≡ form_text (area_form m) octets) count s.same ∙ area-spelled octets;
    }

-- the length of the texts of a form
abbrev width : List Part → ℕ
width [] = 0
width (Mark m ∷ parts) = suc (width parts)
width (Octet ∷ parts) = suc (suc (width parts))

mark-width : (one : Option ℕ) (n w : ℕ) → (one ≡ None → n ≡ w) → (t : Bool) → cond t (later 1 one) (Some 0) ≡ None → suc n ≡ suc w
mark-width one n w rec true e = ap suc (rec (later-none 1 one e))
mark-width one n w rec false e = cc

pair-width : (one : Option ℕ) (n w : ℕ) → (one ≡ None → n ≡ w) → (pair : Result ℕ ℕ) → after_pair pair one ≡ None → suc (suc n) ≡ suc (suc w)
pair-width one n w rec (Ok o) e = ap (λ (x : ℕ). suc (suc x)) (rec (later-none 2 one e))
pair-width one n w rec (Err d) e = cc

-- a text that fits a form has its length
fits-width : (parts : List Part) (text : List ℕ) → misfit_of parts text ≡ None → length text ≡ width parts
unfolding misfit_of
fits-width [] [] e = refl
fits-width [] (b ∷ text) e = cc
fits-width (Mark m ∷ parts) [] e = cc
fits-width (Mark m ∷ parts) (b ∷ text) e = mark-width (misfit_of parts text) (length text) (width parts) (fits-width parts text) (eqb b m) e
fits-width (Octet ∷ parts) [] e = cc
fits-width (Octet ∷ parts) (h ∷ []) e = absurd (never-none (ltb (digit_value h) 16) e)
fits-width (Octet ∷ parts) (h ∷ l ∷ text) e = pair-width (misfit_of parts text) (length text) (width parts) (fits-width parts text) (pair_of h l) e

mark-fits : (one two : Option ℕ) → (one ≡ None → two ≡ None) → (t : Bool) → cond t (later 1 one) (Some 0) ≡ None → cond t (later 1 two) (Some 0) ≡ None
mark-fits one two rec true e = ap (later 1) (rec (later-none 1 one e))
mark-fits one two rec false e = cc

pair-fits : (one two : Option ℕ) → (one ≡ None → two ≡ None) → (pair : Result ℕ ℕ) → after_pair pair one ≡ None → after_pair pair two ≡ None
pair-fits one two rec (Ok o) e = ap (later 2) (rec (later-none 2 one e))
pair-fits one two rec (Err d) e = cc

-- two texts that fit fit together
fits-append : (parts others : List Part) (text more : List ℕ) → misfit_of others more ≡ None → misfit_of parts text ≡ None → misfit_of (parts ++ others) (text ++ more) ≡ None
unfolding misfit_of
fits-append [] others [] more f e = f
fits-append [] others (b ∷ text) more f e = cc
fits-append (Mark m ∷ parts) others [] more f e = cc
fits-append (Mark m ∷ parts) others (b ∷ text) more f e = mark-fits (misfit_of parts text) (misfit_of (parts ++ others) (text ++ more)) (fits-append parts others text more f) (eqb b m) e
fits-append (Octet ∷ parts) others [] more f e = cc
fits-append (Octet ∷ parts) others (h ∷ []) more f e = absurd (never-none (ltb (digit_value h) 16) e)
fits-append (Octet ∷ parts) others (h ∷ l ∷ text) more f e = pair-fits (misfit_of parts text) (misfit_of (parts ++ others) (text ++ more)) (fits-append parts others text more f) (pair_of h l) e

-- the front of a text that fits a form fits the front of the form
fits-take : (parts others : List Part) (text : List ℕ) → misfit_of (parts ++ others) text ≡ None → misfit_of parts (take (width parts) text) ≡ None
unfolding misfit_of
fits-take [] others [] e = refl
fits-take [] others (b ∷ text) e = refl
fits-take (Mark m ∷ parts) others [] e = cc
fits-take (Mark m ∷ parts) others (b ∷ text) e = mark-fits (misfit_of (parts ++ others) text) (misfit_of parts (take (width parts) text)) (fits-take parts others text) (eqb b m) e
fits-take (Octet ∷ parts) others [] e = cc
fits-take (Octet ∷ parts) others (h ∷ []) e = absurd (never-none (ltb (digit_value h) 16) e)
fits-take (Octet ∷ parts) others (h ∷ l ∷ text) e = pair-fits (misfit_of (parts ++ others) text) (misfit_of parts (take (width parts) text)) (fits-take parts others text) (pair_of h l) e

-- the form of fewer octets begins that of more
group_form-more : (n k : ℕ) → (rest : List Part) × (group_form (n + k) ≡ group_form n ++ rest)
group_form-more zero k = (group_form k, ap group_form (zero-add k))
group_form-more (suc zero) zero = ([], refl)
group_form-more (suc zero) (suc k) = (Octet ∷ group_form k, ap group_form (let e : suc zero + suc k ≡ suc (suc k) = omega arith in e))
group_form-more (suc (suc n)) k =
    let more = group_form-more n k in
    (more.0, ap group_form (let e : suc (suc n) + k ≡ suc (suc (n + k)) = omega arith in e) ∙ ap (λ (form : List Part). Mark 46 ∷ Octet ∷ Octet ∷ form) more.1)

area_form-more : (n m : ℕ) → 1 ≤ n → n ≤ m → (rest : List Part) × (area_form m ≡ area_form n ++ rest)
area_form-more zero m some more = absurd (omega arith)
area_form-more (suc n) m some more =
    let found = group_form-more n (m - suc n) in
    let whole : m ≡ suc (n + (m - suc n)) = omega arith in
    (found.0, ap area_form whole ∙ ap (λ (form : List Part). Octet ∷ form) found.1)

group_form-width : (n : ℕ) → width (group_form n) ≡ 2 * n + (n + 1) / 2
group_form-width zero = omega arith
group_form-width (suc zero) = omega arith
group_form-width (suc (suc n)) = let rest = group_form-width n in omega arith

area_form-width : (n : ℕ) → width (area_form n) ≡ 2 * n + n / 2
area_form-width zero = omega arith
area_form-width (suc n) = let rest = group_form-width n in omega arith

-- a text that fits the form of some octets has their length
pub area-length : (text octets : List ℕ) → SpellsArea text octets → length text ≡ 2 * length octets + length octets / 2
area-length text octets s =
    let n = length octets in
    fits-width (area_form n) text (Spells-fits (area_form n) text octets (area_form-plain n) (Spells-from_area text octets s)).fits ∙ area_form-width n

-- a text spells one area address
pub SpellsArea-one : (text a b : List ℕ) → SpellsArea text a → SpellsArea text b → a ≡ b
SpellsArea-one text a b p q =
    let of_a = area-length text a p in
    let of_b = area-length text b q in
    let count : length b ≡ length a = omega arith in
    Spells-one (area_form (length a)) text a b (area_form-plain (length a)) (Spells-from_area text a p)
    (subst (λ (n : ℕ). Spells (area_form n) text b) count (Spells-from_area text b q))

-- what is known of the number of octets by the text's length
pub record IsCount (length n : ℕ) : Type 0 where
  pub some : 1 ≤ n
  pub fits : n ≤ 13
  pub no_shorter : n < 13 → length ≤ 2 * n + n / 2
  pub least : 1 < n → 2 * (n - 1) + (n - 1) / 2 < length

IsCount-one : (long n m : ℕ) → IsCount long n → 1 ≤ m → m ≤ 13 → long ≡ 2 * m + m / 2 → m ≡ n
IsCount-one long n m count some fits e =
    elim (cases_order m n) [
      | inl same ↦ same
      | inr (inl below) ↦ absurd (let least = count.least (omega arith) in omega arith)
      | inr (inr above) ↦ absurd (let room = count.no_shorter (omega arith) in omega arith)
    ]

-- a text of n octets fits the longer form once it goes on
longer-fits : (n m : ℕ) (text : List ℕ) → 1 ≤ m → m ≤ n → misfit_of (area_form m) text ≡ None → (more : List ℕ) × (misfit_of (area_form n) (text ++ more) ≡ None)
longer-fits n m text some below e =
    let found = area_form-more m n some below in
    (blank found.0, subst (λ (form : List Part). misfit_of form (text ++ blank found.0) ≡ None) (sym found.1) (fits-append (area_form m) found.0 text (blank found.0) (misfit_of-blank found.0) e))

take-append : (w k : ℕ) (text more : List ℕ) → k ≤ length text → k ≤ w → take w (take k text ++ more) ≡ take k text ++ take (w - k) more
take-append w zero text more h below = ap (λ (n : ℕ). take n more) (let e : w ≡ w - 0 = omega arith in e)
take-append zero (suc k) text more h below = absurd (omega arith)
take-append (suc w) (suc k) [] more h below = absurd (omega arith)
take-append (suc w) (suc k) (b ∷ text) more h below =
    let rest = take-append w k text more (omega arith) (omega arith) in
    let same : w - k ≡ suc w - suc k = omega arith in
    ap (λ (front : List ℕ). b ∷ front) (rest ∙ ap (λ (n : ℕ). take k text ++ take n more) same)

-- what begins a text of m octets begins one of n, as far as that goes
front-fits : (n m k : ℕ) (text more : List ℕ) → IsCount (length text) n → 1 ≤ m → m ≤ 13 → k ≤ length text → misfit_of (area_form m) (take k text ++ more) ≡ None → (rest : List ℕ) × (misfit_of (area_form n) (take k text ++ rest) ≡ None)
front-fits n m k text more count some fits within e =
    elim (cases_lt n m) [
      | inl above ↦
          let found = area_form-more n m count.some (omega arith) in
          let w = width (area_form n) in
          let wide : w ≡ 2 * n + n / 2 = area_form-width n in
          let room : length text ≤ 2 * n + n / 2 = count.no_shorter (omega arith) in
          let cut = fits-take (area_form n) found.0 (take k text ++ more) (subst (λ (form : List Part). misfit_of form (take k text ++ more) ≡ None) found.1 e) in
          (take (w - k) more, subst (λ (front : List ℕ). misfit_of (area_form n) front ≡ None) (take-append w k text more within (omega arith)) cut)
      | inr below ↦
          let found = longer-fits n m (take k text ++ more) some below e in
          (more ++ found.0, subst (λ (front : List ℕ). misfit_of (area_form n) front ≡ None) (append_assoc (take k text) more found.0) found.1)
    ]

-- where a text doesn't fit the form of its length is its fault
pub IsFaultAt-area : (n : ℕ) (text : List ℕ) (place : ℕ) → IsCount (length text) n → misfit_of (area_form n) text ≡ Some place → IsFaultAt IsAreaText text place
IsFaultAt-area n text place count e =
    let plain = area_form-plain n in
    let on = misfit_of-goes_on (area_form n) text place e in
    record {
      none = λ (octets, s).
          let m = length octets in
          let same = IsCount-one (length text) n m count s.some s.fits (area-length text octets s) in
          let fit = (Spells-fits (area_form m) text octets (area_form-plain m) (Spells-from_area text octets s)).fits in
          let other : misfit_of (area_form n) text ≡ None = subst (λ (k : ℕ). misfit_of (area_form k) text ≡ None) same fit in
          cc;
      within = misfit_of-within (area_form n) text place e;
      begins = (on.0, (octets_of (area_form n) (take place text ++ on.0), SpellsArea-from_form n (take place text ++ on.0) (octets_of (area_form n) (take place text ++ on.0)) count.some count.fits (Spells-from_misfit (area_form n) (take place text ++ on.0) plain on.1)));
      longest = λ k more within (octets, s).
          let m = length octets in
          let fit = (Spells-fits (area_form m) (take k text ++ more) octets (area_form-plain m) (Spells-from_area (take k text ++ more) octets s)).fits in
          let found = front-fits n m k text more count s.some s.fits within fit in
          misfit_of-longest (area_form n) text found.0 k place e found.1 within;
    }

-- what is read of a text that fits the form of its length is the area address that it spells
pub SpellsArea-from_misfit : (n : ℕ) (parts : List Part) (text read area : List ℕ) → IsCount (length text) n → parts ≡ area_form n → None ≡ misfit_of parts text → take (octet_count parts) read ≡ octets_of parts text → area ≡ take n read → SpellsArea text area
SpellsArea-from_misfit n parts text read area count form fits octets taken =
    let fits_form : misfit_of (area_form n) text ≡ None = sym (fits ∙ ap (λ (p : List Part). misfit_of p text) form) in
    let same : octets_of (area_form n) text ≡ area =
    sym (ap (λ (p : List Part). octets_of p text) form) ∙ sym octets ∙ ap (λ (k : ℕ). take k read) (ap octet_count form ∙ area_form-count n) ∙ sym taken in
    SpellsArea-from_form n text area count.some count.fits (subst (Spells (area_form n) text) same (Spells-from_misfit (area_form n) text (area_form-plain n) fits_form))

-- an area address's text spells it
pub SpellsArea-written : (octets : List ℕ) → 1 ≤ length octets → length octets ≤ 13 → AllByRecursion (λ octet. octet < 256) octets → SpellsArea (area_text octets) octets
SpellsArea-written octets some fits small =
    let n = length octets in
    let s = Spells-spelled (area_form n) octets (area_form-plain n) small (sym (area_form-count n)) in
    subst (λ (text : List ℕ). SpellsArea text octets) (area-spelled octets) (SpellsArea-from_form n (form_text (area_form n) octets) octets some fits s)

-- the number of octets by the text's length
pub octets_of_length-count : (long : ℕ) → IsCount long (octets_of_length long)
octets_of_length-count long = record { some = omega arith; fits = omega arith; no_shorter = λ h. omega arith; least = λ h. omega arith }

-- a text that doesn't fit the form of its length spells no area address
pub area_of-misfit : (text : List ℕ) (place : ℕ) (parts : List Part) → parts ≡ take (octets_of_length (length text) + octets_of_length (length text) / 2) AREA_TEXT → Some place ≡ misfit_of parts text → None ≡ area_of text
unfolding area_of text_octets
area_of-misfit text place parts form e =
    ap (λ (o : Option ℕ). unless_misfit o (octets_of parts text)) e ∙ ap (λ (p : List Part). text_octets p text) form

-- one that fits spells the octets of its digits
pub area_of-octets : (text octets : List ℕ) (parts : List Part) → parts ≡ take (octets_of_length (length text) + octets_of_length (length text) / 2) AREA_TEXT → None ≡ misfit_of parts text → octets ≡ octets_of parts text → Some octets ≡ area_of text
unfolding area_of text_octets
area_of-octets text octets parts form fits e =
    ap Some e ∙ ap (λ (o : Option ℕ). unless_misfit o (octets_of parts text)) fits ∙ ap (λ (p : List Part). text_octets p text) form

-- a text that spells an area address is read as it
pub area_of-spelled : (text octets : List ℕ) → SpellsArea text octets → area_of text ≡ Some octets
unfolding area_of
area_of-spelled text octets s =
    let count = octets_of_length-count (length text) in
    let n = octets_of_length (length text) in
    let m = length octets in
    let same : m ≡ n = IsCount-one (length text) n m count s.some s.fits (area-length text octets s) in
    let form : take (n + n / 2) AREA_TEXT ≡ area_form m = form-front n count.some count.fits ∙ ap area_form (sym same) in
    ap (λ (p : List Part). text_octets p text) form ∙ text_octets-spelled (area_form m) text octets (area_form-plain m) (Spells-from_area text octets s)
