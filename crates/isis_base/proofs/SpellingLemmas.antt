-- What is written into a form reads back.
use Rattle.std.proofs.Common.{◌≡◌, ℕ, ◌+◌, ◌*◌, ◌/◌, ◌%◌, ◌<◌, Bool, true, false, cond, eqb, ltb, List, [], ◌∷◌, ◌++◌, length, take, Option, Some, None, Result, Ok, Err, refl, sym, ap, ◌∙◌, arith}
use Rattle.std.specs.Char.{digit_value, digit_char, to_ascii_lowercase}
use Rattle.std.specs.Str.{str_to_ascii_lowercase}
use Rattle.std.proofs.lemmas.Bool.{eq-eqb, eqb-true, ltb-true, lt-ltb}
use Rattle.std.proofs.lemmas.Bool.Decides.{nat_tests}
use Rattle.isis_base.specs.declared.parts.Part.{Part}
use Rattle.isis_base.specs.declared.parts.Part.TheVariants.{Octet, Mark}
use Rattle.isis_base.specs.Texts.{form_text, octet_count, Spells, HasForm, IsFaultAt}
use Rattle.std.specs.List.{AllByRecursion}
use Rattle.isis_base.specs.Misfit.{later, pair_of, after_pair, misfit_of, octets_of, before_octets, unless_misfit, text_octets}
use Rattle.isis_base.proofs.MisfitLemmas.{later-none, misfit_of-longest, misfit_of-goes_on, misfit_of-within}

-- no mark is a letter
abbrev pub HasPlainMarks : List Part → Type 0
HasPlainMarks [] = Unit {0}
HasPlainMarks (Mark m ∷ parts) = (m < 65) × HasPlainMarks parts
HasPlainMarks (Octet ∷ parts) = HasPlainMarks parts

digit-lower : (c : ℕ) → digit_value c < 16 → to_ascii_lowercase c ≡ digit_char (digit_value c)
digit-lower c h = grind (arith, nat_tests)

lower-digit : (c d : ℕ) → d < 16 → to_ascii_lowercase c ≡ digit_char d → digit_value c ≡ d
lower-digit c d h e = grind (arith, nat_tests)

lower-plain : (c m : ℕ) → m < 65 → to_ascii_lowercase c ≡ m → c ≡ m
lower-plain c m h e = grind (arith, nat_tests)

plain-lower : (m : ℕ) → m < 65 → to_ascii_lowercase m ≡ m
plain-lower m h = grind (arith, nat_tests)

-- what the two digits of an octet are
record IsPair (h l o : ℕ) : Type 0 where
  small : o < 256
  high : to_ascii_lowercase h ≡ digit_char (o / 16)
  low : to_ascii_lowercase l ≡ digit_char (o % 16)

pair-from_values : (h l : ℕ) → digit_value h < 16 → digit_value l < 16 → IsPair h l (16 * digit_value h + digit_value l)
pair-from_values h l p q =
    let a = digit_value h in
    let b = digit_value l in
    let quotient : (16 * digit_value h + digit_value l) / 16 ≡ digit_value h = omega arith in
    let rest : (16 * digit_value h + digit_value l) % 16 ≡ digit_value l = omega arith in
    record {
      small = omega arith;
      high = digit-lower h p ∙ ap digit_char (sym quotient);
      low = digit-lower l q ∙ ap digit_char (sym rest);
    }

spells-pair : (parts : List Part) (h l : ℕ) (text : List ℕ) → (misfit_of parts text ≡ None → Spells parts text (octets_of parts text)) → (t u : Bool) → ltb (digit_value h) 16 ≡ t → ltb (digit_value l) 16 ≡ u → after_pair (cond t (cond u (Ok (16 * digit_value h + digit_value l)) (Err 1)) (Err 0)) (misfit_of parts text) ≡ None → Spells (Octet ∷ parts) (h ∷ l ∷ text) (before_octets (cond t (cond u (Ok (16 * digit_value h + digit_value l)) (Err 1)) (Err 0)) (octets_of parts text))
spells-pair parts h l text rec true true t u e =
    let rest = rec (later-none 2 (misfit_of parts text) e) in
    let pair = pair-from_values h l (ltb-true _ _ t) (ltb-true _ _ u) in
    record {
      small = (pair.small, rest.small);
      count = omega (arith, rest.count);
      same = let a = pair.high in let b = pair.low in let c = rest.same in cc;
    }
spells-pair parts h l text rec true false t u e = cc
spells-pair parts h l text rec false v t u e = cc

spells-mark : (parts : List Part) (m b : ℕ) (text : List ℕ) → m < 65 → (misfit_of parts text ≡ None → Spells parts text (octets_of parts text)) → (t : Bool) → eqb b m ≡ t → cond t (later 1 (misfit_of parts text)) (Some 0) ≡ None → Spells (Mark m ∷ parts) (b ∷ text) (octets_of parts text)
spells-mark parts m b text h rec true t e =
    let rest = rec (later-none 1 (misfit_of parts text) e) in
    let byte : b ≡ m = eqb-true b m t in
    record {
      small = rest.small;
      count = rest.count;
      same = let a : to_ascii_lowercase b ≡ m = ap to_ascii_lowercase byte ∙ plain-lower m h in let c = rest.same in cc;
    }
spells-mark parts m b text h rec false t e = cc

never : (t : Bool) → cond {A = Option ℕ} t (Some 1) (Some 0) ≡ None → ⊥
never true e = cc
never false e = cc

-- a text that fits the form spells the octets of its digits
pub Spells-from_misfit : (parts : List Part) (text : List ℕ) → HasPlainMarks parts → misfit_of parts text ≡ None → Spells parts text (octets_of parts text)
unfolding misfit_of octets_of
Spells-from_misfit [] [] h e = record { small = tt; count = refl; same = refl }
Spells-from_misfit [] (b ∷ text) h e = cc
Spells-from_misfit (Mark m ∷ parts) [] h e = cc
Spells-from_misfit (Mark m ∷ parts) (b ∷ text) h e = spells-mark parts m b text h.0 (Spells-from_misfit parts text h.1) (eqb b m) refl e
Spells-from_misfit (Octet ∷ parts) [] h e = cc
Spells-from_misfit (Octet ∷ parts) (c ∷ []) h e = absurd (never (ltb (digit_value c) 16) e)
Spells-from_misfit (Octet ∷ parts) (c ∷ l ∷ text) h e = spells-pair parts c l text (Spells-from_misfit parts text h) (ltb (digit_value c) 16) (ltb (digit_value l) 16) refl refl e

-- a text that spells octets fits the form, and its digits have those octets
pub record Fits (parts : List Part) (text octets : List ℕ) : Type 0 where
  pub fits : misfit_of parts text ≡ None
  pub read : octets_of parts text ≡ octets

ok-same : (a b : ℕ) → a ≡ b → ◌≡◌ {A = Result ℕ ℕ} (Ok a) (Ok b)
ok-same a b e = cc

fits-pair : (parts : List Part) (h l o : ℕ) (text octets : List ℕ) → o < 256 → to_ascii_lowercase h ≡ digit_char (o / 16) → to_ascii_lowercase l ≡ digit_char (o % 16) → Fits parts text octets → Fits (Octet ∷ parts) (h ∷ l ∷ text) (o ∷ octets)
unfolding misfit_of octets_of
fits-pair parts h l o text octets small high low rest =
    let first : digit_value h ≡ o / 16 = lower-digit h (o / 16) (omega arith) high in
    let second : digit_value l ≡ o % 16 = lower-digit l (o % 16) (omega arith) low in
    let whole : 16 * digit_value h + digit_value l ≡ o = omega arith in
    let t : ltb (digit_value h) 16 ≡ true = lt-ltb _ _ (omega arith) in
    let u : ltb (digit_value l) 16 ≡ true = lt-ltb _ _ (omega arith) in
    let value : pair_of h l ≡ cond true (cond true (Ok (16 * digit_value h + digit_value l)) (Err 1)) (Err 0) = rw (t, u) in
    let pair : pair_of h l ≡ Ok o = cc (ok-same (16 * digit_value h + digit_value l) o whole) in
    record {
      fits = ap (λ (x : Result ℕ ℕ). after_pair x (misfit_of parts text)) pair ∙ ap (later 2) rest.fits;
      read = ap (λ (x : Result ℕ ℕ). before_octets x (octets_of parts text)) pair ∙ ap (λ (x : List ℕ). o ∷ x) rest.read;
    }

fits-mark : (parts : List Part) (m b : ℕ) (text octets : List ℕ) → b ≡ m → Fits parts text octets → Fits (Mark m ∷ parts) (b ∷ text) octets
unfolding misfit_of octets_of
fits-mark parts m b text octets same rest = record {
  fits = ap (λ (t : Bool). cond t (later 1 (misfit_of parts text)) (Some 0)) (eq-eqb b m same) ∙ ap (later 1) rest.fits;
  read = rest.read;
}

-- a text that spells octets fits the form, and its digits have those octets
pub Spells-fits : (parts : List Part) (text octets : List ℕ) → HasPlainMarks parts → Spells parts text octets → Fits parts text octets
unfolding misfit_of octets_of
Spells-fits [] [] [] h s = record { fits = refl; read = refl }
Spells-fits [] [] (o ∷ octets) h s = absurd (let count = s.count in omega arith)
Spells-fits [] (b ∷ text) octets h s = let same = s.same in cc
Spells-fits (Mark m ∷ parts) [] octets h s = let same = s.same in cc
Spells-fits (Mark m ∷ parts) (b ∷ text) octets h s =
    let same = s.same in
    let byte : to_ascii_lowercase b ≡ m = cc in
    fits-mark parts m b text octets (lower-plain b m h.0 byte) (Spells-fits parts text octets h.1 (record { small = s.small; count = s.count; same = cc }))
Spells-fits (Octet ∷ parts) text [] h s = absurd (let count = s.count in omega arith)
Spells-fits (Octet ∷ parts) [] (o ∷ octets) h s = let same = s.same in cc
Spells-fits (Octet ∷ parts) (c ∷ []) (o ∷ octets) h s = let same = s.same in cc
Spells-fits (Octet ∷ parts) (c ∷ l ∷ text) (o ∷ octets) h s =
    let same = s.same in
    let count = s.count in
    let high : to_ascii_lowercase c ≡ digit_char (o / 16) = cc in
    let low : to_ascii_lowercase l ≡ digit_char (o % 16) = cc in
    fits-pair parts c l o text octets s.small.0 high low (Spells-fits parts text octets h (record { small = s.small.1; count = omega arith; same = cc }))

-- where a text doesn't fit the form is its fault
pub IsFaultAt-from_misfit : (parts : List Part) (text : List ℕ) (place : ℕ) → HasPlainMarks parts → misfit_of parts text ≡ Some place → IsFaultAt (HasForm parts) text place
IsFaultAt-from_misfit parts text place h e =
    let on = misfit_of-goes_on parts text place e in
    record {
      none = λ (octets, s). let fits = (Spells-fits parts text octets h s).fits in cc;
      within = misfit_of-within parts text place e;
      begins = (on.0, (octets_of parts (take place text ++ on.0), Spells-from_misfit parts (take place text ++ on.0) h on.1));
      longest = λ n more below (octets, s). misfit_of-longest parts text more n place e (Spells-fits parts (take n text ++ more) octets h s).fits below;
    }

digit_char-lower : (d : ℕ) → d < 16 → to_ascii_lowercase (digit_char d) ≡ digit_char d
digit_char-lower d h = grind (arith, nat_tests)

-- octets written into a form spell themselves
pub Spells-spelled : (parts : List Part) (octets : List ℕ) → HasPlainMarks parts → AllByRecursion (λ octet. octet < 256) octets → length octets ≡ octet_count parts → Spells parts (form_text parts octets) octets
Spells-spelled parts octets plain small count = record { small = small; count = count; same = lower-spelled parts octets plain small }
  where
    lower-spelled : (parts : List Part) (octets : List ℕ) → HasPlainMarks parts → AllByRecursion (λ octet. octet < 256) octets → str_to_ascii_lowercase (form_text parts octets) ≡ form_text parts octets
    lower-spelled [] octets plain small = refl
    lower-spelled (Mark m ∷ parts) octets plain small = let a = plain-lower m plain.0 in let b = lower-spelled parts octets plain.1 small in cc
    lower-spelled (Octet ∷ parts) [] plain small = refl
    lower-spelled (Octet ∷ parts) (o ∷ octets) plain small =
        let a = digit_char-lower (o / 16) (omega (arith, small.0)) in
        let b = digit_char-lower (o % 16) (omega (arith, small.0)) in
        let c = lower-spelled parts octets plain small.1 in
        cc

-- a text spells one list of octets
pub Spells-one : (parts : List Part) (text a b : List ℕ) → HasPlainMarks parts → Spells parts text a → Spells parts text b → a ≡ b
Spells-one parts text a b plain p q = sym (Spells-fits parts text a plain p).read ∙ (Spells-fits parts text b plain q).read

-- a text that spells octets is read as them
pub text_octets-spelled : (parts : List Part) (text octets : List ℕ) → HasPlainMarks parts → Spells parts text octets → text_octets parts text ≡ Some octets
unfolding text_octets
text_octets-spelled parts text octets plain s =
    let f = Spells-fits parts text octets plain s in
    ap (λ (place : Option ℕ). unless_misfit place (octets_of parts text)) f.fits ∙ ap Some f.read
