-- Words that are prefixes: what isn't text is none, and what is written of one is read as it.
use Rattle.std.proofs.Common.{◌≡◌, ◌∙◌, ℕ, zero, suc, ◌<◌, ◌-◌, ◌^◌, Bool, true, false, cond, List, [], ◌∷◌, Option, Some, None, refl, ap, arith, inl, inr}
use Rattle.std.specs.Prelude.{option_and_then, ◌==◌, ◌&&◌, nat_lt}
use Rattle.std.specs.Char.{is_ascii_digit}
use Rattle.std.specs.Option.{option_map}
use Rattle.std.specs.Str.{IsUtf8, IsAscii}
use Rattle.std.proofs.lemmas.Bool.{cases_Bool, eqb-true, and_parts}
use Rattle.std.proofs.lemmas.Bool.Decides.{nat_tests}
use Rattle.std.proofs.lemmas.Str.{IsUtf8-from_ascii}
use Rattle.isis_base.specs.declared.prefix.Prefix.{Prefix}
use Rattle.isis_base.specs.PrefixFronts.{after_byte, after_digit, after_mark, after_text, with_octet, mark_behind, parts_of_front, no_front}
use Rattle.isis_base.specs.PrefixTexts.{prefix_text}
use Rattle.isis_base.specs.Prefixes.{prefix_from}
use Rattle.isis_base.proofs.PrefixLemmas.{prefix_parts-spelled}
use Rattle.isis_base.proofs.PrefixValues.{prefix_from-prefix}
use Rattle.line_cuts.specs.Fields.{prefix_of}

digit-ascii : (byte : ℕ) → is_ascii_digit byte ≡ true → byte < 128
digit-ascii byte h = grind (arith, nat_tests)

behind-ascii : (count byte : ℕ) → byte ≡ mark_behind count → byte < 128
behind-ascii count byte e = by (count == 3) e
  where
    by : (t : Bool) → byte ≡ cond t 47 46 → byte < 128
    by true e = omega arith
    by false e = omega arith

mark-ascii : (front mid : _) (byte : ℕ) (number : Option ℕ) → option_and_then (λ (n : ℕ). cond (nat_lt front.count 4 && byte == mark_behind front.count) (Some (with_octet front n)) None) number ≡ Some mid → byte < 128
mark-ascii front mid byte None e = cc
mark-ascii front mid byte (Some n) e =
    elim (cases_Bool (nat_lt front.count 4 && byte == mark_behind front.count)) [
      | inl both ↦ behind-ascii front.count byte (eqb-true byte (mark_behind front.count) (and_parts (nat_lt front.count 4) (byte == mark_behind front.count) both).1)
      | inr off ↦ cc
    ]

byte-ascii : (front mid : _) (byte : ℕ) → after_byte front byte ≡ Some mid → byte < 128
byte-ascii front mid byte e = by (is_ascii_digit byte) refl e
  where
    by : (t : Bool) → is_ascii_digit byte ≡ t → cond t (after_digit front (byte - 48)) (after_mark front byte) ≡ Some mid → byte < 128
    by true d e = digit-ascii byte d
    by false d e = mark-ascii front mid byte front.number e

ascii-more : (byte : ℕ) (text : List ℕ) → byte < 128 → IsAscii text → IsAscii (byte ∷ text)
ascii-more byte text small h zero = small
ascii-more byte text small h (suc i) = h i

-- what goes on as a prefix's text has only octets below 128
after-ascii : (text : List ℕ) (front end : _) → after_text front text ≡ Some end → IsAscii text
unfolding after_text
after-ascii [] front end e = λ i. omega arith
after-ascii (byte ∷ text) front end e = next (after_byte front byte) refl (λ mid h. after-ascii text mid end h) e
  where
    next : (o : _) → after_byte front byte ≡ o → ((mid : _) → after_text mid text ≡ Some end → IsAscii text) → option_and_then (λ mid. after_text mid text) o ≡ Some end → IsAscii (byte ∷ text)
    next None b rest e = λ i. cc
    next (Some mid) b rest e = ascii-more byte text (byte-ascii front mid byte b) (rest mid e)

-- what isn't text is no prefix
pub prefix_of-text : (word : List ℕ) → (IsUtf8 word → ⊥) → prefix_of word ≡ None
prefix_of-text word bad = by (after_text no_front word) refl
  where
    by : (o : _) → after_text no_front word ≡ o → option_and_then (λ (p : ℕ × ℕ). prefix_from p.0 p.1) (option_and_then (λ front. parts_of_front front) o) ≡ None
    by None e = refl
    by (Some end) e = absurd (bad (IsUtf8-from_ascii word (after-ascii word no_front end e)))

-- a prefix is made again of its address and length
pub prefix_of-parts : (o : Option Prefix) → option_and_then (λ (p : ℕ × ℕ). prefix_from p.0 p.1) (option_map (λ (prefix : Prefix). (prefix.address, prefix.length)) o) ≡ o
prefix_of-parts None = refl
prefix_of-parts (Some p) = prefix_from-prefix p p.address p.length refl refl

-- a prefix is read from what is written of it
pub prefix_of-written : (prefix : Prefix) → prefix.address < 2 ^ 32 → prefix_of (prefix_text prefix.address prefix.length) ≡ Some prefix
prefix_of-written prefix small =
    ap (λ (o : Option (ℕ × ℕ)). option_and_then (λ parts. prefix_from parts.0 parts.1) o) (prefix_parts-spelled (prefix_text prefix.address prefix.length) prefix.address prefix.length (record { small = small; fits = prefix.fits; clear = prefix.clear; same = refl }))
    ∙ prefix_from-prefix prefix prefix.address prefix.length refl refl
