-- Octets in hex digits: how many there are, and that they are read as they were written.
use Rattle.std.proofs.Common.{◌≡◌, ◌∙◌, ℕ, ◌+◌, ◌*◌, ◌/◌, ◌%◌, ◌<◌, ◌≤◌, Bool, true, cond, List, [], ◌∷◌, length, Option, Some, None, refl, ap, arith}
use Rattle.std.specs.Prelude.{◌==◌, ◌&&◌, nat_lt}
use Rattle.std.specs.Char.{digit_char, digit_value, is_ascii_hexdigit}
use Rattle.std.specs.List.{list_all}
use Rattle.std.proofs.lemmas.Bool.{and_parts, eqb-true, ltb-true}
use Rattle.std.proofs.lemmas.Bool.Decides.{nat_tests}
use Rattle.line_cuts.specs.HexTexts.{octets_in, octets_of, is_hex, hex_text, AreDigits, AreOctets}

counted : (ds : List ℕ) → (2 * length (octets_in ds) ≤ length ds) × (length ds ≤ 2 * length (octets_in ds) + 1)
unfolding octets_in
counted [] = (omega arith, omega arith)
counted (d ∷ []) = (omega arith, omega arith)
counted (high ∷ low ∷ ds) = let rest = counted ds in (omega (arith, rest.0), omega (arith, rest.1))

pub octets_in-most : (ds : List ℕ) → 2 * length (octets_in ds) ≤ length ds
octets_in-most ds = (counted ds).0

pub octets_in-some : (ds : List ℕ) → is_hex ds ≡ true → 1 ≤ length (octets_in ds)
octets_in-some ds h =
    let both = (and_parts (nat_lt 0 (length ds) && length ds % 2 == 0) (list_all is_ascii_hexdigit ds) h).0 in
    let parts = and_parts (nat_lt 0 (length ds)) (length ds % 2 == 0) both in
    omega (arith, ltb-true 0 (length ds) parts.0, eqb-true (length ds % 2) 0 parts.1, (counted ds).1)

pub is_hex-digits : (ds : List ℕ) → is_hex ds ≡ true → AreDigits ds
is_hex-digits ds h = (and_parts (nat_lt 0 (length ds) && length ds % 2 == 0) (list_all is_ascii_hexdigit ds) h).1

-- ---- what is read of what is written

digit-read : (d : ℕ) → d < 16 → (is_ascii_hexdigit (digit_char d) ≡ true) × (digit_value (digit_char d) ≡ d)
digit-read d h = grind (arith, nat_tests)

pub hex_text-digits : (octets : List ℕ) → AreOctets octets → list_all is_ascii_hexdigit (hex_text octets) ≡ true
hex_text-digits [] h = refl
hex_text-digits (octet ∷ octets) h = rw ((digit-read (octet / 16) (omega (arith, h.0))).0, (digit-read (octet % 16) (omega arith)).0, hex_text-digits octets h.1)

pub hex_text-length : (octets : List ℕ) → length (hex_text octets) ≡ 2 * length octets
hex_text-length [] = refl
hex_text-length (octet ∷ octets) = omega (arith, hex_text-length octets)

pub octets_in-hex_text : (octets : List ℕ) → AreOctets octets → octets_in (hex_text octets) ≡ octets
unfolding octets_in
octets_in-hex_text [] h = refl
octets_in-hex_text (octet ∷ octets) h =
    let value : 16 * digit_value (digit_char (octet / 16)) + digit_value (digit_char (octet % 16)) ≡ octet = omega (arith, (digit-read (octet / 16) (omega (arith, h.0))).1, (digit-read (octet % 16) (omega arith)).1) in
    ap (λ (n : ℕ). n ∷ octets_in (hex_text octets)) value ∙ ap (λ (xs : List ℕ). octet ∷ xs) (octets_in-hex_text octets h.1)

even : (n m : ℕ) → n ≡ 2 * m → (n % 2 == 0) ≡ true
even n m e = grind (arith, nat_tests)

-- octets are read from their hex digits
pub octets_of-hex_text : (octets : List ℕ) → AreOctets octets → octets_of (hex_text octets) ≡ Some octets
octets_of-hex_text octets h =
    ap (λ (t : Bool). cond {A = Option (List ℕ)} (t && list_all is_ascii_hexdigit (hex_text octets)) (Some (octets_in (hex_text octets))) None) (even (length (hex_text octets)) (length octets) (hex_text-length octets))
    ∙ ap (λ (t : Bool). cond {A = Option (List ℕ)} t (Some (octets_in (hex_text octets))) None) (hex_text-digits octets h)
    ∙ ap Some (octets_in-hex_text octets h)
