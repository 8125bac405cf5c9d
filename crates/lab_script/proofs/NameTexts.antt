-- Names are texts.
use Rattle.std.proofs.Common.{◌≡◌, ℕ, zero, suc, ◌<◌, true, List, [], ◌∷◌, length, arith}
use Rattle.std.specs.Prelude.{nat_le, ◌&&◌}
use Rattle.std.specs.Char.{is_ascii_alphabetic, is_ascii_alphanumeric}
use Rattle.std.specs.List.{list_all}
use Rattle.std.specs.Str.{IsUtf8, IsAscii}
use Rattle.std.proofs.lemmas.Bool.{and_parts}
use Rattle.std.proofs.lemmas.Bool.Decides.{nat_tests}
use Rattle.std.proofs.lemmas.Str.{IsUtf8-from_ascii}
use Rattle.lab_script.specs.Fields.{is_name}

letter-small : (c : ℕ) → is_ascii_alphabetic c ≡ true → c < 128
letter-small c h = grind (arith, nat_tests)

sign-small : (c : ℕ) → is_ascii_alphanumeric c ≡ true → c < 128
sign-small c h = grind (arith, nat_tests)

signs-ascii : (word : List ℕ) → list_all is_ascii_alphanumeric word ≡ true → IsAscii word
signs-ascii [] h i = omega arith
signs-ascii (c ∷ word) h zero = sign-small c (and_parts (is_ascii_alphanumeric c) (list_all is_ascii_alphanumeric word) h).0
signs-ascii (c ∷ word) h (suc i) = signs-ascii word (and_parts (is_ascii_alphanumeric c) (list_all is_ascii_alphanumeric word) h).1 i

name-parts : (c : ℕ) (word : List ℕ) → is_name (c ∷ word) ≡ true → (is_ascii_alphabetic c ≡ true) × (list_all is_ascii_alphanumeric word ≡ true)
name-parts c word h =
    let both = and_parts (is_ascii_alphabetic c && nat_le (length word) 15) (list_all is_ascii_alphanumeric word) h in
    ((and_parts (is_ascii_alphabetic c) (nat_le (length word) 15) both.0).0, both.1)

name-ascii : (word : List ℕ) → is_name word ≡ true → IsAscii word
name-ascii [] h i = omega arith
name-ascii (c ∷ word) h zero = letter-small c (name-parts c word h).0
name-ascii (c ∷ word) h (suc i) = signs-ascii word (name-parts c word h).1 i

-- a name is text
pub name-text : (word : List ℕ) → is_name word ≡ true → IsUtf8 word
name-text word h = IsUtf8-from_ascii word (name-ascii word h)
