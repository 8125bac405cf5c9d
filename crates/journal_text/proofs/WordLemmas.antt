-- Words without a blank or LF, and texts that are cut behind them.
use Rattle.std.proofs.Common.{◌≡◌, ◌∙◌, ℕ, ◌/◌, ◌%◌, ◌<◌, ◌^◌, Bool, true, false, List, [], ◌∷◌, ◌++◌, refl, ap, arith}
use Rattle.std.specs.Prelude.{decimal, codes, ◌==◌, ◌&&◌, not}
use Rattle.std.specs.Char.{digit_char, is_ascii_digit}
use Rattle.std.specs.List.{All, AllByRecursion, join_with_byte, list_all}
use Rattle.std.proofs.lemmas.Bool.{and_parts}
use Rattle.std.proofs.lemmas.Bool.Decides.{nat_tests}
use Rattle.std.proofs.lemmas.Fmt.{decimal_is_IsNumeral_wide}
use Rattle.std.proofs.lemmas.List.{append_assoc}
use Rattle.std.proofs.lemmas.List.Folds.{list_all-append}
use Rattle.std.proofs.lemmas.List.Elements.{All-nil, All-cons}
use Rattle.std.proofs.lemmas.List.Splits.{slice_split_at, slice_split_none}
use Rattle.isis_base.specs.PrefixTexts.{address_text, prefix_text}
use Rattle.isis_base.specs.declared.prefix.Prefix.{Prefix}
use Rattle.line_cuts.specs.HexTexts.{AreOctets, hex_text}
use Rattle.line_cuts.specs.Words.{words_of, lines_of}
use Rattle.line_cuts.proofs.NumeralLemmas.{own}

-- neither a blank nor LF
abbrev pub is_plain : ℕ → Bool
is_plain c = not (c == 32) && not (c == 10)

abbrev pub IsPlain : List ℕ → Type 0
IsPlain word = list_all is_plain word ≡ true

-- no LF
abbrev pub is_inline : ℕ → Bool
is_inline c = not (c == 10)

abbrev pub IsInline : List ℕ → Type 0
IsInline text = list_all is_inline text ≡ true

all-both : (test : ℕ → Bool) (xs ys : List ℕ) → list_all test xs ≡ true → list_all test ys ≡ true → list_all test (xs ++ ys) ≡ true
all-both test xs ys h k = list_all-append test xs ys ∙ ap (λ (b : Bool). b && list_all test ys) h ∙ k

pub plain-both : (xs ys : List ℕ) → IsPlain xs → IsPlain ys → IsPlain (xs ++ ys)
plain-both xs ys h k = all-both is_plain xs ys h k

pub inline-both : (xs ys : List ℕ) → IsInline xs → IsInline ys → IsInline (xs ++ ys)
inline-both xs ys h k = all-both is_inline xs ys h k

all-weaker : (test other : ℕ → Bool) → ((c : ℕ) → test c ≡ true → other c ≡ true) → (word : List ℕ) → list_all test word ≡ true → list_all other word ≡ true
all-weaker test other f [] h = refl
all-weaker test other f (c ∷ word) h =
    let p = and_parts (test c) (list_all test word) h in
    ap (λ (b : Bool). b && list_all other word) (f c p.0) ∙ all-weaker test other f word p.1

digit-plain : (c : ℕ) → is_ascii_digit c ≡ true → is_plain c ≡ true
digit-plain c h = grind (arith, nat_tests)

plain-inline : (c : ℕ) → is_plain c ≡ true → is_inline c ≡ true
plain-inline c h = (and_parts (not (c == 32)) (not (c == 10)) h).1

pub inline-plain : (word : List ℕ) → IsPlain word → IsInline word
inline-plain word h = all-weaker is_plain is_inline plain-inline word h

pub decimal-plain : (n : ℕ) → n < 10 ^ 64 → IsPlain (decimal n)
decimal-plain n h = all-weaker is_ascii_digit is_plain digit-plain (decimal n) (own.from (decimal n) (decimal_is_IsNumeral_wide n h).0.1)

hex-char : (d : ℕ) → d < 16 → is_plain (digit_char d) ≡ true
hex-char d h = grind (arith, nat_tests)

pub hex-plain : (octets : List ℕ) → AreOctets octets → IsPlain (hex_text octets)
hex-plain [] h = refl
hex-plain (octet ∷ octets) h = rw (hex-char (octet / 16) (omega (arith, h.0)), hex-char (octet % 16) (omega arith), hex-plain octets h.1)

join-plain : (c : ℕ) (words : List (List ℕ)) → is_plain c ≡ true → AllByRecursion IsPlain words → IsPlain (join_with_byte c words)
join-plain c [] p h = refl
join-plain c (x ∷ []) p h = h.0
join-plain c (x ∷ y ∷ words) p h = plain-both x (c ∷ join_with_byte c (y ∷ words)) h.0 (ap (λ (b : Bool). b && list_all is_plain (join_with_byte c (y ∷ words))) p ∙ join-plain c (y ∷ words) p h.1)

pub prefix-plain : (prefix : Prefix) → prefix.address < 2 ^ 32 → IsPlain (prefix_text prefix.address prefix.length)
prefix-plain prefix h =
    let a = prefix.address in
    let dots : IsPlain (address_text a) = join-plain 46 (decimal (a / 16777216 % 256) ∷ decimal (a / 65536 % 256) ∷ decimal (a / 256 % 256) ∷ decimal (a % 256) ∷ []) refl
    (decimal-plain (a / 16777216 % 256) (omega arith), (decimal-plain (a / 65536 % 256) (omega arith), (decimal-plain (a / 256 % 256) (omega arith), (decimal-plain (a % 256) (omega arith), tt)))) in
    plain-both (address_text a ++ codes "/") (decimal prefix.length) (plain-both (address_text a) (codes "/") dots refl) (decimal-plain prefix.length (omega (arith, prefix.fits)))

-- ---- cuts

not-true : (b : Bool) → not b ≡ true → b ≡ false
not-true true e = absurd (cc)
not-true false e = refl

no-mark : (mark : ℕ) (text : List ℕ) → list_all (λ c. not (c == mark)) text ≡ true → All (λ c. (c == mark) ≡ false) text
no-mark mark [] h = All-nil _
no-mark mark (c ∷ text) h =
    let p = and_parts (not (c == mark)) (list_all (λ x. not (x == mark)) text) h in
    All-cons (λ x. (x == mark) ≡ false) c text (not-true (c == mark) p.0) (no-mark mark text p.1)

plain-unspaced : (c : ℕ) → is_plain c ≡ true → not (c == 32) ≡ true
plain-unspaced c h = (and_parts (not (c == 32)) (not (c == 10)) h).0

no-blank : (word : List ℕ) → IsPlain word → All (λ c. (c == 32) ≡ false) word
no-blank word h = no-mark 32 word (all-weaker is_plain (λ c. not (c == 32)) plain-unspaced word h)

-- the word before a blank
pub words-next : (word rest : List ℕ) → IsPlain word → words_of (word ++ 32 ∷ rest) ≡ word ∷ words_of rest
words-next word rest h = slice_split_at (λ c. c == 32) word 32 rest (no-blank word h) refl

-- a word alone
pub words-last : (word : List ℕ) → IsPlain word → words_of word ≡ word ∷ []
words-last word h = slice_split_none (λ c. c == 32) word (no-blank word h)

-- two words before a blank
pub words-two : (a b rest : List ℕ) → IsPlain a → IsPlain b → words_of ((a ++ 32 ∷ b) ++ 32 ∷ rest) ≡ a ∷ b ∷ words_of rest
words-two a b rest h k =
    ap words_of (append_assoc a (32 ∷ b) (32 ∷ rest))
    ∙ words-next a (b ++ 32 ∷ rest) h
    ∙ ap (λ (words : List (List ℕ)). a ∷ words) (words-next b rest k)

-- the line before an LF
pub lines-next : (line rest : List ℕ) → IsInline line → lines_of (line ++ 10 ∷ rest) ≡ line ∷ lines_of rest
lines-next line rest h = slice_split_at (λ c. c == 10) line 10 rest (no-mark 10 line h) refl
