-- Prefixes' texts, octet by octet.
use Rattle.std.proofs.Common.{◌≡◌, ◌≢◌, ℕ, zero, suc, ◌+◌, ◌*◌, ◌/◌, ◌%◌, ◌^◌, ◌-◌, ◌<◌, ◌≤◌, Bool, true, false, ◌&&◌, cond, eqb, ltb, leb, List, [], ◌∷◌, ◌++◌, length, take, drop, set, get_or, map, decimal, Option, Some, None, option_and_then, refl, sym, ap, ◌∙◌, subst, arith, inl, inr, append_assoc, append-nil, add-one, lit<, lit≤}
use Rattle.std.specs.List.{AllByRecursion, join_with_byte}
use Rattle.std.specs.Char.{is_ascii_digit}
use Rattle.std.specs.Int.{to_be_bytes, w32}
use Rattle.std.proofs.lemmas.Bool.{eqb-true, eq-eqb, ltb-true, lt-ltb, leb-true, le-leb, cases_lt, and_parts, and_from, or_left, false≢true}
use Rattle.std.proofs.lemmas.Bool.Decides.{nat_tests}
use Rattle.std.proofs.lemmas.List.{get_or-set_same, get_or-set_other, length-set, take-append-drop, drop_more}
use Rattle.std.proofs.Math.Seq.{take-length}
use Rattle.std.proofs.lemmas.Nat.{mod-pow-add, be_bytes_4, from_be_bytes-to_be_bytes_4}
use Rattle.std.proofs.lemmas.Fmt.{decimal_digit, decimal_step}
use Rattle.isis_base.specs.declared.prefix_text.Front.{Front}
use Rattle.isis_base.specs.PrefixFronts.{address_of_octets, is_clear, longest, with_digit, may_stand, mark_behind, after_digit, after_mark, after_byte, after_text, ends_text, ends_prefix, no_front, parts_of_front, prefix_parts}
use Rattle.isis_base.specs.PrefixTexts.{SpellsPrefix, IsPrefixText}
use Rattle.isis_base.specs.Texts.{IsFaultAt}

abbrev pub front : List ℕ → ℕ → Option ℕ → Front
front octets count number = record { octets = octets; count = count; number = number }

-- the text that is read: octets with their marks, and the digits of a number
abbrev marked : ℕ → List ℕ → List ℕ
marked zero octets = []
marked (suc count) octets = marked count octets ++ decimal (get_or octets count 0) ++ mark_behind count ∷ []

abbrev digits : Option ℕ → List ℕ
digits None = []
digits (Some number) = decimal number

abbrev said : Front → List ℕ
said f = marked f.count f.octets ++ digits f.number

abbrev Stands : List ℕ → ℕ → Option ℕ → Type 0
Stands octets count None = Unit {0}
Stands octets count (Some number) = (number < 256) × (may_stand octets count number ≡ true)

-- what holds of what is read
pub record IsFront (octets : List ℕ) (count : ℕ) (number : Option ℕ) : Type 0 where
  pub four : length octets ≡ 4
  pub counted : count ≤ 4
  pub small : AllByRecursion (λ octet. octet < 256) octets
  pub stands : Stands octets count number

record Follows (octets : List ℕ) (count : ℕ) (number : Option ℕ) (byte : ℕ) (next : Front) : Type 0 where
  holds : IsFront next.octets next.count next.number
  more : said next ≡ said (front octets count number) ++ byte ∷ []

some-same : {A : Type 0} (x y : A) → Some x ≡ Some y → x ≡ y
some-same x y e = cc

-- ---- one octet more of the text

digit-said : (octets : List ℕ) (count digit : ℕ) (number : Option ℕ) (new : ℕ) → digit < 10 → with_digit number digit ≡ Some new → digits (Some new) ≡ digits number ++ (48 + digit) ∷ []
digit-said octets count digit None new h e =
    let same : digit ≡ new = some-same digit new e in
    ap decimal (sym same) ∙ decimal_digit digit h
digit-said octets count digit (Some number) new h e = with_test (ltb 0 number) (ltb (10 * number + digit) 256) refl refl e
  where
    with_test : (t u : Bool) → ltb 0 number ≡ t → ltb (10 * number + digit) 256 ≡ u → cond (t && u) (Some (10 * number + digit)) None ≡ Some new → decimal new ≡ decimal number ++ (48 + digit) ∷ []
    with_test true true p q e =
        let same : 10 * number + digit ≡ new = some-same (10 * number + digit) new e in
        let above : 0 < number = ltb-true 0 number p in
        let below : 10 * number + digit < 256 = ltb-true (10 * number + digit) 256 q in
        let front : (10 * number + digit) / 10 ≡ number = omega arith in
        let last : (10 * number + digit) % 10 ≡ digit = omega arith in
        ap decimal (sym same) ∙ decimal_step (10 * number + digit) (omega arith) (omega arith)
        ∙ ap (λ (n : ℕ). decimal n ++ (48 + (10 * number + digit) % 10) ∷ []) front
        ∙ ap (λ (n : ℕ). decimal number ++ (48 + n) ∷ []) last
    with_test true false p q e = cc
    with_test false u p q e = cc

digit-small : (digit : ℕ) (number : Option ℕ) (new : ℕ) → digit < 10 → with_digit number digit ≡ Some new → new < 256
digit-small digit None new h e = let same : digit ≡ new = some-same digit new e in omega arith
digit-small digit (Some number) new h e = with_test (ltb 0 number) (ltb (10 * number + digit) 256) refl e
  where
    with_test : (t u : Bool) → ltb (10 * number + digit) 256 ≡ u → cond (t && u) (Some (10 * number + digit)) None ≡ Some new → new < 256
    with_test true true q e =
        let same : 10 * number + digit ≡ new = some-same (10 * number + digit) new e in
        let below : 10 * number + digit < 256 = ltb-true (10 * number + digit) 256 q in
        omega arith
    with_test true false q e = cc
    with_test false u q e = cc

digit-follows : (octets : List ℕ) (count digit : ℕ) (number : Option ℕ) (next : Front) → digit < 10 → IsFront octets count number → after_digit (front octets count number) digit ≡ Some next → Follows octets count number (48 + digit) next
digit-follows octets count digit number next h f e = by_number (with_digit number digit) refl e
  where
    by_test : (new : ℕ) → with_digit number digit ≡ Some new → (t : Bool) → may_stand octets count new ≡ t → cond t (Some (front octets count (Some new))) None ≡ Some next → Follows octets count number (48 + digit) next
    by_test new w true t e =
        let same : front octets count (Some new) ≡ next = some-same (front octets count (Some new)) next e in
        subst (Follows octets count number (48 + digit)) same (record {
          holds = record { four = f.four; counted = f.counted; small = f.small; stands = (digit-small digit number new h w, t) };
          more = ap (λ (ds : List ℕ). marked count octets ++ ds) (digit-said octets count digit number new h w) ∙ sym (append_assoc (marked count octets) (digits number) ((48 + digit) ∷ []));
        })
    by_test new w false t e = cc

    by_number : (o : Option ℕ) → with_digit number digit ≡ o → option_and_then (λ (n : ℕ). cond (may_stand octets count n) (Some (front octets count (Some n))) None) o ≡ Some next → Follows octets count number (48 + digit) next
    by_number None w e = cc
    by_number (Some new) w e = by_test new w (may_stand octets count new) refl e

small-set : (xs : List ℕ) (i x : ℕ) → x < 256 → AllByRecursion (λ octet. octet < 256) xs → AllByRecursion (λ octet. octet < 256) (set xs i x)
small-set [] i x h all = tt
small-set (y ∷ xs) zero x h all = (h, all.1)
small-set (y ∷ xs) (suc i) x h all = (all.0, small-set xs i x h all.1)

-- octets that are read already stay
marked-set : (k count number : ℕ) (octets : List ℕ) → k ≤ count → marked k (set octets count number) ≡ marked k octets
marked-set zero count number octets h = refl
marked-set (suc k) count number octets h =
    let other : k ≢ count = omega arith in
    ap (λ (text : List ℕ). text ++ decimal (get_or (set octets count number) k 0) ++ mark_behind k ∷ []) (marked-set k count number octets (omega arith))
    ∙ ap (λ (n : ℕ). marked k octets ++ decimal n ++ mark_behind k ∷ []) (get_or-set_other octets count k number 0 other)

marked-more : (count number : ℕ) (octets : List ℕ) → count < length octets → marked (count + 1) (set octets count number) ≡ marked count octets ++ decimal number ++ mark_behind count ∷ []
marked-more count number octets h =
    ap (λ (n : ℕ). marked n (set octets count number)) (add-one count)
    ∙ ap (λ (text : List ℕ). text ++ decimal (get_or (set octets count number) count 0) ++ mark_behind count ∷ []) (marked-set count count number octets (omega arith))
    ∙ ap (λ (n : ℕ). marked count octets ++ decimal n ++ mark_behind count ∷ []) (get_or-set_same octets count number 0 h)

mark-follows : (octets : List ℕ) (count mark : ℕ) (number : Option ℕ) (next : Front) → IsFront octets count number → after_mark (front octets count number) mark ≡ Some next → Follows octets count number mark next
mark-follows octets count mark None next f e = cc
mark-follows octets count mark (Some number) next f e = by_test (ltb count 4) (eqb mark (mark_behind count)) refl refl e
  where
    by_test : (t u : Bool) → ltb count 4 ≡ t → eqb mark (mark_behind count) ≡ u → cond (t && u) (Some (front (set octets count number) (count + 1) None)) None ≡ Some next → Follows octets count (Some number) mark next
    by_test true true t u e =
        let four = f.four in
        let below : count < 4 = ltb-true count 4 t in
        let same : front (set octets count number) (count + 1) None ≡ next = some-same (front (set octets count number) (count + 1) None) next e in
        let byte : mark_behind count ≡ mark = sym (eqb-true mark (mark_behind count) u) in
        subst (Follows octets count (Some number) mark) same (record {
          holds = record { four = length-set octets count number ∙ four; counted = omega arith; small = small-set octets count number f.stands.0 f.small; stands = tt };
          more = append-nil (marked (count + 1) (set octets count number)) ∙ marked-more count number octets (omega arith)
              ∙ ap (λ (n : ℕ). marked count octets ++ decimal number ++ n ∷ []) byte;
        })
    by_test true false t u e = cc
    by_test false u t v e = cc

byte-follows : (octets : List ℕ) (count byte : ℕ) (number : Option ℕ) (next : Front) → IsFront octets count number → after_byte (front octets count number) byte ≡ Some next → Follows octets count number byte next
byte-follows octets count byte number next f e = by_test (is_ascii_digit byte) refl e
  where
    by_test : (t : Bool) → is_ascii_digit byte ≡ t → cond t (after_digit (front octets count number) (byte - 48)) (after_mark (front octets count number) byte) ≡ Some next → Follows octets count number byte next
    by_test true t e =
        let low : 48 ≤ byte = leb-true 48 byte (and_parts (leb 48 byte) (leb byte 57) t).0 in
        let high : byte ≤ 57 = leb-true byte 57 (and_parts (leb 48 byte) (leb byte 57) t).1 in
        let same : 48 + (byte - 48) ≡ byte = omega arith in
        subst (λ (b : ℕ). Follows octets count number b next) same (digit-follows octets count (byte - 48) number next (omega arith) f e)
    by_test false t e = mark-follows octets count byte number next f e

then-is_some : {A : Type 0} (k : A → Option A) (o : Option A) (x : A) → option_and_then k o ≡ Some x → (y : A) × (o ≡ Some y) × (k y ≡ Some x)
then-is_some k None x e = cc
then-is_some k (Some y) x e = (y, refl, e)

-- what is read is the text
pub record IsRead (text : List ℕ) (f g : Front) : Type 0 where
  pub holds : IsFront g.octets g.count g.number
  pub whole : said g ≡ said f ++ text

pub text-follows : (text : List ℕ) (f g : Front) → IsFront f.octets f.count f.number → after_text f text ≡ Some g → IsRead text f g
unfolding after_text
text-follows [] f g h e =
    let same : f ≡ g = some-same f g e in
    subst (IsRead [] f) same (record { holds = h; whole = sym (append-nil (said f)) })
text-follows (byte ∷ text) f g h e =
    let found = then-is_some (λ (next : Front). after_text next text) (after_byte f byte) g e in
    let step = byte-follows f.octets f.count byte f.number found.0 h found.1 in
    let rest = text-follows text found.0 g step.holds found.2 in
    record { holds = rest.holds; whole = rest.whole ∙ ap (λ (front : List ℕ). front ++ text) step.more ∙ append_assoc (said f) (byte ∷ []) text }

-- ---- what a prefix's text does

is_digit : (digit : ℕ) → digit < 10 → is_ascii_digit (48 + digit) ≡ true
is_digit digit h = and_from (leb 48 (48 + digit)) (leb (48 + digit) 57) (le-leb 48 (48 + digit) (omega arith)) (le-leb (48 + digit) 57 (omega arith))

read-digit : (octets text : List ℕ) (count digit new : ℕ) (number : Option ℕ) → digit < 10 → with_digit number digit ≡ Some new → may_stand octets count new ≡ true → after_text (front octets count number) ((48 + digit) ∷ text) ≡ after_text (front octets count (Some new)) text
unfolding after_text
read-digit octets text count digit new number h w s =
    let same : 48 + digit - 48 ≡ digit = omega arith in
    let k : Front → Option Front = λ (next : Front). after_text next text in
    ap (λ (t : Bool). option_and_then k (cond t (after_digit (front octets count number) (48 + digit - 48)) (after_mark (front octets count number) (48 + digit)))) (is_digit digit h)
    ∙ ap (λ (d : ℕ). option_and_then k (after_digit (front octets count number) d)) same
    ∙ ap (λ (o : Option ℕ). option_and_then k (option_and_then (λ (n : ℕ). cond (may_stand octets count n) (Some (front octets count (Some n))) None) o)) w
    ∙ ap (λ (t : Bool). option_and_then k (cond t (Some (front octets count (Some new))) None)) s

with_digit-more : (number digit : ℕ) → 0 < number → 10 * number + digit < 256 → with_digit (Some number) digit ≡ Some (10 * number + digit)
with_digit-more number digit above below =
    ap (λ (t : Bool). cond (t && ltb (10 * number + digit) 256) (Some (10 * number + digit)) None) (lt-ltb 0 number above)
    ∙ ap (λ (t : Bool). cond t (Some (10 * number + digit)) None) (lt-ltb (10 * number + digit) 256 below)

-- the numbers whose digits begin those of a number may stand
record MayStand (octets : List ℕ) (count number : ℕ) : Type 0 where
  one : may_stand octets count number ≡ true
  two : 10 ≤ number → may_stand octets count (number / 10) ≡ true
  three : 100 ≤ number → may_stand octets count (number / 10 / 10) ≡ true

read-one : (octets text : List ℕ) (count number : ℕ) → number < 10 → may_stand octets count number ≡ true → after_text (front octets count None) (decimal number ++ text) ≡ after_text (front octets count (Some number)) text
read-one octets text count number h s =
    ap (λ (ds : List ℕ). after_text (front octets count None) (ds ++ text)) (decimal_digit number h)
    ∙ read-digit octets text count number number None h refl s

-- one digit more behind a number that is read
read-last : (octets text : List ℕ) (count number : ℕ) → 10 ≤ number → number < 256 → may_stand octets count number ≡ true → ((more : List ℕ) → after_text (front octets count None) (decimal (number / 10) ++ more) ≡ after_text (front octets count (Some (number / 10))) more) → after_text (front octets count None) (decimal number ++ text) ≡ after_text (front octets count (Some number)) text
read-last octets text count number low high s rec =
    let whole : 10 * (number / 10) + number % 10 ≡ number = omega arith in
    let last : List ℕ = (48 + number % 10) ∷ [] in
    ap (λ (ds : List ℕ). after_text (front octets count None) (ds ++ text)) (decimal_step number low (omega arith))
    ∙ ap (after_text (front octets count None)) (append_assoc (decimal (number / 10)) last text)
    ∙ rec ((48 + number % 10) ∷ text)
    ∙ read-digit octets text count (number % 10) number (Some (number / 10)) (omega arith) (with_digit-more (number / 10) (number % 10) (omega arith) (omega arith) ∙ ap Some whole) s

read-number : (octets text : List ℕ) (count number : ℕ) → number < 256 → MayStand octets count number → after_text (front octets count None) (decimal number ++ text) ≡ after_text (front octets count (Some number)) text
read-number octets text count number h s =
    elim (cases_lt number 10) [
      | inl below ↦ read-one octets text count number below s.one
      | inr above ↦ read-last octets text count number above h s.one (λ more.
          elim (cases_lt number 100) [
            | inl below ↦ read-one octets more count (number / 10) (omega arith) (s.two above)
            | inr above' ↦ read-last octets more count (number / 10) (omega arith) (omega arith) (s.two above) (λ more'.
                read-one octets more' count (number / 10 / 10) (omega arith) (s.three above'))
          ])
    ]

any_octet : (octets : List ℕ) (count number : ℕ) → count < 4 → MayStand octets count number
any_octet octets count number h =
    let any : (n : ℕ) → may_stand octets count n ≡ true = λ n. or_left (ltb count 4) (is_clear (address_of_octets octets) (longest n)) (lt-ltb count 4 h) in
    record { one = any number; two = λ _. any (number / 10); three = λ _. any (number / 10 / 10) }

mark_is_mark : (count : ℕ) → is_ascii_digit (mark_behind count) ≡ false
mark_is_mark count = by_test (eqb count 3)
  where
    by_test : (t : Bool) → is_ascii_digit (cond t 47 46) ≡ false
    by_test true = refl
    by_test false = refl

read-mark : (octets text : List ℕ) (count number : ℕ) → count < 4 → after_text (front octets count (Some number)) (mark_behind count ∷ text) ≡ after_text (front (set octets count number) (count + 1) None) text
unfolding after_text
read-mark octets text count number h =
    let k : Front → Option Front = λ (next : Front). after_text next text in
    let next : Option Front = Some (front (set octets count number) (count + 1) None) in
    ap (λ (t : Bool). option_and_then k (cond t (after_digit (front octets count (Some number)) (mark_behind count - 48)) (after_mark (front octets count (Some number)) (mark_behind count)))) (mark_is_mark count)
    ∙ ap (λ (t : Bool). option_and_then k (cond t next None)) (and_from (ltb count 4) (eqb (mark_behind count) (mark_behind count)) (lt-ltb count 4 h) (eq-eqb (mark_behind count) (mark_behind count) refl))

read-octet : (octets text : List ℕ) (count number : ℕ) → count < 4 → number < 256 → after_text (front octets count None) (decimal number ++ mark_behind count ∷ text) ≡ after_text (front (set octets count number) (count + 1) None) text
read-octet octets text count number h small =
    read-number octets (mark_behind count ∷ text) count number small (any_octet octets count number h) ∙ read-mark octets text count number h

-- ---- lengths

-- bits that are 0 past a length are 0 past a greater one
clear-more : (address low high : ℕ) → low ≤ high → high ≤ 32 → address % 2 ^ (32 - low) ≡ 0 → address % 2 ^ (32 - high) ≡ 0
clear-more address low high h k e =
    let parts : 32 - low ≡ (high - low) + (32 - high) = omega arith in
    let sum = mod-pow-add address (high - low) (32 - high) in
    let none : address % 2 ^ (high - low + (32 - high)) ≡ 0 = ap (λ (n : ℕ). address % 2 ^ n) (sym parts) ∙ e in
    omega (arith, sum, none)

is_clear-from : (address length : ℕ) → length ≤ 32 → address % 2 ^ (32 - length) ≡ 0 → is_clear address length ≡ true
is_clear-from address long h e = and_from (leb long 32) (eqb (address % 2 ^ (32 - long)) 0) (le-leb long 32 h) (eq-eqb (address % 2 ^ (32 - long)) 0 e)

record IsClear (address length : ℕ) : Type 0 where
  fits : length ≤ 32
  clear : address % 2 ^ (32 - length) ≡ 0

IsClear-from : (address length : ℕ) → is_clear address length ≡ true → IsClear address length
IsClear-from address long e =
    let both = and_parts (leb long 32) (eqb (address % 2 ^ (32 - long)) 0) e in
    record { fits = leb-true long 32 both.0; clear = eqb-true (address % 2 ^ (32 - long)) 0 both.1 }

longest-same : (length : ℕ) → length ≤ 32 → (length ≤ longest length) × (longest length ≤ 32)
longest-same long h = (grind (arith, nat_tests), grind (arith, nat_tests))

longest-more : (length : ℕ) → 10 ≤ length → length ≤ 32 → (length ≤ longest (length / 10)) × (longest (length / 10) ≤ 32)
longest-more long h k = (grind (arith, nat_tests), grind (arith, nat_tests))

-- a length that the address has may stand, and so may its first digit
a_length : (octets : List ℕ) (length : ℕ) → length ≤ 32 → address_of_octets octets % 2 ^ (32 - length) ≡ 0 → MayStand octets 4 length
a_length octets long h e =
    let same = longest-same long h in
    record {
      one = is_clear-from (address_of_octets octets) (longest long) same.1 (clear-more (address_of_octets octets) long (longest long) same.0 same.1 e);
      two = λ above. let more = longest-more long above h in
          is_clear-from (address_of_octets octets) (longest (long / 10)) more.1 (clear-more (address_of_octets octets) long (longest (long / 10)) more.0 more.1 e);
      three = λ above. absurd (omega arith);
    }

-- ---- whole texts

prefix-parts : (a b c d long : List ℕ) → join_with_byte 46 (a ∷ b ∷ c ∷ d ∷ []) ++ 47 ∷ [] ++ long ≡ a ++ 46 ∷ (b ++ 46 ∷ (c ++ 46 ∷ (d ++ 47 ∷ long)))
prefix-parts a b c d long = simp append_assoc

marked-parts : (a b c d long : List ℕ) → [] ++ a ++ 46 ∷ [] ++ b ++ 46 ∷ [] ++ c ++ 46 ∷ [] ++ d ++ 47 ∷ [] ++ long ≡ a ++ 46 ∷ (b ++ 46 ∷ (c ++ 46 ∷ (d ++ 47 ∷ long)))
marked-parts a b c d long = simp append_assoc

address_of_octets-octets : (address : ℕ) → address < 2 ^ 32 → address_of_octets (to_be_bytes w32 address) ≡ address
unfolding address_of_octets
address_of_octets-octets address h = from_be_bytes-to_be_bytes_4 address h

-- a prefix's text is read to its end
pub reads_prefix : (text : List ℕ) (address length : ℕ) → SpellsPrefix text address length → after_text no_front text ≡ Some (front (to_be_bytes w32 address) 4 (Some length))
unfolding after_text
reads_prefix text address long s =
    let a : ℕ = address / 2 ^ 24 % 256 in
    let b : ℕ = address / 2 ^ 16 % 256 in
    let c : ℕ = address / 2 ^ 8 % 256 in
    let d : ℕ = address % 256 in
    let octets : List ℕ = to_be_bytes w32 address in
    let same : address_of_octets octets ≡ address = address_of_octets-octets address s.small in
    let fits = s.fits in
    let clear : address_of_octets octets % 2 ^ (32 - long) ≡ 0 = ap (λ (n : ℕ). n % 2 ^ (32 - long)) same ∙ s.clear in
    ap (after_text no_front) (s.same ∙ prefix-parts (decimal a) (decimal b) (decimal c) (decimal d) (decimal long))
    ∙ read-octet (0 ∷ 0 ∷ 0 ∷ 0 ∷ []) (decimal b ++ 46 ∷ (decimal c ++ 46 ∷ (decimal d ++ 47 ∷ decimal long))) 0 a (lit< tt) (omega arith)
    ∙ read-octet (a ∷ 0 ∷ 0 ∷ 0 ∷ []) (decimal c ++ 46 ∷ (decimal d ++ 47 ∷ decimal long)) 1 b (lit< tt) (omega arith)
    ∙ read-octet (a ∷ b ∷ 0 ∷ 0 ∷ []) (decimal d ++ 47 ∷ decimal long) 2 c (lit< tt) (omega arith)
    ∙ read-octet (a ∷ b ∷ c ∷ 0 ∷ []) (decimal long) 3 d (lit< tt) (omega arith)
    ∙ ap (after_text (front octets 4 None)) (sym (append-nil (decimal long)))
    ∙ read-number octets [] 4 long (omega arith) (a_length octets long fits clear)

pub ends_there : (address length : ℕ) → address < 2 ^ 32 → length ≤ 32 → address % 2 ^ (32 - length) ≡ 0 → ends_prefix (front (to_be_bytes w32 address) 4 (Some length)) ≡ true
ends_there address long small fits clear =
    is_clear-from (address_of_octets (to_be_bytes w32 address)) long fits (ap (λ (n : ℕ). n % 2 ^ (32 - long)) (address_of_octets-octets address small) ∙ clear)

record IsAddress (octets : List ℕ) : Type 0 where
  small : address_of_octets octets < 2 ^ 32
  bytes : to_be_bytes w32 (address_of_octets octets) ≡ octets

small-at : (xs : List ℕ) → AllByRecursion (λ x. x < 256) xs → (i : ℕ) → get_or xs i 0 < 256
small-at [] h i = lit< tt
small-at (x ∷ xs) h zero = h.0
small-at (x ∷ xs) h (suc i) = small-at xs h.1 i

IsAddress-from : (octets : List ℕ) → length octets ≡ 4 → AllByRecursion (λ octet. octet < 256) octets → IsAddress octets
unfolding address_of_octets
IsAddress-from octets four small =
    let at = small-at octets small in
    let a = at 0 in
    let b = at 1 in
    let c = at 2 in
    let d = at 3 in
    record { small = omega arith; bytes = be_bytes_4 octets (address_of_octets octets) four at refl }

list_of_4 : (xs : List ℕ) → length xs ≡ 4 → get_or xs 0 0 ∷ get_or xs 1 0 ∷ get_or xs 2 0 ∷ get_or xs 3 0 ∷ [] ≡ xs
list_of_4 [] h = absurd (omega arith)
list_of_4 (x0 ∷ []) h = absurd (omega arith)
list_of_4 (x0 ∷ x1 ∷ []) h = absurd (omega arith)
list_of_4 (x0 ∷ x1 ∷ x2 ∷ []) h = absurd (omega arith)
list_of_4 (x0 ∷ x1 ∷ x2 ∷ x3 ∷ []) h = refl
list_of_4 (x0 ∷ x1 ∷ x2 ∷ x3 ∷ x4 ∷ xs) h = absurd (omega arith)

-- what is read to its end is a prefix's text
pub prefix-said : (octets : List ℕ) (count length : ℕ) → IsFront octets count (Some length) → ends_prefix (front octets count (Some length)) ≡ true → SpellsPrefix (said (front octets count (Some length))) (address_of_octets octets) length
prefix-said octets count long f e =
    let counted = f.counted in
    let both = and_parts (leb 4 count) (is_clear (address_of_octets octets) long) e in
    let high : 4 ≤ count = leb-true 4 count both.0 in
    let all : count ≡ 4 = omega arith in
    let clear = IsClear-from (address_of_octets octets) long both.1 in
    let address = IsAddress-from octets f.four f.small in
    let a : ℕ = get_or octets 0 0 in
    let b : ℕ = get_or octets 1 0 in
    let c : ℕ = get_or octets 2 0 in
    let d : ℕ = get_or octets 3 0 in
    record {
      small = address.small;
      fits = clear.fits;
      clear = clear.clear;
      same = ap (λ (n : ℕ). marked n octets ++ decimal long) all
          ∙ marked-parts (decimal a) (decimal b) (decimal c) (decimal d) (decimal long)
          ∙ sym (prefix-parts (decimal a) (decimal b) (decimal c) (decimal d) (decimal long))
          ∙ ap (λ (os : List ℕ). join_with_byte 46 (map decimal os) ++ 47 ∷ [] ++ decimal long) (list_of_4 octets f.four ∙ sym address.bytes);
    }

-- ---- what is read goes on to a prefix

-- some text ends what is read
pub record GoesOn (f : Front) : Type 0 where
  pub more : List ℕ
  pub end : Front
  pub reads : after_text f more ≡ Some end
  pub ends : ends_prefix end ≡ true

all-clear : (address : ℕ) → address % 2 ^ (32 - 32) ≡ 0
all-clear address = omega arith

goes_on-length : (octets : List ℕ) → GoesOn (front octets 4 None)
unfolding after_text
goes_on-length octets = record {
  more = decimal 32;
  end = front octets 4 (Some 32);
  reads = ap (after_text (front octets 4 None)) (sym (append-nil (decimal 32))) ∙ read-number octets [] 4 32 (lit< tt) (a_length octets 32 (lit≤ tt) (all-clear (address_of_octets octets)));
  ends = is_clear-from (address_of_octets octets) 32 (lit≤ tt) (all-clear (address_of_octets octets));
}

-- before each number there may be 0
goes_on-octets : (left : ℕ) (octets : List ℕ) (count : ℕ) → left + count ≡ 4 → GoesOn (front octets count None)
goes_on-octets zero octets count e =
    let all : 4 ≡ count = omega arith in
    subst (λ (n : ℕ). GoesOn (front octets n None)) all (goes_on-length octets)
goes_on-octets (suc left) octets count e =
    let rest = goes_on-octets left (set octets count 0) (count + 1) (omega arith) in
    record {
      more = decimal 0 ++ mark_behind count ∷ rest.more;
      end = rest.end;
      reads = read-octet octets rest.more count 0 (omega arith) (lit< tt) ∙ rest.reads;
      ends = rest.ends;
    }

goes_on-mark : (octets : List ℕ) (count number : ℕ) → count < 4 → GoesOn (front octets count (Some number))
goes_on-mark octets count number h =
    let rest = goes_on-octets (3 - count) (set octets count number) (count + 1) (omega arith) in
    record {
      more = mark_behind count ∷ rest.more;
      end = rest.end;
      reads = read-mark octets rest.more count number h ∙ rest.reads;
      ends = rest.ends;
    }

-- a digit more makes the first digit of a length a length
goes_on-digit : (octets : List ℕ) (number digit long : ℕ) → digit < 10 → with_digit (Some number) digit ≡ Some long → is_clear (address_of_octets octets) (longest long) ≡ true → is_clear (address_of_octets octets) long ≡ true → GoesOn (front octets 4 (Some number))
unfolding after_text
goes_on-digit octets number digit long h w s e = record {
  more = (48 + digit) ∷ [];
  end = front octets 4 (Some long);
  reads = read-digit octets [] 4 digit long (Some number) h w s;
  ends = e;
}

goes_on-end : (octets : List ℕ) (number : ℕ) → is_clear (address_of_octets octets) number ≡ true → GoesOn (front octets 4 (Some number))
unfolding after_text
goes_on-end octets number e = record { more = []; end = front octets 4 (Some number); reads = refl; ends = e }

goes_on-number : (octets : List ℕ) (number : ℕ) → is_clear (address_of_octets octets) (longest number) ≡ true → GoesOn (front octets 4 (Some number))
goes_on-number octets number e = by_one (eqb number 1) refl
  where
    by_three : (t : Bool) → eqb number 3 ≡ t → is_clear (address_of_octets octets) (cond t 32 number) ≡ true → GoesOn (front octets 4 (Some number))
    by_three true t e = let same : 3 ≡ number = sym (eqb-true number 3 t) in subst (λ (n : ℕ). GoesOn (front octets 4 (Some n))) same (goes_on-digit octets 3 2 32 (lit< tt) refl e e)
    by_three false t e = goes_on-end octets number e

    by_two : (t : Bool) → eqb number 2 ≡ t → is_clear (address_of_octets octets) (cond t 29 (cond (eqb number 3) 32 number)) ≡ true → GoesOn (front octets 4 (Some number))
    by_two true t e = let same : 2 ≡ number = sym (eqb-true number 2 t) in subst (λ (n : ℕ). GoesOn (front octets 4 (Some n))) same (goes_on-digit octets 2 9 29 (lit< tt) refl e e)
    by_two false t e = by_three (eqb number 3) refl e

    by_one : (t : Bool) → eqb number 1 ≡ t → GoesOn (front octets 4 (Some number))
    by_one true t =
        let same : 1 ≡ number = sym (eqb-true number 1 t) in
        let clear : is_clear (address_of_octets octets) 19 ≡ true = ap (λ (u : Bool). is_clear (address_of_octets octets) (cond u 19 (cond (eqb number 2) 29 (cond (eqb number 3) 32 number)))) (sym t) ∙ e in
        subst (λ (n : ℕ). GoesOn (front octets 4 (Some n))) same (goes_on-digit octets 1 9 19 (lit< tt) refl clear clear)
    by_one false t =
        by_two (eqb number 2) refl (ap (λ (u : Bool). is_clear (address_of_octets octets) (cond u 19 (cond (eqb number 2) 29 (cond (eqb number 3) 32 number)))) (sym t) ∙ e)

-- whatever is read goes on to a prefix
pub goes_on : (octets : List ℕ) (count : ℕ) (number : Option ℕ) → IsFront octets count number → GoesOn (front octets count number)
goes_on octets count None f = goes_on-octets (4 - count) octets count (let counted = f.counted in omega arith)
goes_on octets count (Some number) f =
    elim (cases_lt count 4) [
      | inl below ↦ goes_on-mark octets count number below
      | inr above ↦
          let counted = f.counted in
          let all : count ≡ 4 = omega arith in
          let clear : is_clear (address_of_octets octets) (longest number) ≡ true = ap (λ (n : ℕ). may_stand octets n number) (sym all) ∙ f.stands.1 in
          subst (λ (n : ℕ). GoesOn (front octets n (Some number))) (sym all) (goes_on-number octets number clear)
    ]

-- ---- the fault

pub after_text-append : (text more : List ℕ) (f : Front) → after_text f (text ++ more) ≡ option_and_then (λ (g : Front). after_text g more) (after_text f text)
unfolding after_text
after_text-append [] more f = refl
after_text-append (byte ∷ text) more f = rest (after_byte f byte) (λ (g : Front). after_text-append text more g)
  where
    rest : (o : Option Front) → ((g : Front) → after_text g (text ++ more) ≡ option_and_then (λ (h : Front). after_text h more) (after_text g text)) → option_and_then (λ (g : Front). after_text g (text ++ more)) o ≡ option_and_then (λ (h : Front). after_text h more) (option_and_then (λ (g : Front). after_text g text) o)
    rest None rec = refl
    rest (Some g) rec = rec g

pub after_text-push : (text : List ℕ) (byte : ℕ) (f g : Front) → after_text no_front text ≡ Some f → Some g ≡ after_byte f byte → after_text no_front (text ++ byte ∷ []) ≡ Some g
unfolding after_text
after_text-push text byte f g e next =
    after_text-append text (byte ∷ []) no_front
    ∙ ap (option_and_then (λ (h : Front). after_text h (byte ∷ []))) e
    ∙ ap (option_and_then (λ (h : Front). after_text h [])) (sym next)

no_front-holds : IsFront (0 ∷ 0 ∷ 0 ∷ 0 ∷ []) 0 None
no_front-holds = record { four = refl; counted = omega arith; small = (lit< tt, (lit< tt, (lit< tt, (lit< tt, tt)))); stands = tt }

-- what is read to its end is a prefix's text
pub prefix-from : (text : List ℕ) (g : Front) (long : ℕ) → after_text no_front text ≡ Some g → g.number ≡ Some long → ends_prefix g ≡ true → SpellsPrefix text (address_of_octets g.octets) long
prefix-from text g long e number ends =
    let read = text-follows text no_front g no_front-holds e in
    let at : Option ℕ → Type 0 = λ (o : Option ℕ). IsFront g.octets g.count o in
    let holds = subst at number read.holds in
    let ends_at : ends_prefix (front g.octets g.count (Some long)) ≡ true = ap (λ (o : Option ℕ). ends_text g.octets g.count o) (sym number) ∙ ends in
    subst (λ (t : List ℕ). SpellsPrefix t (address_of_octets g.octets) long) (ap (λ (o : Option ℕ). marked g.count g.octets ++ digits o) (sym number) ∙ read.whole) (prefix-said g.octets g.count long holds ends_at)

number-of : (octets : List ℕ) (count : ℕ) (number : Option ℕ) → ends_text octets count number ≡ true → (long : ℕ) × (number ≡ Some long)
number-of octets count None e = cc
number-of octets count (Some long) e = (long, refl)

IsPrefixText-from : (text : List ℕ) (g : Front) → after_text no_front text ≡ Some g → ends_prefix g ≡ true → IsPrefixText text
IsPrefixText-from text g e ends =
    let found = number-of g.octets g.count g.number ends in
    (address_of_octets g.octets, found.0, prefix-from text g found.0 e found.1 ends)

-- what is read so far begins a prefix's text
begins-prefix : (text : List ℕ) (f : Front) → after_text no_front text ≡ Some f → (more : List ℕ) × IsPrefixText (text ++ more)
begins-prefix text f e =
    let read = text-follows text no_front f no_front-holds e in
    let on = goes_on f.octets f.count f.number read.holds in
    let whole : after_text no_front (text ++ on.more) ≡ Some on.end =
    after_text-append text on.more no_front ∙ ap (option_and_then (λ (g : Front). after_text g on.more)) e ∙ on.reads in
    (on.more, IsPrefixText-from (text ++ on.more) on.end whole on.ends)

-- the text has no end where it isn't that of a prefix
pub IsFaultAt-end : (text : List ℕ) (f : Front) → after_text no_front text ≡ Some f → ends_prefix f ≡ false → IsFaultAt IsPrefixText text (length text)
IsFaultAt-end text f e ends =
    let begins = begins-prefix text f e in
    record {
      none = λ (address, long, s).
          let whole = reads_prefix text address long s in
          let same : front (to_be_bytes w32 address) 4 (Some long) ≡ f = some-same (front (to_be_bytes w32 address) 4 (Some long)) f (sym whole ∙ e) in
          false≢true (sym ends ∙ ap ends_prefix (sym same) ∙ ends_there address long s.small s.fits s.clear);
      within = omega arith;
      begins = (begins.0, subst (λ (t : List ℕ). IsPrefixText (t ++ begins.0)) (sym (take-length text)) begins.1);
      longest = λ n more h p. h;
    }

none-then : (k : Front → Option Front) (o : Option Front) → o ≡ None → option_and_then k o ≡ None
none-then k None e = refl
none-then k (Some f) e = cc

-- a text with an octet that no prefix goes on with has no prefix's text in it
stuck : (text : List ℕ) (byte : ℕ) (more : List ℕ) (f : Front) → after_text no_front text ≡ Some f → after_byte f byte ≡ None → after_text no_front (text ++ byte ∷ more) ≡ None
unfolding after_text
stuck text byte more f e none =
    after_text-append text (byte ∷ more) no_front ∙ ap (option_and_then (λ (g : Front). after_text g (byte ∷ more))) e ∙ none-then (λ (g : Front). after_text g more) (after_byte f byte) none

-- the front of a text beyond a place has the octet there
taken : (text : List ℕ) (place n byte : ℕ) → place < length text → get_or text place 0 ≡ byte → place < n → take n text ≡ take place text ++ byte ∷ take (n - (place + 1)) (drop (place + 1) text)
taken [] place n byte h at below = absurd (omega arith)
taken (x ∷ text) zero zero byte h at below = absurd (omega arith)
taken (x ∷ text) zero (suc n) byte h at below =
    ap (λ (b : ℕ). b ∷ take n text) at ∙ ap (λ (m : ℕ). byte ∷ take m text) (let e : n ≡ suc n - 1 = omega arith in e)
taken (x ∷ text) (suc place) zero byte h at below = absurd (omega arith)
taken (x ∷ text) (suc place) (suc n) byte h at below =
    let one : suc place + 1 ≡ suc (place + 1) = omega arith in
    let less : n - (place + 1) ≡ suc n - suc (place + 1) = omega arith in
    ap (λ (t : List ℕ). x ∷ t) (taken text place n byte (omega arith) at (omega arith))
    ∙ ap (λ (m : ℕ). x ∷ (take place text ++ byte ∷ take m (drop (place + 1) text))) less
    ∙ ap (λ (m : ℕ). x ∷ (take place text ++ byte ∷ take (suc n - m) (drop m (x ∷ text)))) (sym one)

never-prefix : (text : List ℕ) → after_text no_front text ≡ None → IsPrefixText text → ⊥
never-prefix text e (address, long, s) = let whole = reads_prefix text address long s in cc

-- such an octet of a text
split-at : (text : List ℕ) (place byte : ℕ) → place < length text → get_or text place 0 ≡ byte → take place text ++ byte ∷ drop (place + 1) text ≡ text
split-at text place byte within at =
    ap (λ (b : ℕ). take place text ++ b ∷ drop (place + 1) text) (sym at) ∙ ap (λ (t : List ℕ). take place text ++ t) (sym (drop_more text place 0 within)) ∙ take-append-drop place text

pub after_text-stuck : (text : List ℕ) (place byte : ℕ) (f : Front) → place < length text → get_or text place 0 ≡ byte → after_text no_front (take place text) ≡ Some f → after_byte f byte ≡ None → after_text no_front text ≡ None
after_text-stuck text place byte f within at e none =
    ap (after_text no_front) (sym (split-at text place byte within at)) ∙ stuck (take place text) byte (drop (place + 1) text) f e none

-- where the first such octet stands is the fault
pub IsFaultAt-byte : (text : List ℕ) (place byte : ℕ) (f : Front) → place < length text → get_or text place 0 ≡ byte → after_text no_front (take place text) ≡ Some f → after_byte f byte ≡ None → IsFaultAt IsPrefixText text place
IsFaultAt-byte text place byte f within at e none =
    record {
      none = never-prefix text (after_text-stuck text place byte f within at e none);
      within = omega arith;
      begins = begins-prefix (take place text) f e;
      longest = λ n more h p. elim (cases_lt place n) [
        | inl beyond ↦ absurd (never-prefix (take n text ++ more) (past n more h beyond) p)
        | inr before ↦ before
      ];
    }
  where
    past : (n : ℕ) (more : List ℕ) → n ≤ length text → place < n → after_text no_front (take n text ++ more) ≡ None
    past n more h beyond =
        let front_part : take n text ≡ take place text ++ byte ∷ take (n - (place + 1)) (drop (place + 1) text) = taken text place n byte within at beyond in
        ap (λ (t : List ℕ). after_text no_front (t ++ more)) front_part
        ∙ ap (after_text no_front) (append_assoc (take place text) (byte ∷ take (n - (place + 1)) (drop (place + 1) text)) more)
        ∙ stuck (take place text) byte (take (n - (place + 1)) (drop (place + 1) text) ++ more) f e none

-- a text is that of one prefix
pub SpellsPrefix-one : (text : List ℕ) (a b c d : ℕ) → SpellsPrefix text a b → SpellsPrefix text c d → (a ≡ c) × (b ≡ d)
SpellsPrefix-one text a b c d p q =
    let one : front (to_be_bytes w32 a) 4 (Some b) ≡ front (to_be_bytes w32 c) 4 (Some d) =
    some-same (front (to_be_bytes w32 a) 4 (Some b)) (front (to_be_bytes w32 c) 4 (Some d)) (sym (reads_prefix text a b p) ∙ reads_prefix text c d q) in
    let numbers : Some b ≡ Some d = ap (λ (f : Front). f.number) one in
    (sym (address_of_octets-octets a p.small) ∙ ap (λ (f : Front). address_of_octets f.octets) one ∙ address_of_octets-octets c q.small, some-same b d numbers)

-- at the end of the text all of it is read
pub read-whole : (text : List ℕ) (place : ℕ) (f : Front) → place ≤ length text → length text ≤ place → after_text no_front (take place text) ≡ Some f → after_text no_front text ≡ Some f
read-whole text place f h k e =
    let all : place ≡ length text = omega arith in
    ap (after_text no_front) (sym (ap (λ (n : ℕ). take n text) all ∙ take-length text)) ∙ e

-- a text that spells a prefix is read as it
pub prefix_parts-spelled : (text : List ℕ) (address long : ℕ) → SpellsPrefix text address long → prefix_parts text ≡ Some (address, long)
prefix_parts-spelled text address long s =
    let octets = to_be_bytes w32 address in
    ap (option_and_then parts_of_front) (reads_prefix text address long s)
    ∙ ap (λ (t : Bool). cond t (Some (address_of_octets octets, long)) None) (ends_there address long s.small s.fits s.clear)
    ∙ ap (λ (a : ℕ). Some (a, long)) (address_of_octets-octets address s.small)
