-- Addresses are read of their own texts alone.
use Rattle.std.proofs.Common.{◌≡◌, ◌∙◌, ℕ, zero, suc, ◌+◌, ◌/◌, ◌%◌, ◌^◌, ◌<◌, ◌≤◌, Bool, true, false, not, cond, List, [], ◌∷◌, ◌++◌, length, get_or, map, decimal, Option, Some, None, refl, sym, ap, subst, arith, append_assoc}
use Rattle.std.specs.Prelude.{option_and_then, ◌==◌, ◌&&◌, nat_le}
use Rattle.std.specs.Char.{is_ascii_digit}
use Rattle.std.specs.Int.{from_be_bytes, w32}
use Rattle.std.specs.List.{list_all, slice_split, onto_first, join_with_byte}
use Rattle.std.specs.Str.Parse.{digits_value}
use Rattle.std.proofs.lemmas.Bool.{and_parts, and_from, le-leb, leb-true, not-true, eqb-true, eq-eqb, false≢true}
use Rattle.std.proofs.lemmas.Bool.Decides.{nat_tests}
use Rattle.std.proofs.lemmas.Fmt.{decimal_by_steps_wide, decimal-digits_value, digits_value-decimal, digits_decimal}
use Rattle.std.proofs.lemmas.List.{length-append}
use Rattle.std.proofs.lemmas.List.Splits.{slice_split-cons_yes, slice_split-cons_no, join_with_byte-slice_split}
use Rattle.std.proofs.lemmas.Nat.{from_be_bytes-to_be_bytes_4, be_bytes_4}
use Rattle.isis_base.specs.PrefixTexts.{address_text}
use Rattle.daemon_edge.specs.declared.place.Address.{Address}
use Rattle.daemon_config.specs.Fields.{◌>>=◌, has_plain_lead, bounded, number_within, parts_at, octet_of, port_of, host_number, host_from, host_of, address_from, address_of}
use Rattle.daemon_config.specs.Written.{place_text}
use Rattle.daemon_config.proofs.NumberLemmas.{AreDigits, own, numbered}

-- ---- numbers

first-of_append : (ds : List ℕ) (d : ℕ) → 0 < length ds → get_or (ds ++ d ∷ []) 0 0 ≡ get_or ds 0 0
first-of_append [] d h = absurd (omega (arith, h))
first-of_append (c ∷ ds) d h = refl

led : (n : ℕ) → n < 10 ^ 64 → (0 < length (decimal n)) × (0 < n → 48 < get_or (decimal n) 0 0) × (n < 10 → length (decimal n) ≡ 1)
led = decimal_by_steps_wide (λ m ds. (0 < length ds) × (0 < m → 48 < get_or ds 0 0) × (m < 10 → length ds ≡ 1)) (λ m l. (omega arith, λ a. omega arith, λ a. omega arith))
    (λ m ds l h. (omega (arith, length-append ds ((48 + m % 10) ∷ [])), λ a. omega (arith, first-of_append ds (48 + m % 10) h.0, h.1 (omega arith)), λ a. omega arith))

plain : (ds : List ℕ) → 0 < length ds → 48 < get_or ds 0 0 → has_plain_lead ds ≡ true
plain [] s f = absurd (omega (arith, s))
plain (c ∷ []) s f = refl
plain (c ∷ d ∷ ds) s f = grind (arith, nat_tests)

plain-one : (ds : List ℕ) → length ds ≡ 1 → has_plain_lead ds ≡ true
plain-one [] s = absurd (omega (arith, s))
plain-one (c ∷ []) s = refl
plain-one (c ∷ d ∷ ds) s = absurd (omega (arith, s))

lead : (n : ℕ) → n < 10 ^ 64 → has_plain_lead (decimal n) ≡ true
lead zero h = plain-one (decimal 0) ((led 0 h).2 (omega arith))
lead (suc n) h = plain (decimal (suc n)) (led (suc n) h).0 ((led (suc n) h).1 (omega arith))

written-within : (least most n : ℕ) → n < 2 ^ 64 → least ≤ n → n ≤ most → number_within least most (decimal n) ≡ Some n
unfolding number_within
written-within least most n small low high =
    ap (λ (o : Option ℕ). option_and_then (bounded least most) o) (numbered (decimal n) (lead n (omega (arith, small))) (digits_decimal own n small) ∙ ap Some (digits_value-decimal own n small))
    ∙ ap (λ (t : Bool). cond t (Some n) None) (and_from (nat_le least n) (nat_le n most) (le-leb least n low) (le-leb n most high))

no-lead : (text : List ℕ) → has_plain_lead text ≡ true → (0 < length text) × (get_or text 0 0 ≡ 48 → length text ≡ 1)
no-lead [] h = cc
no-lead (c ∷ []) h = (omega arith, λ e. refl)
no-lead (c ∷ d ∷ text) h = (omega arith, λ e. absurd (grind (arith, nat_tests)))

-- a number that is read within two bounds is written so
record IsRead (least most n : ℕ) (text : List ℕ) : Type 0 where
  low : least ≤ n
  high : n ≤ most
  same : text ≡ decimal n

bounded-read : (least most m n : ℕ) → bounded least most m ≡ Some n → (m ≡ n) × (least ≤ n) × (n ≤ most)
bounded-read least most m n is =
    elim (nat_le least m && nat_le m most) as (λ t. (nat_le least m && nat_le m most) ≡ t → cond t (Some m) None ≡ Some n → (m ≡ n) × (least ≤ n) × (n ≤ most)) [
      | true ↦ λ test is.
          let parts = and_parts (nat_le least m) (nat_le m most) test in
          let same : m ≡ n = cc in
          (same, subst (λ (n : ℕ). least ≤ n) same (leb-true least m parts.0), subst (λ (n : ℕ). n ≤ most) same (leb-true m most parts.1))
      | false ↦ λ test is. cc
    ] refl is

number-read : (least most n : ℕ) (text : List ℕ) → most < 2 ^ 64 → number_within least most text ≡ Some n → IsRead least most n text
unfolding number_within
number-read least most n text small is =
    elim (has_plain_lead text && list_all is_ascii_digit text) as (λ t. (has_plain_lead text && list_all is_ascii_digit text) ≡ t → option_and_then (bounded least most) (cond t (Some (digits_value 10 text)) None) ≡ Some n → IsRead least most n text) [
      | true ↦ λ test is.
          let parts = and_parts (has_plain_lead text) (list_all is_ascii_digit text) test in
          let plain = no-lead text parts.0 in
          let read = bounded-read least most (digits_value 10 text) n is in
          let fits : digits_value 10 text < 2 ^ 64 = omega (arith, read.0, read.2, small) in
          record {
            low = read.1;
            high = read.2;
            same = sym (decimal-digits_value own text parts.1 plain.0 plain.1 fits) ∙ ap decimal read.0;
          }
      | false ↦ λ test is. cc
    ] refl is

-- ---- parts

abbrev HasNone : ℕ → List ℕ → Type 0
HasNone mark xs = list_all (λ x. not (x == mark)) xs ≡ true

digits-none : (mark : ℕ) → is_ascii_digit mark ≡ false → (xs : List ℕ) → AreDigits xs → HasNone mark xs
digits-none mark odd [] h = refl
digits-none mark odd (x ∷ xs) h =
    let parts = and_parts (is_ascii_digit x) (list_all is_ascii_digit xs) h in
    and_from (not (x == mark)) (list_all (λ x. not (x == mark)) xs)
    (elim (x == mark) as (λ t. (x == mark) ≡ t → not t ≡ true) [
      | true ↦ λ e. absurd (false≢true (sym odd ∙ ap is_ascii_digit (sym (eqb-true x mark e)) ∙ parts.0))
      | false ↦ λ e. refl
    ] refl)
    (digits-none mark odd xs parts.1)

none-append : (mark : ℕ) (xs ys : List ℕ) → HasNone mark xs → HasNone mark ys → HasNone mark (xs ++ ys)
none-append mark [] ys h k = k
none-append mark (x ∷ xs) ys h k =
    let parts = and_parts (not (x == mark)) (list_all (λ x. not (x == mark)) xs) h in
    and_from (not (x == mark)) (list_all (λ x. not (x == mark)) (xs ++ ys)) parts.0 (none-append mark xs ys parts.1 k)

front-cut : (mark : ℕ) (xs ys : List ℕ) → HasNone mark xs → parts_at mark (xs ++ mark ∷ ys) ≡ xs ∷ parts_at mark ys
unfolding parts_at
front-cut mark [] ys h = slice_split-cons_yes (λ byte. byte == mark) mark ys (eq-eqb mark mark refl)
front-cut mark (x ∷ xs) ys h =
    let parts = and_parts (not (x == mark)) (list_all (λ x. not (x == mark)) xs) h in
    slice_split-cons_no (λ byte. byte == mark) x (xs ++ mark ∷ ys) (not-true (x == mark) parts.0)
    ∙ ap (onto_first x) (front-cut mark xs ys parts.1)

whole : (mark : ℕ) (xs : List ℕ) → HasNone mark xs → parts_at mark xs ≡ xs ∷ []
unfolding parts_at
whole mark [] h = refl
whole mark (x ∷ xs) h =
    let parts = and_parts (not (x == mark)) (list_all (λ x. not (x == mark)) xs) h in
    slice_split-cons_no (λ byte. byte == mark) x xs (not-true (x == mark) parts.0)
    ∙ ap (onto_first x) (whole mark xs parts.1)

decimal-none : (mark n : ℕ) → is_ascii_digit mark ≡ false → n < 2 ^ 64 → HasNone mark (decimal n)
decimal-none mark n odd small = digits-none mark odd (decimal n) (digits_decimal own n small)

-- ---- hosts

host-parts : (a b c d : List ℕ) → HasNone 46 a → HasNone 46 b → HasNone 46 c → HasNone 46 d → parts_at 46 (a ++ 46 ∷ (b ++ 46 ∷ (c ++ 46 ∷ d))) ≡ a ∷ b ∷ c ∷ d ∷ []
host-parts a b c d ha hb hc hd =
    front-cut 46 a (b ++ 46 ∷ (c ++ 46 ∷ d)) ha
    ∙ ap (λ (parts : List (List ℕ)). a ∷ parts) (front-cut 46 b (c ++ 46 ∷ d) hb
    ∙ ap (λ (parts : List (List ℕ)). b ∷ parts) (front-cut 46 c d hc
    ∙ ap (λ (parts : List (List ℕ)). c ∷ parts) (whole 46 d hd)))

four : (s t u v : List ℕ) (a b c d : ℕ) → octet_of s ≡ Some a → octet_of t ≡ Some b → octet_of u ≡ Some c → octet_of v ≡ Some d → host_from (s ∷ t ∷ u ∷ v ∷ []) ≡ Some (host_number (a ∷ b ∷ c ∷ d ∷ []))
four s t u v a b c d ha hb hc hd = rw (ha, hb, hc, hd) refl

octet-written : (n : ℕ) → n < 256 → octet_of (decimal n) ≡ Some n
octet-written n small = written-within 0 255 n (omega (arith, small)) (omega arith) (omega (arith, small))

pub host-read : (host : ℕ) → host < 2 ^ 32 → host_of (address_text host) ≡ Some host
unfolding host_of host_number
host-read host small =
    let a : ℕ = host / 2 ^ 24 % 256 in
    let b : ℕ = host / 2 ^ 16 % 256 in
    let c : ℕ = host / 2 ^ 8 % 256 in
    let d : ℕ = host % 256 in
    let ka : a < 256 = omega arith in
    let kb : b < 256 = omega arith in
    let kc : c < 256 = omega arith in
    let kd : d < 256 = omega arith in
    ap host_from (host-parts (decimal a) (decimal b) (decimal c) (decimal d) (decimal-none 46 a refl (omega (arith, ka))) (decimal-none 46 b refl (omega (arith, kb))) (decimal-none 46 c refl (omega (arith, kc))) (decimal-none 46 d refl (omega (arith, kd))))
    ∙ four (decimal a) (decimal b) (decimal c) (decimal d) a b c d (octet-written a ka) (octet-written b kb) (octet-written c kc) (octet-written d kd)
    ∙ ap Some (from_be_bytes-to_be_bytes_4 host small)

-- a second value came of a first
record Came {A B : Type 0} (first : Option A) (next : A → Option B) (y : B) : Type 0 where
  value : A
  was : first ≡ Some value
  then : next value ≡ Some y

came : {A B : Type 0} (first : Option A) (next : A → Option B) (y : B) → (first >>= next) ≡ Some y → Came first next y
came None next y is = cc
came (Some x) next y is = record { value = x; was = refl; then = is }

small-four : (a b c d : ℕ) → a ≤ 255 → b ≤ 255 → c ≤ 255 → d ≤ 255 → (i : ℕ) → get_or (a ∷ b ∷ c ∷ d ∷ []) i 0 < 256
small-four a b c d ha hb hc hd zero = omega (arith, ha)
small-four a b c d ha hb hc hd (suc zero) = omega (arith, hb)
small-four a b c d ha hb hc hd (suc (suc zero)) = omega (arith, hc)
small-four a b c d ha hb hc hd (suc (suc (suc zero))) = omega (arith, hd)
small-four a b c d ha hb hc hd (suc (suc (suc (suc i)))) = omega arith

joined : (s t u v a b c d : List ℕ) → s ≡ a → t ≡ b → u ≡ c → v ≡ d → join_with_byte 46 (s ∷ t ∷ u ∷ v ∷ []) ≡ join_with_byte 46 (a ∷ b ∷ c ∷ d ∷ [])
joined s t u v a b c d ha hb hc hd = rw (ha, hb, hc, hd) refl

host-from : (parts : List (List ℕ)) (host : ℕ) → host_from parts ≡ Some host → join_with_byte 46 parts ≡ address_text host
unfolding host_number
host-from [] host is = cc
host-from (s ∷ []) host is = cc
host-from (s ∷ t ∷ []) host is = cc
host-from (s ∷ t ∷ u ∷ []) host is = cc
host-from (s ∷ t ∷ u ∷ v ∷ []) host is =
    let a = came (octet_of s) _ host is in
    let b = came (octet_of t) _ host a.then in
    let c = came (octet_of u) _ host b.then in
    let d = came (octet_of v) (λ d. Some (host_number (a.value ∷ b.value ∷ c.value ∷ d ∷ []))) host c.then in
    let ra = number-read 0 255 a.value s (omega arith) a.was in
    let rb = number-read 0 255 b.value t (omega arith) b.was in
    let rc = number-read 0 255 c.value u (omega arith) c.was in
    let rd = number-read 0 255 d.value v (omega arith) d.was in
    let octets : List ℕ = a.value ∷ b.value ∷ c.value ∷ d.value ∷ [] in
    let same : host_number octets ≡ host = cc in
    let bytes = be_bytes_4 octets (from_be_bytes w32 octets) refl (small-four a.value b.value c.value d.value ra.high rb.high rc.high rd.high) refl in
    joined s t u v (decimal a.value) (decimal b.value) (decimal c.value) (decimal d.value) ra.same rb.same rc.same rd.same
    ∙ ap (λ (os : List ℕ). join_with_byte 46 (map decimal os)) (sym bytes)
    ∙ ap address_text same
host-from (s ∷ t ∷ u ∷ v ∷ w ∷ parts) host is = cc

pub host-only : (text : List ℕ) (host : ℕ) → host_of text ≡ Some host → text ≡ address_text host
unfolding host_of parts_at
host-only text host is = sym (join_with_byte-slice_split 46 text) ∙ host-from (slice_split (λ byte. byte == 46) text) host is

-- ---- addresses

host-none : (host : ℕ) → HasNone 58 (address_text host)
host-none host =
    let a : ℕ = host / 2 ^ 24 % 256 in
    let b : ℕ = host / 2 ^ 16 % 256 in
    let c : ℕ = host / 2 ^ 8 % 256 in
    let d : ℕ = host % 256 in
    none-append 58 (decimal a) (46 ∷ (decimal b ++ 46 ∷ (decimal c ++ 46 ∷ decimal d))) (decimal-none 58 a refl (omega arith))
    (none-append 58 (decimal b) (46 ∷ (decimal c ++ 46 ∷ decimal d)) (decimal-none 58 b refl (omega arith))
    (none-append 58 (decimal c) (46 ∷ decimal d) (decimal-none 58 c refl (omega arith)) (decimal-none 58 d refl (omega arith))))

two-read : (s t : List ℕ) (host port : ℕ) → host_of s ≡ Some host → port_of t ≡ Some port → address_from (s ∷ t ∷ []) ≡ Some (record { host = host; port = port })
two-read s t host port hs ht = rw (hs, ht) refl

pub address-read : (a : Address) → a.host < 2 ^ 32 → 1 ≤ a.port → a.port ≤ 65535 → address_of (place_text a) ≡ Some a
unfolding address_of
address-read a small low high =
    ap (λ (text : List ℕ). address_from (parts_at 58 text)) (append_assoc (address_text a.host) (58 ∷ []) (decimal a.port))
    ∙ ap address_from (front-cut 58 (address_text a.host) (decimal a.port) (host-none a.host) ∙ ap (λ (parts : List (List ℕ)). address_text a.host ∷ parts) (whole 58 (decimal a.port) (decimal-none 58 a.port refl (omega (arith, high)))))
    ∙ two-read (address_text a.host) (decimal a.port) a.host a.port (host-read a.host small) (written-within 1 65535 a.port (omega (arith, high)) low high)

beside : (s t a b : List ℕ) → s ≡ a → t ≡ b → s ++ 58 ∷ t ≡ a ++ 58 ∷ b
beside s t a b ha hb = rw (ha, hb) refl

address-from : (parts : List (List ℕ)) (a : Address) → address_from parts ≡ Some a → join_with_byte 58 parts ≡ place_text a
address-from [] a is = cc
address-from (s ∷ []) a is = cc
address-from (s ∷ t ∷ []) a is =
    let host = came (host_of s) _ a is in
    let port = came (port_of t) (λ port. Some (record { host = host.value; port = port })) a host.then in
    let read = number-read 1 65535 port.value t (omega arith) port.was in
    let made : Address = record { host = host.value; port = port.value } in
    let same : made ≡ a = cc in
    beside s t (address_text host.value) (decimal port.value) (host-only s host.value host.was) read.same
    ∙ sym (append_assoc (address_text host.value) (58 ∷ []) (decimal port.value))
    ∙ ap place_text same
address-from (s ∷ t ∷ u ∷ parts) a is = cc

pub address-only : (text : List ℕ) (a : Address) → address_of text ≡ Some a → text ≡ place_text a
unfolding address_of parts_at
address-only text a is = sym (join_with_byte-slice_split 58 text) ∙ address-from (slice_split (λ byte. byte == 58) text) a is
