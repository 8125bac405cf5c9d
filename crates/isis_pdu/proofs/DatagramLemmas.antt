-- A datagram is its SNPA, its boot number and its PDU, and nothing else.
use Rattle.std.proofs.Common.{◌≡◌, ℕ, zero, suc, ◌+◌, ◌*◌, ◌/◌, ◌%◌, ◌^◌, ◌<◌, ◌≤◌, List, [], ◌∷◌, ◌++◌, length, take, drop, codes, Bool, true, false, cond, Result, Ok, Err, refl, sym, ap, ◌∙◌, arith, append_assoc}
use Rattle.std.specs.List.{AllByRecursion}
use Rattle.std.proofs.lemmas.Bool.{lt-leb}
use Rattle.std.proofs.lemmas.Bool.Decides.{nat_tests}
use Rattle.std.proofs.lemmas.Slice.Eq.{bytes_eq-Decides}
use Rattle.std.specs.Prelude.{bytes_eq, nat_lt}
use Rattle.isis_base.specs.Fields.{u32_at, u32_octets}
use Rattle.isis_base.specs.declared.identifiers.Snpa.{Snpa}
use Rattle.isis_pdu.specs.declared.frame.FrameFault.{FrameFault}
use Rattle.isis_pdu.specs.declared.frame.FrameFault.TheVariants.{Version, Short, Magic}
use Rattle.isis_pdu.specs.Frames.{framed, unframed}

abbrev Framed : Type 0
Framed = Result (Snpa × ℕ × List ℕ) FrameFault

-- a fact of so many octets, and of so many octets and a rest
abbrev exactly : ℕ → (List ℕ → Type 0) → Type 0
exactly zero P = P []
exactly (suc n) P = (x : ℕ) → exactly n (λ xs. P (x ∷ xs))

abbrev leading : ℕ → (List ℕ → Type 0) → Type 0
leading zero P = (rest : List ℕ) → P rest
leading (suc n) P = (x : ℕ) → leading n (λ xs. P (x ∷ xs))

of-exactly : (n : ℕ) (P : List ℕ → Type 0) → exactly n P → (xs : List ℕ) → length xs ≡ n → P xs
of-exactly zero P p [] h = p
of-exactly zero P p (x ∷ xs) h = absurd (omega arith)
of-exactly (suc n) P p [] h = absurd (omega arith)
of-exactly (suc n) P p (x ∷ xs) h = of-exactly n (λ xs. P (x ∷ xs)) (p x) xs (omega arith)

of-leading : (n : ℕ) (P : List ℕ → Type 0) → leading n P → (xs : List ℕ) → n ≤ length xs → P xs
of-leading zero P p xs h = p xs
of-leading (suc n) P p [] h = absurd (omega arith)
of-leading (suc n) P p (x ∷ xs) h = of-leading n (λ xs. P (x ∷ xs)) (p x) xs (omega arith)

-- ---- there and back

boot-again : (n : ℕ) → n < 2 ^ 32 → u32_at 0 (u32_octets n) ≡ n
boot-again n h = omega (arith, h)

by-length : (n : ℕ) (found : Framed) → 14 ≤ n → cond {A = Framed} (nat_lt n 14) (Err Short) found ≡ found
by-length n found le = ap (λ (t : Bool). cond {A = Framed} t (Err Short) found) (lt-leb (suc n) 14 (omega (arith, le)))

pub unframed-framed : (snpa : Snpa) (boot : ℕ) (pdu : List ℕ) → length snpa.0 ≡ 6 → boot < 2 ^ 32 → unframed (framed snpa boot pdu) ≡ Ok (snpa, boot, pdu)
unfolding framed unframed
unframed-framed snpa boot pdu six small =
    of-exactly 6 (λ (xs : List ℕ). unframed (framed (record { 0 = xs }) boot pdu) ≡ Ok (record { 0 = xs }, boot, pdu)) (λ a b c d e f.
    by-length (length (codes "ISU2" ++ (a ∷ b ∷ c ∷ d ∷ e ∷ f ∷ []) ++ u32_octets boot ++ pdu)) (Ok (record { 0 = a ∷ b ∷ c ∷ d ∷ e ∷ f ∷ [] }, u32_at 0 (u32_octets boot), pdu)) (omega arith)
    ∙ ap (λ (n : ℕ). Ok (record { 0 = a ∷ b ∷ c ∷ d ∷ e ∷ f ∷ [] }, n, pdu)) (boot-again boot small)) snpa.0 six

pub framed-begins : (snpa : Snpa) (boot : ℕ) (pdu : List ℕ) → framed snpa boot pdu ≡ codes "ISU2" ++ (snpa.0 ++ (u32_octets boot ++ pdu))
unfolding framed
framed-begins snpa boot pdu = ap (λ (xs : List ℕ). codes "ISU2" ++ xs) (append_assoc snpa.0 (u32_octets boot) pdu)

-- four octets of a number are its own
boot-octets : (a b c d : ℕ) → a < 256 → b < 256 → c < 256 → d < 256 → u32_octets (u32_at 0 (a ∷ b ∷ c ∷ d ∷ [])) ≡ a ∷ b ∷ c ∷ d ∷ []
boot-octets a b c d la lb lc ld =
    let n = 256 * (256 * (256 * a + b) + c) + d in
    let first : n / 16777216 % 256 ≡ a = omega (arith, la, lb, lc, ld) in
    let second : n / 65536 % 256 ≡ b = omega (arith, la, lb, lc, ld) in
    let third : n / 256 % 256 ≡ c = omega (arith, la, lb, lc, ld) in
    let fourth : n % 256 ≡ d = omega (arith, la, lb, lc, ld) in
    λ i. first i ∷ second i ∷ third i ∷ fourth i ∷ []

abbrev Small : List ℕ → Type 0
Small octets = AllByRecursion (λ octet. octet < 256) octets

-- a datagram that has a frame is that of what stands in it
abbrev Whole : List ℕ → Type 0
Whole datagram = Small datagram → take 4 datagram ≡ codes "ISU2" → framed (record { 0 = take 6 (drop 4 datagram) }) (u32_at 10 datagram) (drop 14 datagram) ≡ datagram

whole-long : (datagram : List ℕ) → 14 ≤ length datagram → Whole datagram
unfolding framed
whole-long = of-leading 14 Whole (λ a b c d e f g h i j k l m n rest small is.
    let bytes = boot-octets k l m n small.1.1.1.1.1.1.1.1.1.1.0 small.1.1.1.1.1.1.1.1.1.1.1.0 small.1.1.1.1.1.1.1.1.1.1.1.1.0 small.1.1.1.1.1.1.1.1.1.1.1.1.1.0 in
    ap (λ (xs : List ℕ). codes "ISU2" ++ (e ∷ f ∷ g ∷ h ∷ i ∷ j ∷ []) ++ xs ++ rest) bytes
    ∙ ap (λ (xs : List ℕ). xs ++ (e ∷ f ∷ g ∷ h ∷ i ∷ j ∷ k ∷ l ∷ m ∷ n ∷ rest)) (sym is))

by-tests : (datagram : List ℕ) (snpa : Snpa) (boot : ℕ) (pdu : List ℕ) (old short magic : Bool) → Small datagram → nat_lt (length datagram) 14 ≡ short → bytes_eq (take 4 datagram) (codes "ISU2") ≡ magic
    → cond {A = Framed} old (Err Version) (cond short (Err Short) (cond magic (Ok (record { 0 = take 6 (drop 4 datagram) }, u32_at 10 datagram, drop 14 datagram)) (Err Magic))) ≡ Ok (snpa, boot, pdu) → framed snpa boot pdu ≡ datagram
by-tests datagram snpa boot pdu true short magic small s e is = cc
by-tests datagram snpa boot pdu false true magic small s e is = cc
by-tests datagram snpa boot pdu false false false small s e is = cc
by-tests datagram snpa boot pdu false false true small s e is =
    let triple : ◌≡◌ {A = Snpa × ℕ × List ℕ} (record { 0 = take 6 (drop 4 datagram) }, u32_at 10 datagram, drop 14 datagram) (snpa, boot, pdu) = cc in
    ap (λ (p : Snpa × ℕ × List ℕ). framed p.0 p.1 p.2) (sym triple)
    ∙ whole-long datagram (grind (arith, nat_tests, s)) small ((bytes_eq-Decides (take 4 datagram) (codes "ISU2")).0 e)

pub framed-unframed : (datagram pdu : List ℕ) (snpa : Snpa) (boot : ℕ) → Small datagram → unframed datagram ≡ Ok (snpa, boot, pdu) → framed snpa boot pdu ≡ datagram
unfolding unframed
framed-unframed datagram pdu snpa boot small is = by-tests datagram snpa boot pdu (bytes_eq (take 4 datagram) (codes "ISU1")) (nat_lt (length datagram) 14) (bytes_eq (take 4 datagram) (codes "ISU2")) small refl refl is
