-- What waits is flagged, and waits five seconds at most: the seconds as digits, what deeds on one cell keep of it, and so
-- what a step keeps.
use Rattle.std.proofs.Common.{◌≡◌, ℕ, zero, suc, ◌+◌, ◌-◌, ◌*◌, ◌%◌, ◌^◌, ◌<◌, ◌≤◌, min, max, eqb, Bool, true, false, List, Option, Some, None, if◌then◌else◌}
use Rattle.std.proofs.Common.{bit_and, bit_or, bit_xor, refl, sym, ap, ◌∙◌, subst, arith, zero-le}
use Rattle.std.specs.Int.{bit_at}
use Rattle.std.proofs.lemmas.Nat.Bits.{bit_at_or, bit_at_and, bit_at_xor, bit_at-pow_same, bit_at-pow_other, bit_at-lt, bit_at-zero}
use Rattle.isis_base.specs.declared.level.Level.{Level}
use Rattle.isis_base.specs.declared.level.Level.TheVariants as level
use Rattle.model_router.specs.Sets.{has, with_one, without}
use Rattle.model_router.specs.Waits.{Waits, wait, no_waits, due_at, five_at, waiting, fallen}
use Rattle.model_router.specs.Cells.{Cell}
use Rattle.model_router.specs.Books.{cell_at, srm_of}
use Rattle.model_router.specs.Configs.{Config}
use Rattle.model_router.specs.Routers.{Circuit, Router, book_of}
use Rattle.model_router.specs.Givens.{Given}
use Rattle.model_router.specs.Events.{Event}
use Rattle.model_router.specs.Steps.{step}
use Rattle.model_router.specs.Starts.{start}
use Rattle.model_router.proofs.BookLemmas.{choose, same-or}
use Rattle.model_router.proofs.FloodLemmas.{covers-more}
use Rattle.model_router.proofs.RouterLemmas.{off-other}
use Rattle.step_laws.specs.Flags.{wait_of, WaitsAreFlagged}
use Rattle.step_laws.proofs.FlagLemmas.{Rule, Fits, Whole}
use Rattle.step_laws.proofs.FlagRouters.{Holds, step-holds}

-- ---- digits

bit-with : (s p q : ℕ) → bit_at (with_one s p) q ≡ (if eqb p q then 1 else bit_at s q)
unfolding with_one
bit-with s p q =
    bit_at_or s (2 ^ p) q
    ∙ same-or (λ (t : Bool). max (bit_at s q) (bit_at (2 ^ p) q) ≡ (if t then 1 else bit_at s q)) p q
    (λ same. let e : bit_at (2 ^ p) q ≡ 1 = subst (λ (n : ℕ). bit_at (2 ^ p) n ≡ 1) same (bit_at-pow_same p) in
    let small = bit_at-lt s q in omega (arith, e, small))
    (λ other. let e = bit_at-pow_other p q (λ k. other (sym k)) in omega (arith, e))

bit-without : (s p q : ℕ) → bit_at (without s p) q ≡ (if eqb p q then 0 else bit_at s q)
unfolding without
bit-without s p q =
    bit_at_xor s (bit_and s (2 ^ p)) q ∙ ap (λ (n : ℕ). (bit_at s q + n) % 2) (bit_at_and s (2 ^ p) q)
    ∙ same-or (λ (t : Bool). (bit_at s q + min (bit_at s q) (bit_at (2 ^ p) q)) % 2 ≡ (if t then 0 else bit_at s q)) p q
    (λ same. let e : bit_at (2 ^ p) q ≡ 1 = subst (λ (n : ℕ). bit_at (2 ^ p) n ≡ 1) same (bit_at-pow_same p) in
    let small = bit_at-lt s q in omega (arith, e, small))
    (λ other. let e = bit_at-pow_other p q (λ k. other (sym k)) in let small = bit_at-lt s q in omega (arith, e, small))

-- three digits by three others
digits : (a b c x y z : ℕ) → a ≡ x → b ≡ y → c ≡ z → a + 2 * b + 4 * c ≡ x + 2 * y + 4 * z
digits a b c x y z e f g = omega (arith, e, f, g)

pub no-wait : (q : ℕ) → wait no_waits q ≡ 0
no-wait q = let z = bit_at-zero q in omega (arith, z)

pub due-wait : (w : Waits) (p q : ℕ) → wait (due_at w p) q ≡ (if eqb p q then 0 else wait w q)
due-wait w p q =
    digits _ _ _ _ _ _ (bit-without w.ones p q) (bit-without w.twos p q) (bit-without w.fours p q)
    ∙ by-test (eqb p q) (bit_at w.ones q) (bit_at w.twos q) (bit_at w.fours q)
  where
    by-test : (t : Bool) (a b c : ℕ) → (if t then 0 else a) + 2 * (if t then 0 else b) + 4 * (if t then 0 else c) ≡ (if t then 0 else a + 2 * b + 4 * c)
    by-test true a b c = refl
    by-test false a b c = refl

pub five-wait : (w : Waits) (p q : ℕ) → wait (five_at w p) q ≡ (if eqb p q then 5 else wait w q)
five-wait w p q =
    digits _ _ _ _ _ _ (bit-with w.ones p q) (bit-without w.twos p q) (bit-with w.fours p q)
    ∙ by-test (eqb p q) (bit_at w.ones q) (bit_at w.twos q) (bit_at w.fours q)
  where
    by-test : (t : Bool) (a b c : ℕ) → (if t then 1 else a) + 2 * (if t then 0 else b) + 4 * (if t then 1 else c) ≡ (if t then 5 else a + 2 * b + 4 * c)
    by-test true a b c = refl
    by-test false a b c = refl

-- one less, by its digits
one-less : (a b c : ℕ) → a < 2 → b < 2 → c < 2
    → (a + max a (max b c)) % 2 + 2 * ((b + min ((a + max a (max b c)) % 2) (max a (max b c))) % 2) + 4 * min c (max a b) ≡ (a + 2 * b + 4 * c) - 1
one-less zero zero zero h k l = refl
one-less zero zero (suc zero) h k l = refl
one-less zero (suc zero) zero h k l = refl
one-less zero (suc zero) (suc zero) h k l = refl
one-less (suc zero) zero zero h k l = refl
one-less (suc zero) zero (suc zero) h k l = refl
one-less (suc zero) (suc zero) zero h k l = refl
one-less (suc zero) (suc zero) (suc zero) h k l = refl
one-less (suc (suc a)) b c h k l = absurd (omega (arith, h))
one-less zero (suc (suc b)) c h k l = absurd (omega (arith, k))
one-less (suc zero) (suc (suc b)) c h k l = absurd (omega (arith, k))
one-less zero zero (suc (suc c)) h k l = absurd (omega (arith, l))
one-less zero (suc zero) (suc (suc c)) h k l = absurd (omega (arith, l))
one-less (suc zero) zero (suc (suc c)) h k l = absurd (omega (arith, l))
one-less (suc zero) (suc zero) (suc (suc c)) h k l = absurd (omega (arith, l))

pub fallen-wait : (w : Waits) (q : ℕ) → wait (fallen w) q ≡ wait w q - 1
unfolding fallen
fallen-wait w q = digits _ _ _ _ _ _ ones twos fours ∙ one-less a b c (bit_at-lt w.ones q) (bit_at-lt w.twos q) (bit_at-lt w.fours q)
  where
    a : ℕ
    a = bit_at w.ones q

    b : ℕ
    b = bit_at w.twos q

    c : ℕ
    c = bit_at w.fours q

    some : bit_at (waiting w) q ≡ max a (max b c)
    some = bit_at_or w.ones (bit_or w.twos w.fours) q ∙ ap (λ (n : ℕ). max a n) (bit_at_or w.twos w.fours q)

    ones : bit_at (bit_xor w.ones (waiting w)) q ≡ (a + max a (max b c)) % 2
    ones = bit_at_xor w.ones (waiting w) q ∙ ap (λ (n : ℕ). (a + n) % 2) some

    both : bit_at (bit_and (bit_xor w.ones (waiting w)) (waiting w)) q ≡ min ((a + max a (max b c)) % 2) (max a (max b c))
    both = bit_at_and (bit_xor w.ones (waiting w)) (waiting w) q ∙ ap (λ (n : ℕ). min n (bit_at (waiting w) q)) ones
        ∙ ap (λ (n : ℕ). min ((a + max a (max b c)) % 2) n) some

    twos : bit_at (bit_xor w.twos (bit_and (bit_xor w.ones (waiting w)) (waiting w))) q ≡ (b + min ((a + max a (max b c)) % 2) (max a (max b c))) % 2
    twos = bit_at_xor w.twos (bit_and (bit_xor w.ones (waiting w)) (waiting w)) q ∙ ap (λ (n : ℕ). (b + n) % 2) both

    fours : bit_at (bit_and w.fours (bit_or w.ones w.twos)) q ≡ min c (max a b)
    fours = bit_at_and w.fours (bit_or w.ones w.twos) q ∙ ap (λ (n : ℕ). min c n) (bit_at_or w.ones w.twos q)

-- ---- the rule

-- what waits of a cell is flagged, and waits five seconds at most
record AreFlagged (srm : ℕ) (w : Waits) : Type 0 where
  on : (q : ℕ) → 0 < wait w q → has srm q ≡ true
  most : (q : ℕ) → wait w q ≤ 5

none-waits : (srm : ℕ) → AreFlagged srm no_waits
none-waits srm = record {
  on = λ q h. absurd (let z = no-wait q in omega (arith, h, z));
  most = λ q. let z = no-wait q in omega (arith, z);
}

-- one circuit waits no more
due-flagged : (srm after : ℕ) (w : Waits) (place : ℕ) → ((q : ℕ) → eqb place q ≡ false → has srm q ≡ true → has after q ≡ true) → AreFlagged srm w
    → AreFlagged after (due_at w place)
due-flagged srm after w place f k = record {
  on = λ q. subst (λ (n : ℕ). 0 < n → has after q ≡ true) (sym (due-wait w place q))
      (choose (λ (n : ℕ). 0 < n → has after q ≡ true) (eqb place q) 0 (wait w q) (λ _ h. absurd (omega (arith, h))) (λ other h. f q other (k.on q h)));
  most = λ q. subst (λ (n : ℕ). n ≤ 5) (sym (due-wait w place q)) (choose (λ (n : ℕ). n ≤ 5) (eqb place q) 0 (wait w q) (λ _. zero-le) (λ _. k.most q));
}

-- one flagged circuit waits five seconds
five-flagged : (srm : ℕ) (w : Waits) (place : ℕ) → has srm place ≡ true → AreFlagged srm w → AreFlagged srm (five_at w place)
five-flagged srm w place o k = record {
  on = λ q. subst (λ (n : ℕ). 0 < n → has srm q ≡ true) (sym (five-wait w place q))
      (same-or (λ (t : Bool). 0 < (if t then 5 else wait w q) → has srm q ≡ true) place q
      (λ same _. subst (λ (n : ℕ). has srm n ≡ true) same o) (λ _ h. k.on q h));
  most = λ q. subst (λ (n : ℕ). n ≤ 5) (sym (five-wait w place q)) (choose (λ (n : ℕ). n ≤ 5) (eqb place q) 5 (wait w q) (λ _. omega arith) (λ _. k.most q));
}

fallen-flagged : (srm : ℕ) (w : Waits) → AreFlagged srm w → AreFlagged srm (fallen w)
fallen-flagged srm w k = record {
  on = λ q h. k.on q (let e = fallen-wait w q in omega (arith, e, h));
  most = λ q. let e = fallen-wait w q in let m = k.most q in omega (arith, e, m);
}

abbrev wait-rule : Rule
wait-rule = record {
  holds = λ opened srm ssn w. AreFlagged srm w;
  flooded = λ opened. none-waits opened;
  stored = λ opened place ssn o f. none-waits (without opened place);
  empty = λ opened. none-waits 0;
  srm_set = λ opened srm ssn w place o k. due-flagged srm (with_one srm place) w place (λ q other h. covers-more srm place q h) k;
  srm_cleared = λ opened srm ssn w place k. due-flagged srm (without srm place) w place (λ q other h. off-other srm place q other h) k;
  ssn_set = λ opened srm ssn w place o k. k;
  ssn_cleared = λ opened srm ssn w place k. k;
  sends = λ opened srm ssn w place on k. five-flagged srm w place on k;
  falls = λ opened srm ssn w k. fallen-flagged srm w k;
  closes = λ opened srm ssn w place k. due-flagged srm (without srm place) w place (λ q other h. off-other srm place q other h) k;
  opens = λ opened srm ssn w place k. k;
}

-- ---- the law

fits-of : (opened : ℕ) (held : Option Cell) → ((q : ℕ) → 0 < wait_of held q → srm_of held q ≡ true) → ((q : ℕ) → wait_of held q ≤ 5)
    → Fits wait-rule opened held
fits-of opened None f g = tt
fits-of opened (Some c) f g = record { on = f; most = g }

flagged-fits : (opened : ℕ) (held : Option Cell) (q : ℕ) → Fits wait-rule opened held → 0 < wait_of held q → srm_of held q ≡ true
flagged-fits opened None q k h = absurd (omega (arith, h))
flagged-fits opened (Some c) q k h = k.on q h

most-fits : (opened : ℕ) (held : Option Cell) (q : ℕ) → Fits wait-rule opened held → wait_of held q ≤ 5
most-fits opened None q k = zero-le
most-fits opened (Some c) q k = k.most q

holds-of : (r : Router) → WaitsAreFlagged r → Holds wait-rule r
holds-of r h = record { on = λ l. record { same = refl; on = λ id. fits-of (book_of r l).opened (cell_at (book_of r l) id) (h.flagged l id) (h.most l id) } }

of-holds : (r : Router) → Holds wait-rule r → WaitsAreFlagged r
of-holds r k = record {
  flagged = λ l id place. flagged-fits (book_of r l).opened (cell_at (book_of r l) id) place ((k.on l).on id);
  most = λ l id place. most-fits (book_of r l).opened (cell_at (book_of r l) id) place ((k.on l).on id);
}

pub step-flagged : (given : Given) (r : Router) (event : Event) → WaitsAreFlagged r → WaitsAreFlagged (step given r event).router
step-flagged given r event h = of-holds (step given r event).router (step-holds wait-rule given r event (holds-of r h))

pub start-flagged : (config : Config) (boot : ℕ) (circuits : List Circuit) → WaitsAreFlagged (start config boot circuits)
start-flagged config boot circuits = of-holds (start config boot circuits) (record { on = each-level })
  where
    each-level : (l : Level) → Whole wait-rule (book_of (start config boot circuits) l)
    each-level level.One = record { same = refl; on = λ id. tt }
    each-level level.Two = record { same = refl; on = λ id. tt }
