-- Cells that are issued or purged are good.
use Rattle.std.proofs.Common.{◌≡◌, ◌≢◌, ℕ, zero, suc, refl, ◌+◌, ◌^◌, ◌<◌, ◌≤◌, ◌==◌, nat_lt, true, false, List, length, drop, Option, Some, None, arith, length-append, length-drop, length-take-le}
use Rattle.std.proofs.lemmas.Bool.Decides.{nat_tests}
use Rattle.isis_base.specs.declared.level.Level.{Level}
use Rattle.model_router.specs.Ranks.{number_of, is_live, purge_rank}
use Rattle.model_router.specs.Cells.{Cell, Heard, header_of, purged, purge_of, flagged}
use Rattle.model_router.specs.Books.{rank_of}
use Rattle.model_router.specs.Routers.{Contents, Router}
use Rattle.model_router.specs.Givens.{Given}
use Rattle.model_router.specs.OwnLsps.{issue_cell, last_number}
use Rattle.model_router.specs.Takes.{last_purge, held_purge}
use Rattle.model_router.specs.Good.{IsGood, IsGoodCell, IsGoodLsp, IsGoodGiven}
use Rattle.model_router.proofs.BookLemmas.{choose}

pub header-length : (octets : List ℕ) → 27 ≤ length octets → 27 ≤ length (header_of octets)
unfolding header_of
header-length octets h =
    let a = length-take-le 8 octets (omega (arith, h)) in
    let b = length-take-le 12 (drop 12 octets) (omega (arith, h, length-drop 12 octets)) in
    let c = length-take-le 1 (drop 26 octets) (omega (arith, h, length-drop 26 octets)) in
    grind (arith, length-append, a, b, c)

pub below-last : (n : ℕ) → (n == last_number) ≡ false → n ≤ last_number → n + 1 ≤ last_number
below-last n e h = grind (arith, nat_tests, e, h)

pub number-last : (rank : ℕ) → rank < 2 ^ 33 → number_of rank ≤ last_number
number-last rank h = omega (arith, h)

pub purge-dead : (number : ℕ) → is_live (purge_rank number) ≡ false
purge-dead number = grind (arith, nat_tests)

-- a purge that is made, with flags
pub purge-good : (number flags : ℕ) (octets : List ℕ) (srm : ℕ) → 1 ≤ number → number ≤ last_number → 27 ≤ length octets → IsGoodCell (flagged (purge_of number flags octets) srm 0)
purge-good number flags octets srm some n h = record {
  bounded = omega (arith, n);
  number = λ e. omega (arith, e, some);
  left = omega arith;
  fits = omega arith;
  word = omega arith;
  header = λ _. header-length octets h;
  summed = λ live. absurd (let dead = purge-dead number in cc);
  silent = λ none place. absurd (omega (arith, none));
}

-- a key has a number that isn't 0
keyed-number : (rank : ℕ) → 0 < rank → rank ≢ 1 → 1 ≤ number_of rank
keyed-number zero some other = absurd (omega (arith, some))
keyed-number (suc zero) some other = absurd (other refl)
keyed-number (suc (suc n)) some other = omega arith

pub purged-good : (id : ℕ) (c : Cell) (srm : ℕ) → 0 < c.rank → IsGood id (Some c) → IsGood id (Some (flagged (purged c) srm 0))
purged-good id c srm some good = (good.0, purge-good (number_of c.rank) c.flags c.octets srm (keyed-number c.rank some good.1.number) (number-last c.rank good.1.bounded) (good.1.header some))

pub issue-good : (given : Given) (r : Router) (level : Level) (id number : ℕ) (contents : Contents) (srm : ℕ) → IsGoodGiven given → number + 1 ≤ last_number → IsGoodCell (flagged (issue_cell given r level id (number + 1) contents) srm 0)
issue-good given r level id number contents srm good n = record {
  bounded = omega (arith, n);
  number = λ e. omega (arith, e);
  left = omega arith;
  fits = omega arith;
  word = good.word r level id (number + 1) contents;
  header = λ _. good.header r level id (number + 1) contents;
  summed = λ _. good.summed r level id (number + 1) contents;
  silent = λ none place. absurd (omega (arith, none));
}

pub last-good : (held : Option Cell) (h : Heard) (srm : ℕ) → rank_of held ≤ h.rank → IsGoodLsp h → IsGood h.id held → IsGoodCell (flagged (last_purge held h) srm 0)
last-good None h srm e f good = purge-good (number_of h.rank) h.flags h.octets srm (let p = f.some in omega (arith, p)) (number-last h.rank f.bounded) f.header
last-good (Some c) h srm e f good = choose (λ (d : Cell). IsGoodCell (flagged d srm 0)) (nat_lt c.rank h.rank) (purge_of (number_of h.rank) h.flags h.octets) (purged c)
    (λ _. purge-good (number_of h.rank) h.flags h.octets srm (let p = f.some in omega (arith, p)) (number-last h.rank f.bounded) f.header)
    (λ t. let some : 0 < c.rank = (let p = f.some in grind (arith, nat_tests, t, p)) in (purged-good h.id c srm some good).1)

pub held-good : (id : ℕ) (held : Option Cell) (rank srm : ℕ) → rank_of held ≡ rank → is_live rank ≡ true → IsGood id held → (id < 2 ^ 64) × (number_of rank ≤ last_number) × IsGoodCell (flagged (held_purge held) srm 0)
held-good id None rank srm e live good = absurd (grind (arith, nat_tests, e, live))
held-good id (Some c) rank srm e live good =
    let some : 0 < c.rank = grind (arith, nat_tests, e, live) in
    (good.0, number-last rank (let b = good.1.bounded in omega (arith, b, e)), (purged-good id c srm some good).1)

pub held-bounded : (id : ℕ) (held : Option Cell) → IsGood id held → rank_of held < 2 ^ 33
held-bounded id None good = omega arith
held-bounded id (Some c) good = good.1.bounded
