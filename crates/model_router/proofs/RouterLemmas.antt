-- What openings, closings and waits do for flooding.
use Rattle.std.proofs.Common.{◌≡◌, ℕ, ◌≤◌, eqb, Bool, true, false, not, ◌&&◌, ◌||◌, nat_lt, inl, inr, ⊎_elim, Option, Some, None, refl, sym, ◌∙◌, subst, arith, zero-le}
use Rattle.std.proofs.lemmas.Bool.Decides.{nat_tests}
use Rattle.std.specs.Option.{option_map}
use Rattle.model_router.specs.Maps.{find, each}
use Rattle.model_router.specs.Sets.{has, with_one, without}
use Rattle.model_router.specs.Cells.{Cell, srm_on}
use Rattle.model_router.specs.Books.{Book, rank_of, rank_at}
use Rattle.model_router.specs.Openings.{close, marked, open_up}
use Rattle.model_router.specs.Ageing.{wait_less}
use Rattle.model_router.specs.Flooding.{Floods, CellCovers}
use Rattle.model_router.proofs.MapLemmas.{find-each}
use Rattle.model_router.proofs.SetLemmas.{has-with_one, has-without}
use Rattle.model_router.proofs.BookLemmas.{choose, same-or}
use Rattle.model_router.proofs.FloodLemmas.{level-cell, each-floods, covers-more}

-- ---- openings

-- each cell keeps its rank, and the open circuits are others: the circuits that are open afterwards are covered
opening-floods : (heard : ℕ → ℕ → ℕ) (gone : ℕ → Bool) (b : Book) (opened : ℕ) (f : ℕ → Cell → Cell)
    → ((id : ℕ) (c : Cell) → (f id c).rank ≡ c.rank)
    → ((id : ℕ) (c : Cell) (q : ℕ) → has opened q ≡ true → has b.p2p q ≡ true → (has b.opened q ≡ true → CellCovers (heard q id) (Some c) q) → CellCovers (heard q id) (Some (f id c)) q)
    → Floods heard gone b (record b { opened = opened; cells = each f b.cells })
opening-floods heard gone b opened f ranks covers = record {
  kinds = refl;
  rank = λ id g. rw (find-each f b.cells id) (rank-step id (find b.cells id));
  covers = λ id q old o k. rw (find-each f b.cells id) (cover-step id q o k (find b.cells id) (λ was. old was k));
  rises = λ id q up. absurd (let same : rank_at (record b { opened = opened; cells = each f b.cells }) id ≤ rank_at b id = rw (find-each f b.cells id) (rank-back id (find b.cells id)) in omega arith);
}
  where
    rank-step : (id : ℕ) (held : Option Cell) → rank_of held ≤ rank_of (option_map (f id) held)
    rank-step id None = zero-le
    rank-step id (Some c) = omega (arith, ranks id c)

    rank-back : (id : ℕ) (held : Option Cell) → rank_of (option_map (f id) held) ≤ rank_of held
    rank-back id None = zero-le
    rank-back id (Some c) = omega (arith, ranks id c)

    cover-step : (id q : ℕ) → has opened q ≡ true → has b.p2p q ≡ true → (held : Option Cell) → (has b.opened q ≡ true → CellCovers (heard q id) held q) → CellCovers (heard q id) (option_map (f id) held) q
    cover-step id q o k None old = inr zero-le
    cover-step id q o k (Some c) old = covers id c q o k old

was-on : (set place q : ℕ) → has (without set place) q ≡ true → (eqb place q ≡ false) × (has set q ≡ true)
was-on set place q e = both-of (eqb place q) (has set q) (sym (has-without set place q) ∙ e)
  where
    both-of : (a b : Bool) → (not a && b) ≡ true → (a ≡ false) × (b ≡ true)
    both-of true b e = absurd (cc)
    both-of false b e = (refl, e)

pub off-other : (set place q : ℕ) → eqb place q ≡ false → has set q ≡ true → has (without set place) q ≡ true
off-other set place q e h = rw (has-without set place q, e, h) refl

-- a circuit that closes
pub close-floods : (heard : ℕ → ℕ → ℕ) (gone : ℕ → Bool) (b : Book) (place : ℕ) → Floods heard gone b (close b place)
unfolding close
close-floods heard gone b place = opening-floods heard gone b (without b.opened place) _ (λ id c. refl)
    (λ id c q o k old. let was = was-on b.opened place q o in ⊎_elim (λ f. inl (off-other c.srm place q was.0 f)) (λ h. inr h) (old was.1))

marked-rank : (c : Cell) (place : ℕ) → (marked c place).rank ≡ c.rank
marked-rank c place = choose (λ (d : Cell). d.rank ≡ c.rank) (nat_lt 0 c.rank) (srm_on c place) c (λ _. refl) (λ _. refl)

-- a circuit is covered once all is marked
marked-covers : (c : Cell) (place : ℕ) (heard : ℕ) → CellCovers heard (Some (marked c place)) place
marked-covers c place heard = choose (λ (d : Cell). CellCovers heard (Some d) place) (nat_lt 0 c.rank) (srm_on c place) c
    (λ _. inl (rw (has-with_one c.srm place place) (same-or (λ (t : Bool). (t || has c.srm place) ≡ true) place place (λ _. refl) (λ n. absurd (n refl)))))
    (λ t. inr (grind (arith, nat_tests)))

marked-more : (c : Cell) (place q : ℕ) (heard : ℕ) → CellCovers heard (Some c) q → CellCovers heard (Some (marked c place)) q
marked-more c place q heard h = choose (λ (d : Cell). CellCovers heard (Some d) q) (nat_lt 0 c.rank) (srm_on c place) c
    (λ _. ⊎_elim (λ f. inl (covers-more c.srm place q f)) (λ l. inr l) h)
    (λ _. h)

pub open_up-floods : (heard : ℕ → ℕ → ℕ) (gone : ℕ → Bool) (b : Book) (place : ℕ) → Floods heard gone b (open_up b place)
unfolding open_up
open_up-floods heard gone b place = opening-floods heard gone b (with_one b.opened place) _
    (λ id c. choose (λ (d : Cell). d.rank ≡ c.rank) (has b.p2p place) (marked c place) c (λ _. marked-rank c place) (λ _. refl))
    (λ id c q o k old. choose (λ (d : Cell). CellCovers (heard q id) (Some d) q) (has b.p2p place) (marked c place) c
    (λ _. opened-now id c q o old (eqb place q) refl)
    (λ n. old (same-or (λ (t : Bool). (t || has b.opened q) ≡ true → has b.opened q ≡ true) place q (λ e _. absurd (let k' : has b.p2p place ≡ true = subst (λ (n : ℕ). has b.p2p n ≡ true) (sym e) k in cc)) (λ _ h. h) (sym (has-with_one b.opened place q) ∙ o))))
  where
    opened-now : (id : ℕ) (c : Cell) (q : ℕ) → has (with_one b.opened place) q ≡ true → (has b.opened q ≡ true → CellCovers (heard q id) (Some c) q) → (t : Bool) → eqb place q ≡ t → CellCovers (heard q id) (Some (marked c place)) q
    opened-now id c q o old true e = let same : place ≡ q = grind (arith, nat_tests) in subst (λ (n : ℕ). CellCovers (heard q id) (Some (marked c place)) n) same (marked-covers c place (heard q id))
    opened-now id c q o old false e = marked-more c place q (heard q id) (old (let h : (eqb place q || has b.opened q) ≡ true = sym (has-with_one b.opened place q) ∙ o in rw e at h))

-- ---- waits

pub wait_less-floods : (heard : ℕ → ℕ → ℕ) (gone : ℕ → Bool) (b : Book) → Floods heard gone b (wait_less b)
unfolding wait_less
wait_less-floods heard gone b = each-floods heard gone b _ (λ id c. level-cell b.opened b.p2p (λ (q : ℕ). heard q id) c _ refl refl)
