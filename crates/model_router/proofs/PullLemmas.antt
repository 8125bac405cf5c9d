-- What sending and answering do for flooding.
use Rattle.std.proofs.Common.{◌≡◌, ℕ, Bool, true, false, inl, inr, ⊎_elim, Some, if◌then◌else◌, refl, sym, subst, arith, le_refl}
use Rattle.model_router.specs.Sets.{has}
use Rattle.model_router.specs.Cells.{Cell, srm_off, srm_sent}
use Rattle.model_router.specs.Books.{Book}
use Rattle.model_router.specs.Pulls.{srm_due, sent_cell, sent, answered}
use Rattle.model_router.specs.Flooding.{Floods, CellFloods}
use Rattle.model_router.proofs.BookLemmas.{choose, same-or}
use Rattle.model_router.proofs.FloodLemmas.{same-cell, level-cell, each-floods}
use Rattle.model_router.proofs.RouterLemmas.{off-other}

-- SRM that is cleared on a LAN
lan-off : (opened p2p : ℕ) (heard : ℕ → ℕ) (place : ℕ) (c : Cell) → has p2p place ≡ false → CellFloods opened p2p heard (Some c) (Some (srm_off c place))
lan-off opened p2p heard place c n = record {
  rank = le_refl _;
  covers = λ q o k x. ⊎_elim (λ f. inl (off-other c.srm place q (same-or (λ (t : Bool). t ≡ false) place q (λ e. absurd (let k' : has p2p place ≡ true = subst (λ (m : ℕ). has p2p m ≡ true) (sym e) k in cc)) (λ _. refl)) f)) (λ l. inr l) x;
  rises = λ q o k up. absurd (omega arith);
}

sent-cell : (opened p2p : ℕ) (heard : ℕ → ℕ) (place : ℕ) (c : Cell) → CellFloods opened p2p heard (Some c) (Some (sent_cell p2p place c))
sent-cell opened p2p heard place c =
    let P : Cell → Type 0 = λ d. CellFloods opened p2p heard (Some c) (Some d) in
    choose P (srm_due place c) (if has p2p place then srm_sent c place else srm_off c place) c
    (λ _. choose P (has p2p place) (srm_sent c place) (srm_off c place) (λ _. level-cell opened p2p heard c _ refl refl) (λ n. lan-off opened p2p heard place c n))
    (λ _. same-cell opened p2p heard (Some c))

pub sent-floods : (heard : ℕ → ℕ → ℕ) (gone : ℕ → Bool) (b : Book) (place : ℕ) → Floods heard gone b (sent b place)
unfolding sent
sent-floods heard gone b place = each-floods heard gone b _ (λ id c. sent-cell b.opened b.p2p (λ (q : ℕ). heard q id) place c)

pub answered-floods : (heard : ℕ → ℕ → ℕ) (gone : ℕ → Bool) (b : Book) (place : ℕ) → Floods heard gone b (answered b place)
unfolding answered
answered-floods heard gone b place = each-floods heard gone b _ (λ id c. level-cell b.opened b.p2p (λ (q : ℕ). heard q id) c _ refl refl)
