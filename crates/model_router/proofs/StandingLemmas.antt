-- What stands between two ends of a link, after a step of either.
use Rattle.std.proofs.Common.{◌≡◌, ℕ, ◌<◌, ◌≤◌, ◌⊎◌, true, inl, inr, ⊎_elim, refl, le_trans}
use Rattle.std.proofs.lemmas.Bool.{cases_lt}
use Rattle.isis_base.specs.declared.level.Level.{Level}
use Rattle.model_router.specs.Sets.{has}
use Rattle.model_router.specs.Books.{Book, rank_at, srm_at}
use Rattle.model_router.specs.Routers.{Router, book_of}
use Rattle.model_router.specs.Givens.{Given}
use Rattle.model_router.specs.Events.{Event}
use Rattle.model_router.specs.Steps.{step}
use Rattle.model_router.specs.Flooding.{Covers, Stands, IsKept}
use Rattle.model_router.specs.Hearings.{heard_in}
use Rattle.model_router.proofs.BookLemmas.{test}
use Rattle.model_router.proofs.StepLemmas.{step-keeps}

-- a greater rank covers as well
covers-more : (heard more : ℕ) (b : Book) (id place : ℕ) → heard ≤ more → Covers heard b id place → Covers more b id place
covers-more heard more b id place h c o k = ⊎_elim (λ f. inl f) (λ l. inr (le_trans l h)) (c o k)

-- what a step hears is at most what covers, so that it stays covered
wider : (heard more : ℕ) (a b : Book) (id place : ℕ) → heard ≤ more
    → (Covers heard a id place → Covers heard b id place) → (rank_at a id < rank_at b id → Covers heard b id place)
    → Covers more a id place → Covers more b id place
wider heard more a b id place h keeps rises c o k = ⊎_elim (λ up. widened (rises up)) (λ still. by-open still) (cases_lt (rank_at a id) (rank_at b id))
  where
    widened : Covers heard b id place → (srm_at b id place ≡ true) ⊎ (rank_at b id ≤ more)
    widened d = covers-more heard more b id place h d o k

    by-open : rank_at b id ≤ rank_at a id → (srm_at b id place ≡ true) ⊎ (rank_at b id ≤ more)
    by-open still =
        test (λ t. has a.opened place ≡ t → (srm_at b id place ≡ true) ⊎ (rank_at b id ≤ more)) (has a.opened place)
        (λ _ ao. test (λ t. has a.p2p place ≡ t → (srm_at b id place ≡ true) ⊎ (rank_at b id ≤ more)) (has a.p2p place)
        (λ _ ak. ⊎_elim (λ f. widened (keeps (λ _ _. inl f))) (λ l. inr (le_trans still l)) (c ao ak))
        (λ _ nk. widened (keeps (λ _ k'. absurd (cc)))) refl)
        (λ _ no_open. widened (keeps (λ o' _. absurd (cc)))) refl

pub stands-here : (given : Given) (a b : Router) (event : Event) (level : Level) (place id : ℕ) → heard_in event level place id ≤ rank_at (book_of b level) id → Stands a place b level id → Stands (step given a event).router place b level id
stands-here given a b event level place id h c =
    let f = ((step-keeps given a event).on level).floods in
    wider (heard_in event level place id) (rank_at (book_of b level) id) (book_of a level) (book_of (step given a event).router level) id place h (f.covers id place) (f.rises id place) c

pub stands-there : (given : Given) (a b : Router) (event : Event) (level : Level) (place id : ℕ) → IsKept (step given b event).router level id → Stands a place b level id → Stands a place (step given b event).router level id
stands-there given a b event level place id g c = covers-more _ _ (book_of a level) id place (((step-keeps given b event).on level).floods.rank id g) c
