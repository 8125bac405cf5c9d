-- What a pull's parts do, as courses of both levels.
use Rattle.std.proofs.Common.{ℕ, ◌==◌, ◌&&◌, nat_lt, [], length, Option, Some, None, refl}
use Rattle.isis_base.specs.declared.level.Level.{Level}
use Rattle.isis_base.specs.declared.level.Level.TheVariants as level
use Rattle.model_router.specs.Both.{at}
use Rattle.model_router.specs.Places.{nth}
use Rattle.model_router.specs.Sets.{has}
use Rattle.model_router.specs.Routers.{Circuit, Router, level_of, book_of, with_circuit}
use Rattle.model_router.specs.Pulls.{Sending, is_csnp_due, with_part, on_circuit, at_circuit, pull_hello, pull_csnp, pull_lsps, pull_psnp, pull_level, pull}
use Rattle.model_router.specs.SnpLists.{owed}
use Rattle.model_router.specs.Deeds.{Hearing, Sends, Answers, Goes, Courses}
use Rattle.model_router.proofs.BookLemmas.{choose}
use Rattle.model_router.proofs.RouterWays.{both-refl, both-trans, on-level, aside}

at_circuit-course : (heard : Level → Hearing) (s : Sending) (place : ℕ) (f : Circuit → Sending) → ((c : Circuit) → Courses heard s.router (f c).router) → Courses heard s.router (at_circuit s place f).router
at_circuit-course heard s place f h = on-it (nth s.router.circuits place)
  where
    on-it : (c : Option Circuit) → Courses heard s.router (on_circuit c s f).router
    on-it None = both-refl heard s.router
    on-it (Some c) = h c

pub pull_hello-course : (heard : Level → Hearing) (s : Sending) (place : ℕ) (c : Circuit) → Courses heard s.router (pull_hello s place c).router
unfolding pull_hello
pull_hello-course heard s place c = choose (λ (t : Sending). Courses heard s.router t.router) (c.hello == 0) _ s (λ _. aside heard s.router _ refl) (λ _. both-refl heard s.router)

pub pull_csnp-course : (heard : Level → Hearing) (s : Sending) (place : ℕ) (l : Level) (c : Circuit) → Courses heard s.router (pull_csnp s place l c).router
unfolding pull_csnp
pull_csnp-course heard s place l c = choose (λ (t : Sending). Courses heard s.router t.router) (is_csnp_due s.router.config place c l) _ s (λ _. aside heard s.router _ refl) (λ _. both-refl heard s.router)

pub pull_lsps-course : (heard : Level → Hearing) (s : Sending) (place : ℕ) (l : Level) → Courses heard s.router (pull_lsps s place l).router
unfolding pull_lsps
pull_lsps-course heard s place l = on-level heard s.router l _ (Goes _ _ (Sends (level_of s.router l) place))

pub pull_psnp-course : (heard : Level → Hearing) (s : Sending) (place : ℕ) (l : Level) (c : Circuit) → (heard l).stirs place → Courses heard s.router (pull_psnp s place l c).router
unfolding pull_psnp
pull_psnp-course heard s place l c pulls =
    let mid = with_circuit s.router place (with_part c l (record (at c.levels l) { psnp = 2 })) in
    choose (λ (t : Sending). Courses heard s.router t.router) (nat_lt 0 (length (owed place (book_of s.router l))) && (at c.levels l).psnp == 0) _ s
    (λ _. both-trans heard s.router mid _ (aside heard s.router mid refl) (on-level heard mid l _ (Goes _ _ (Answers (level_of mid l) place pulls))))
    (λ _. both-refl heard s.router)

pull_level-course : (heard : Level → Hearing) (s : Sending) (place : ℕ) (l : Level) → (heard l).stirs place → Courses heard s.router (pull_level s place l).router
unfolding pull_level
pull_level-course heard s place l pulls =
    let csnp = at_circuit s place (pull_csnp s place l) in
    let lsps = pull_lsps csnp place l in
    choose (λ (t : Sending). Courses heard s.router t.router) (has (book_of s.router l).opened place) (at_circuit lsps place (pull_psnp lsps place l)) s
    (λ _. both-trans heard s.router csnp.router _ (at_circuit-course heard s place _ (λ c. pull_csnp-course heard s place l c)) (
    both-trans heard csnp.router lsps.router _ (pull_lsps-course heard csnp place l) (at_circuit-course heard lsps place _ (λ c. pull_psnp-course heard lsps place l c pulls))))
    (λ _. both-refl heard s.router)

pub pull-course : (heard : Level → Hearing) (r : Router) (place : ℕ) → ((l : Level) → (heard l).stirs place) → Courses heard r (pull r place).router
unfolding pull
pull-course heard r place pulls =
    let start : Sending = record { router = r; out = [] } in
    let one = at_circuit start place (pull_hello start place) in
    let two = pull_level one place level.One in
    both-trans heard r one.router _ (at_circuit-course heard start place _ (λ c. pull_hello-course heard start place c)) (
    both-trans heard one.router two.router _ (pull_level-course heard one place level.One (pulls level.One)) (pull_level-course heard two place level.Two (pulls level.Two)))
