-- Ways and courses keep flooding, from their deeds.
use Rattle.std.proofs.Common.{◌≡◌, refl, ◌∙◌, arith}
use Rattle.model_router.specs.Routers.{LevelState}
use Rattle.model_router.specs.Flooding.{Keeps}
use Rattle.model_router.specs.Deeds.{Hearing, Way, Still, Then, Hear, Let, Entry, Range, Install, Retire, Age, Own, Wait, Sends, Answers, Course, Goes, Next, Closes, Opens}
use Rattle.model_router.proofs.FloodLemmas.{floods-refl, lsp-floods, entry-floods, range-floods}
use Rattle.model_router.proofs.LevelLemmas.{keeps-refl, keeps-trans, book-keeps, let_go-grows, install-keeps, retire-keeps, age_one-keeps}
use Rattle.model_router.proofs.RouterLemmas.{close-floods, open_up-floods, wait_less-floods}
use Rattle.model_router.proofs.SteadyLemmas.{hear_lsp-opened, hear_entry-opened, hear_range-opened, install-opened, retire-opened, age_one-opened, wait_less-opened, sent-opened, answered-opened}
use Rattle.model_router.proofs.PullLemmas.{sent-floods, answered-floods}

pub way-keeps : (heard : Hearing) (a b : LevelState) → Way heard a b → Keeps heard.rank a b
way-keeps heard a b (Still s) = keeps-refl heard.rank s
way-keeps heard a c (Then _ b _ f g) = keeps-trans heard.rank a b c (way-keeps heard a b f) (way-keeps heard b c g)
way-keeps heard a b (Hear s place w h k named src good) = book-keeps heard.rank s _ refl (λ gone. lsp-floods heard.rank gone s.book place w h k)
way-keeps heard a b (Let s id) = record { grows = λ x e. let_go-grows s.gone id x e; floods = floods-refl heard.rank _ s.book }
way-keeps heard a b (Entry s place w h k named good) = book-keeps heard.rank s _ refl (λ gone. entry-floods heard.rank gone s.book place w h k)
way-keeps heard a b (Range s place start end entries) = book-keeps heard.rank s _ refl (λ gone. range-floods heard.rank gone s.book place start end entries)
way-keeps heard a b (Install s id contents cell k src good) = install-keeps heard.rank s id contents cell (omega (arith, k))
way-keeps heard a b (Retire s id cell k dead made good) = retire-keeps heard.rank s id cell (omega (arith, k))
way-keeps heard a b (Age s id) = age_one-keeps heard.rank s id
way-keeps heard a b (Own s own) = record { grows = λ x e. e; floods = floods-refl heard.rank _ s.book }
way-keeps heard a b (Wait s) = book-keeps heard.rank s _ refl (λ gone. wait_less-floods heard.rank gone s.book)
way-keeps heard a b (Sends s place) = book-keeps heard.rank s _ refl (λ gone. sent-floods heard.rank gone s.book place)
way-keeps heard a b (Answers s place stirs) = book-keeps heard.rank s _ refl (λ gone. answered-floods heard.rank gone s.book place)

pub course-keeps : (heard : Hearing) (a b : LevelState) → Course heard a b → Keeps heard.rank a b
course-keeps heard a b (Goes _ _ w) = way-keeps heard a b w
course-keeps heard a c (Next _ b _ f g) = keeps-trans heard.rank a b c (course-keeps heard a b f) (course-keeps heard b c g)
course-keeps heard a b (Closes s place stirs) = book-keeps heard.rank s _ refl (λ gone. close-floods heard.rank gone s.book place)
course-keeps heard a b (Opens s place) = book-keeps heard.rank s _ refl (λ gone. open_up-floods heard.rank gone s.book place)

-- a way opens and closes nothing
pub way-opened : (heard : Hearing) (a b : LevelState) → Way heard a b → b.book.opened ≡ a.book.opened
way-opened heard a b (Still s) = refl
way-opened heard a c (Then _ b _ f g) = way-opened heard b c g ∙ way-opened heard a b f
way-opened heard a b (Hear s place w h k named src good) = hear_lsp-opened s.book place w h
way-opened heard a b (Let s id) = refl
way-opened heard a b (Entry s place w h k named good) = hear_entry-opened s.book place w h
way-opened heard a b (Range s place start end entries) = hear_range-opened s.book place start end entries
way-opened heard a b (Install s id contents cell k src good) = install-opened s id contents cell
way-opened heard a b (Retire s id cell k dead made good) = retire-opened s id cell
way-opened heard a b (Age s id) = age_one-opened s id
way-opened heard a b (Own s own) = refl
way-opened heard a b (Wait s) = wait_less-opened s.book
way-opened heard a b (Sends s place) = sent-opened s.book place
way-opened heard a b (Answers s place stirs) = answered-opened s.book place
