-- The laws of ranks and flags of a step, from the course of both levels.
use Rattle.std.proofs.Common.{◌≡◌, ℕ, ◌<◌, ◌≤◌, ◌==◌, Bool, true, ◌⊎◌, inl, inr, Option, Some, None, if◌then◌else◌, refl, subst, arith}
use Rattle.isis_base.specs.declared.level.Level.{Level}
use Rattle.isis_base.specs.declared.level.Level.TheVariants as level
use Rattle.model_router.specs.declared.drop_name.DropName.{DropName}
use Rattle.model_router.specs.Places.{nth}
use Rattle.model_router.specs.Routers.{Circuit, LevelState, Router, level_of, book_of, with_level}
use Rattle.model_router.specs.Givens.{Given}
use Rattle.model_router.specs.Takes.{whose_of}
use Rattle.model_router.specs.Events.{Message, Refused, PointHelloHeard, LanHelloHeard, LspHeard, SnpHeard, Event, Second, Take, Pull, Metric, Overload, Prefix, settled}
use Rattle.model_router.specs.Receiving.{scene_of, taken, take_or_drop, take, drop_of}
use Rattle.model_router.specs.Steps.{step}
use Rattle.model_router.specs.Hearings.{heard_in, Taken, hearing}
use Rattle.model_router.specs.StepLaws.{RankStays, FlagStays, RiseIsFlagged, OpeningIsFlagged}
use Rattle.model_router.specs.Flooding.{KeepsBoth}
use Rattle.model_router.specs.Sets.{has}
use Rattle.model_router.specs.Books.{srm_at}
use Rattle.model_router.proofs.BookLemmas.{same-or}
use Rattle.model_router.proofs.WayLemmas.{course-keeps, way-opened}
use Rattle.model_router.proofs.LevelWays.{issued-own, take_lsp-way, take_snp-way}
use Rattle.model_router.proofs.StepWays.{step-course, lsp-heard, entries-heard, lsp-named, entries-named, issued}
use Rattle.model_router.proofs.OwnLemmas.{answer-mine}

pub step-keeps : (given : Given) (r : Router) (event : Event) → KeepsBoth (heard_in event) r (step given r event).router
step-keeps given r event = record { on = λ level. course-keeps (hearing given r event level) (level_of r level) (level_of (step given r event).router level) ((step-course given r event).on level) }

-- ---- the laws in words of their own

decided : (flag : Bool) (rank heard : ℕ) → (flag ≡ true) ⊎ (rank ≤ heard) → heard < rank → flag ≡ true
decided flag rank heard (inl f) h = f
decided flag rank heard (inr l) h = absurd (omega (arith, l, h))

pub rank-stays : (given : Given) (r : Router) (event : Event) → RankStays r (step given r event).router
rank-stays given r event level id g = ((step-keeps given r event).on level).floods.rank id g

pub flag-stays : (given : Given) (r : Router) (event : Event) → FlagStays event r (step given r event).router
flag-stays given r event level place id before after flag newer =
    decided _ _ _ (((step-keeps given r event).on level).floods.covers id place (λ _ _. inl flag) after.0 after.1) newer

pub rise-is-flagged : (given : Given) (r : Router) (event : Event) → RiseIsFlagged event r (step given r event).router
rise-is-flagged given r event level place id after rise newer =
    decided _ _ _ (((step-keeps given r event).on level).floods.rises id place rise after.0 after.1) newer

-- one level's circuits are those that were open, where that level's book is
on-level-opened : (r : Router) (l m : Level) (s : LevelState) → s.book.opened ≡ (level_of r l).book.opened → (level_of (with_level r l s) m).book.opened ≡ (level_of r m).book.opened
on-level-opened r level.One level.One s e = e
on-level-opened r level.One level.Two s e = refl
on-level-opened r level.Two level.One s e = refl
on-level-opened r level.Two level.Two s e = e

-- an event in which an LSP or an SNP is taken opens no circuit; no other one says a rank
data Quiet (r : Router) (event : Event) (t : Router) : Type 0 where
  Says : ((level : Level) → (book_of t level).opened ≡ (book_of r level).opened) → Quiet r event t
  Says_nothing : ((level : Level) (place id : ℕ) → heard_in event level place id ≡ 0) → Quiet r event t

no-rank : (place p : ℕ) → ◌≡◌ {A = ℕ} (if p == place then 0 else 0) 0
no-rank place p = let zero_of : Bool → ℕ = λ t. if t then 0 else 0 in same-or (λ (t : Bool). zero_of t ≡ 0) p place (λ _. refl) (λ _. refl)

taken-quiet : (given : Given) (r : Router) (place : ℕ) (c : Circuit) (m : Message) → Quiet r (Take place m) (taken given r place c m).router
taken-quiet given r place c (Refused cause) = Says_nothing (λ level p id. no-rank p place)
taken-quiet given r place c (PointHelloHeard h) = Says_nothing (λ level p id. no-rank p place)
taken-quiet given r place c (LanHelloHeard l h) = Says_nothing (λ level p id. no-rank p place)
taken-quiet given r place c (LspHeard l snpa h) = Says (λ level. on-level-opened r l level _ (way-opened _ _ _ (take_lsp-way (hearing given r (Take place (LspHeard l snpa h)) l) (scene_of given r l) (issued given r _ r l refl) (level_of r l) place (whose_of r.config.system (level_of r l) h.id) h (lsp-heard place l snpa h) (lsp-named place l snpa h) (Taken place snpa h refl refl refl refl) (λ sane. sane.1) (λ own. answer-mine given r l h.id (issued-own r.config.system (level_of r l) h.id own)))))
taken-quiet given r place c (SnpHeard l snpa source range entries) = Says (λ level. on-level-opened r l level _ (way-opened _ _ _ (take_snp-way (hearing given r (Take place (SnpHeard l snpa source range entries)) l) (scene_of given r l) (issued given r _ r l refl) (level_of r l) r.config.system place range entries (entries-heard place l snpa source range entries) (entries-named place l snpa source range entries) (λ sane. sane.1) (λ id own. answer-mine given r l id own))))

take_or_drop-quiet : (given : Given) (r : Router) (place : ℕ) (c : Circuit) (m : Message) (drop : Option DropName) → Quiet r (Take place m) (take_or_drop given r place c m drop).router
take_or_drop-quiet given r place c m (Some cause) = Says (λ level. refl)
take_or_drop-quiet given r place c m None = again (taken-quiet given r place c m)
  where
    again : Quiet r (Take place m) (taken given r place c m).router → Quiet r (Take place m) (settled (taken given r place c m)).router
    again (Says f) = Says f
    again (Says_nothing f) = Says_nothing f

take-quiet : (given : Given) (r : Router) (place : ℕ) (m : Message) (c : Option Circuit) → Quiet r (Take place m) (take given r place m c).router
take-quiet given r place m None = Says (λ level. refl)
take-quiet given r place m (Some c) = take_or_drop-quiet given r place c m (drop_of r place c m)

step-quiet : (given : Given) (r : Router) (event : Event) → Quiet r event (step given r event).router
unfolding step
step-quiet given r Second = Says_nothing (λ level place id. refl)
step-quiet given r (Take place m) = take-quiet given r place m (nth r.circuits place)
step-quiet given r (Pull place) = Says_nothing (λ level place id. refl)
step-quiet given r (Metric place metric) = Says_nothing (λ level place id. refl)
step-quiet given r (Overload on) = Says_nothing (λ level place id. refl)
step-quiet given r (Prefix prefix metric) = Says_nothing (λ level place id. refl)

pub opening-is-flagged : (given : Given) (r : Router) (event : Event) → OpeningIsFlagged r (step given r event).router
opening-is-flagged given r event level place id before after held = by-quiet (step-quiet given r event)
  where
    t : Router
    t = (step given r event).router

    by-quiet : Quiet r event t → srm_at (book_of t level) id place ≡ true
    by-quiet (Says same) = absurd (let was : has (book_of r level).opened place ≡ true = subst (λ (n : ℕ). has n place ≡ true) (same level) after.0 in cc)
    by-quiet (Says_nothing zero) = decided _ _ _ (((step-keeps given r event).on level).floods.covers id place (λ o _. absurd (cc)) after.0 after.1) (rw (zero level place id) held)
