-- Drops: a datagram that is dropped changes its cause's counter alone, and each cause has a counter of its own.
use Rattle.std.proofs.Common.{◌≡◌, ◌≢◌, ℕ, zero, suc, ◌<◌, Bool, true, false, List, [], ◌∷◌, length, Option, Some, None, if◌then◌else◌, refl, sym, ap, ◌∙◌, arith}
use Rattle.isis_base.specs.declared.level.Level.{Level}
use Rattle.model_router.specs.declared.drop_name.DropName.{DropName}
use Rattle.model_router.specs.declared.drop_name.DropName.TheVariants.{Frame, Version, Pdu, TooLong, WrongKind, WrongLevel, Auth, Value, ZeroNumber, BadChecksum, OwnId, OtherSnpa, OldBoot, NoLevel, NoArea, NoThreeWay, OtherNeighbour, TooMany, NoAdjacency, NotDesignated, StoreFull}
use Rattle.model_router.specs.declared.lsp_case.LspCase.{LspCase}
use Rattle.model_router.specs.declared.lsp_case.LspCase.TheVariants as lsp
use Rattle.model_router.specs.Places.{nth, with_nth}
use Rattle.model_router.specs.Cells.{Heard}
use Rattle.model_router.specs.Books.{risen}
use Rattle.model_router.specs.LspTable.{met}
use Rattle.model_router.specs.Drops.{drop_place, count_or, drops_of, count_drop}
use Rattle.model_router.specs.Routers.{Circuit, Router, level_of}
use Rattle.model_router.specs.Givens.{Given}
use Rattle.model_router.specs.Takes.{whose_of}
use Rattle.model_router.specs.Datagrams.{Sent}
use Rattle.model_router.specs.Events.{Message, Refused, PointHelloHeard, LanHelloHeard, LspHeard, SnpHeard, Event, Second, Take, Pull, Metric, Overload, Prefix, Reply, Done, Dropped, Send}
use Rattle.model_router.specs.Receiving as receiving
use Rattle.model_router.specs.Receiving.{drop_of, acks, taken, take_or_drop}
use Rattle.model_router.specs.Steps.{step}

-- ---- counters

nth-set : (xs : List ℕ) (place y : ℕ) → place < length xs → nth (with_nth xs place y) place ≡ Some y
nth-set [] place y h = absurd (omega (arith, h))
nth-set (x ∷ xs) zero y h = refl
nth-set (x ∷ xs) (suc place) y h = nth-set xs place y (omega (arith, h))

nth-others : (xs : List ℕ) (place y q : ℕ) → q ≢ place → nth (with_nth xs place y) q ≡ nth xs q
nth-others [] place y q h = refl
nth-others (x ∷ xs) zero y zero h = absurd (h refl)
nth-others (x ∷ xs) zero y (suc q) h = refl
nth-others (x ∷ xs) (suc place) y zero h = refl
nth-others (x ∷ xs) (suc place) y (suc q) h = nth-others xs place y q (λ e. h (ap suc e))

pub place-below : (cause : DropName) → drop_place cause < 21
place-below Frame = omega arith
place-below Version = omega arith
place-below Pdu = omega arith
place-below TooLong = omega arith
place-below WrongKind = omega arith
place-below WrongLevel = omega arith
place-below Auth = omega arith
place-below Value = omega arith
place-below ZeroNumber = omega arith
place-below BadChecksum = omega arith
place-below OwnId = omega arith
place-below OtherSnpa = omega arith
place-below OldBoot = omega arith
place-below NoLevel = omega arith
place-below NoArea = omega arith
place-below NoThreeWay = omega arith
place-below OtherNeighbour = omega arith
place-below TooMany = omega arith
place-below NoAdjacency = omega arith
place-below NotDesignated = omega arith
place-below StoreFull = omega arith

all-causes : List DropName
all-causes = Frame ∷ Version ∷ Pdu ∷ TooLong ∷ WrongKind ∷ WrongLevel ∷ Auth ∷ Value ∷ ZeroNumber ∷ BadChecksum ∷ OwnId ∷ OtherSnpa ∷ OldBoot ∷ NoLevel ∷ NoArea ∷ NoThreeWay ∷ OtherNeighbour ∷ TooMany ∷ NoAdjacency ∷ NotDesignated ∷ StoreFull ∷ []

named : (cause : DropName) → nth all-causes (drop_place cause) ≡ Some cause
unfolding all-causes
named Frame = refl
named Version = refl
named Pdu = refl
named TooLong = refl
named WrongKind = refl
named WrongLevel = refl
named Auth = refl
named Value = refl
named ZeroNumber = refl
named BadChecksum = refl
named OwnId = refl
named OtherSnpa = refl
named OldBoot = refl
named NoLevel = refl
named NoArea = refl
named NoThreeWay = refl
named OtherNeighbour = refl
named TooMany = refl
named NoAdjacency = refl
named NotDesignated = refl
named StoreFull = refl

apart : (a b : DropName) → a ≢ b → drop_place a ≢ drop_place b
apart a b h e = h (same a b (sym (named a) ∙ ap (nth all-causes) e ∙ named b))
  where
    same : (a b : DropName) → ◌≡◌ {A = Option DropName} (Some a) (Some b) → a ≡ b
    same a b e = cc

pub counted-cause : (drops : List ℕ) (cause : DropName) → length drops ≡ 21 → drops_of (count_drop drops cause) cause ≡ risen (drops_of drops cause)
counted-cause drops cause h = ap count_or (nth-set drops (drop_place cause) (risen (drops_of drops cause)) (let b = place-below cause in omega (arith, h, b)))

pub counted-others : (drops : List ℕ) (cause other : DropName) → other ≢ cause → drops_of (count_drop drops cause) other ≡ drops_of drops other
counted-others drops cause other h = ap count_or (nth-others drops (drop_place cause) _ (drop_place other) (apart other cause h))

-- ---- a step

acks-undropped : (c : Circuit) (l : Level) (h : Heard) (row : LspCase) (cause : DropName) → acks c l h row ≡ Dropped cause → ⊥
acks-undropped c l h lsp.AckPurge cause e = by-kind c.lan _ e
  where
    by-kind : (t : Bool) (out : List Sent) → (if t then Done else Send out) ≡ Dropped cause → ⊥
    by-kind true out e = absurd (cc)
    by-kind false out e = absurd (cc)
acks-undropped c l h lsp.Outbid cause e = absurd (cc)
acks-undropped c l h lsp.PurgedOwn cause e = absurd (cc)
acks-undropped c l h lsp.Confused cause e = absurd (cc)
acks-undropped c l h lsp.Stored cause e = absurd (cc)
acks-undropped c l h lsp.Same cause e = absurd (cc)
acks-undropped c l h lsp.Older cause e = absurd (cc)

taken-undropped : (given : Given) (r : Router) (place : ℕ) (c : Circuit) (m : Message) (cause : DropName) → (taken given r place c m).reply ≡ Dropped cause → ⊥
taken-undropped given r place c (Refused x) cause e = absurd (cc)
taken-undropped given r place c (PointHelloHeard h) cause e = absurd (cc)
taken-undropped given r place c (LanHelloHeard l h) cause e = absurd (cc)
taken-undropped given r place c (LspHeard l snpa h) cause e = acks-undropped c l h (met (level_of r l).book (whose_of r.config.system (level_of r l) h.id) h) cause e
taken-undropped given r place c (SnpHeard l snpa source range entries) cause e = absurd (cc)

take_or_drop-unchanged : (given : Given) (r : Router) (place : ℕ) (c : Circuit) (m : Message) (drop : Option DropName) (cause : DropName) → (take_or_drop given r place c m drop).reply ≡ Dropped cause
    → (take_or_drop given r place c m drop).router ≡ record r { drops = count_drop r.drops cause }
take_or_drop-unchanged given r place c m (Some x) cause e = ap (λ (y : DropName). record r { drops = count_drop r.drops y }) (same x cause e)
  where
    same : (a b : DropName) → ◌≡◌ {A = Reply} (Dropped a) (Dropped b) → a ≡ b
    same a b e = cc
take_or_drop-unchanged given r place c m None cause e = absurd (taken-undropped given r place c m cause e)

take-unchanged : (given : Given) (r : Router) (place : ℕ) (m : Message) (c : Option Circuit) (cause : DropName) → (receiving.take given r place m c).reply ≡ Dropped cause
    → (receiving.take given r place m c).router ≡ record r { drops = count_drop r.drops cause }
take-unchanged given r place m None cause e = absurd (cc)
take-unchanged given r place m (Some c) cause e = take_or_drop-unchanged given r place c m (drop_of r place c m) cause e

pub step-unchanged : (given : Given) (r : Router) (event : Event) (cause : DropName) → (step given r event).reply ≡ Dropped cause
    → (step given r event).router ≡ record r { drops = count_drop r.drops cause }
unfolding step
step-unchanged given r Second cause e = absurd (cc)
step-unchanged given r (Take place m) cause e = take-unchanged given r place m (nth r.circuits place) cause e
step-unchanged given r (Pull place) cause e = absurd (cc)
step-unchanged given r (Metric place metric) cause e = absurd (cc)
step-unchanged given r (Overload on) cause e = absurd (cc)
step-unchanged given r (Prefix prefix metric) cause e = absurd (cc)

pub step-refused : (given : Given) (r : Router) (place : ℕ) (c : Circuit) (m : Message) (cause : DropName) → nth r.circuits place ≡ Some c → drop_of r place c m ≡ Some cause → (step given r (Take place m)).reply ≡ Dropped cause
unfolding step
step-refused given r place c m cause e d = ap (λ (o : Option Circuit). (receiving.take given r place m o).reply) e ∙ ap (λ (o : Option DropName). (take_or_drop given r place c m o).reply) d
