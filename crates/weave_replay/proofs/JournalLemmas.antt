-- One journal more: of whom it is, and where its router opens then.
use Rattle.std.proofs.Common.{◌≡◌, ◌≢◌, ℕ, suc, ◌+◌, ◌==◌, ◌≤◌, ◌⊎◌, inl, inr, Bool, true, false, List, [], ◌∷◌, ◌++◌, length, if◌then◌else◌, refl, ap, ◌∙◌, arith}
use Rattle.std.proofs.lemmas.Bool.{eq-eqb}
use Rattle.std.proofs.lemmas.Bool.Decides.{eqb_tells}
use Rattle.std.proofs.lemmas.List.{length-append, append-nil}
use Rattle.model_router.specs.Givens.{Given}
use Rattle.model_router.specs.Routers.{Router}
use Rattle.model_router.specs.Events.{Event}
use Rattle.model_router.specs.Steps.{step}
use Rattle.model_router.specs.AdjacencyLaws.{Stays}
use Rattle.model_network.specs.Networks.{restarted}
use Rattle.router_core.specs.Givens.{given}
use Rattle.weave_model.specs.Entries.{Entry, event_of, next, replay}
use Rattle.weave_model.specs.Faults.{opening}
use Rattle.weave_replay.specs.declared.journal.WovenJournal.{WovenJournal}
use Rattle.weave_replay.specs.Entries.{entries_of}
use Rattle.weave_replay.specs.Replays.{journals_of, in_first_boot}

-- ---- whose journals

pub journals-append : (router : ℕ) (xs ys : List WovenJournal) → journals_of router (xs ++ ys) ≡ journals_of router xs ++ journals_of router ys
journals-append router [] ys = refl
journals-append router (x ∷ xs) ys = by (x.router == router) (journals-append router xs ys)
  where
    by : (b : Bool) → journals_of router (xs ++ ys) ≡ journals_of router xs ++ journals_of router ys → (if b then entries_of x ∷ journals_of router (xs ++ ys) else journals_of router (xs ++ ys)) ≡ (if b then entries_of x ∷ journals_of router xs else journals_of router xs) ++ journals_of router ys
    by true e = ap (λ (js : List (List Entry)). entries_of x ∷ js) e
    by false e = e

pub own-first : (j : WovenJournal) (js : List WovenJournal) → journals_of j.router (j ∷ js) ≡ entries_of j ∷ journals_of j.router js
own-first j js = ap (λ (b : Bool). if b then entries_of j ∷ journals_of j.router js else journals_of j.router js) (eq-eqb j.router j.router refl)

pub other-first : (router : ℕ) (j : WovenJournal) (js : List WovenJournal) → j.router ≢ router → journals_of router (j ∷ js) ≡ journals_of router js
other-first router j js h = by (eqb_tells j.router router)
  where
    by : (((j.router == router) ≡ true) × (j.router ≡ router)) ⊎ (((j.router == router) ≡ false) × (j.router ≢ router)) → journals_of router (j ∷ js) ≡ journals_of router js
    by (inl same) = absurd (h same.1)
    by (inr other) = ap (λ (b : Bool). if b then entries_of j ∷ journals_of router js else journals_of router js) other.0

pub own-more : (js : List WovenJournal) (j : WovenJournal) → journals_of j.router (js ++ j ∷ []) ≡ journals_of j.router js ++ entries_of j ∷ []
own-more js j = journals-append j.router js (j ∷ []) ∙ ap (λ (x : List (List Entry)). journals_of j.router js ++ x) (own-first j [])

pub other-more : (router : ℕ) (js : List WovenJournal) (j : WovenJournal) → j.router ≢ router → journals_of router (js ++ j ∷ []) ≡ journals_of router js
other-more router js j h = journals-append router js (j ∷ []) ∙ ap (λ (x : List (List Entry)). journals_of router js ++ x) (other-first router j [] h) ∙ append-nil (journals_of router js)

pub own-length : (js : List WovenJournal) (j : WovenJournal) → length (journals_of j.router (js ++ j ∷ [])) ≡ length (journals_of j.router js) + 1
own-length js j = ap length (own-more js j) ∙ length-append (journals_of j.router js) (entries_of j ∷ [])

-- a router has no more journals than there are
pub few-journals : (router : ℕ) (js : List WovenJournal) → length (journals_of router js) ≤ length js
few-journals router [] = omega arith
few-journals router (j ∷ js) = by (j.router == router) (few-journals router js)
  where
    by : (b : Bool) → length (journals_of router js) ≤ length js → length (if b then entries_of j ∷ journals_of router js else journals_of router js) ≤ suc (length js)
    by true h = omega (arith, h)
    by false h = omega (arith, h)

-- ---- openings

pub opening-more : (r : Router) (js : List (List Entry)) (es : List Entry) → opening given r (js ++ es ∷ []) ≡ restarted (replay given (opening given r js) es)
opening-more r [] es = refl
opening-more r (j ∷ js) es = opening-more (restarted (replay given r j)) js es

-- ---- boots

-- a step keeps the boot
abbrev pub StepsStay : Type 0
StepsStay = (g : Given) (r : Router) (event : Event) → Stays r (step g r event).router

pub replay-boot : StepsStay → (r : Router) (es : List Entry) → (replay given r es).boot ≡ r.boot
replay-boot stays r [] = refl
replay-boot stays r (e ∷ es) = replay-boot stays (next given r e.deed) es ∙ (stays given r (event_of r e.deed)).boot

pub opening-boot : StepsStay → (r : Router) (js : List (List Entry)) → (opening given r js).boot ≡ r.boot + length js
opening-boot stays r [] = omega arith
opening-boot stays r (j ∷ js) =
    let more = opening-boot stays (restarted (replay given r j)) js in
    let kept = replay-boot stays r j in
    omega (arith, more, kept)

pub first-boot : StepsStay → (first : Router) (js : List (List Entry)) → (opening given (in_first_boot first) js).boot ≡ length js + 1
first-boot stays first js = let e = opening-boot stays (in_first_boot first) js in omega (arith, e)
