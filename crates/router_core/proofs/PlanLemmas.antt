-- Plans that are the machine's step.
use Rattle.std.proofs.Common.{◌≡◌, ℕ, Bool, true, false, not, List, Option, Some, None, IfSome, ◌-◌, if◌then◌else◌, refl, sym, ap, subst, ◌∙◌, ◌⊎◌, inl, inr, arith}
use Rattle.std.specs.Prelude.{◌&&◌, is_none, is_some}
use Rattle.isis_base.specs.declared.identifiers.LspId.{LspId}
use Rattle.isis_base.specs.declared.level.Level.{Level}
use Rattle.std.specs.Option.{option_map}
use Rattle.model_router.specs.declared.drop_name.DropName.{DropName}
use Rattle.model_router.specs.declared.drop_name.DropName.TheVariants.{NoAdjacency, StoreFull}
use Rattle.model_router.specs.declared.lsp_case.LspCase.{LspCase}
use Rattle.model_router.specs.declared.lsp_case.LspCase.TheVariants as case
use Rattle.model_router.specs.AdjacencyLaws.{AreIdle, place_of}
use Rattle.model_router.specs.Cells.{Heard}
use Rattle.model_router.specs.Events as model
use Rattle.model_router.specs.Places.{nth}
use Rattle.model_router.specs.Receiving.{drop_of, lsp_drop, no_room, scene_of, sender_of, snp_drop}
use Rattle.model_router.specs.Routers.{Circuit, Router, level_of, book_of, with_level}
use Rattle.model_router.specs.Sets.{has}
use Rattle.model_router.specs.SnpTable.{SnpEntry}
use Rattle.model_router.specs.Steps.{step}
use Rattle.model_router.specs.Takes.{take_snp}
use Rattle.flag_sync.specs.declared.heard.LspAnswer.{LspAnswer}
use Rattle.flag_sync.specs.declared.heard.LspHeard.{LspHeard}
use Rattle.flag_sync.specs.Heard.{answer_of}
use Rattle.router_desk.specs.declared.cause.DropCause.{DropCause}
use Rattle.router_desk.specs.Causes.{name_of}
use Rattle.router_desk.specs.Heard as reading
use Rattle.router_levels.specs.Drafts as levels
use Rattle.router_routes.specs.Outlooks.{Outlook, outlook_of}
use Rattle.router_core.specs.declared.marks.Marks.{Marks}
use Rattle.router_core.specs.declared.plan.Plan.{Plan}
use Rattle.router_core.specs.declared.plan.Deed.TheVariants as deed
use Rattle.router_core.specs.declared.reply.Reply.{Reply}
use Rattle.router_core.specs.declared.reply.Reply.TheVariants as reply
use Rattle.router_core.specs.declared.told.Told.{Told}
use Rattle.router_core.specs.declared.told.Told.TheVariants as told
use Rattle.router_core.specs.Calm.{is_calm_answer}
use Rattle.router_core.specs.Events.{IsThere}
use Rattle.router_core.specs.Givens.{given}
use Rattle.router_core.specs.Plans.{AreInOrder, AreTold, committed, IsPlan, IsSound, is_moving}
use Rattle.router_core.specs.Reached.{IsReached}
use Rattle.router_core.specs.Replies.{Answers, outcome}
use Rattle.router_core.specs.Settled.{AreTrue}
use Rattle.router_core.proofs.IdleLemmas.{each-some, from-some}
use Rattle.router_core.proofs.OpenLemmas.{there}
use Rattle.router_core.proofs.SettledLemmas.{marks-keep}
use Rattle.router_core.proofs.StepLemmas.{counted, dropped-step, taken-step}
use Rattle.router_core.proofs.TakenLemmas.{level-taken, range-same}

-- the parts of a plan, by the outcome
record Parts (r : Router) (place : ℕ) (plan : Plan) (o : model.Outcome) : Type 0 where
  pub state : committed r plan.deed ≡ o.router
  pub reply : Answers o.router place o.reply plan.reply
  pub told : AreTold (outlook_of r) (outlook_of o.router) plan.told
  pub marks : AreTrue plan.marks o.router

outlook-stays : (r : Router) (cause : DropCause) → outlook_of (counted r cause) ≡ outlook_of r
unfolding outlook_of
outlook-stays r cause = refl

abbrev pub dropped : DropCause → Marks → Plan
dropped cause marks = record { deed = deed.Dropped cause; reply = reply.Dropped cause; told = told.Nothing; marks = marks }

pub drop-plan : (r : Router) (cause : DropCause) (marks : Marks) → AreTrue marks r → (asked : Bool) (circuit : ℕ) (m : model.Message) → IsThere r circuit → IfSome (nth r.circuits (circuit - 1)) (λ c. drop_of r (circuit - 1) c m ≡ Some (name_of cause)) → IsPlan asked r (model.Take (circuit - 1) m) (dropped cause marks)
drop-plan r cause marks true_of asked circuit m here why = record { ready = tt; state = parts.state; reply = parts.reply; told = λ _. parts.told; marks = parts.marks }
  where
    is : (x : Circuit) × (nth r.circuits (circuit - 1) ≡ Some x)
    is = there r.circuits (circuit - 1) (omega (arith, here))

    parts : Parts r (circuit - 1) (dropped cause marks) (step given r (model.Take (circuit - 1) m))
    parts = subst (Parts r (circuit - 1) (dropped cause marks)) (sym (dropped-step r cause (circuit - 1) is.0 m is.1 (from-some (λ c. drop_of r (circuit - 1) c m ≡ Some (name_of cause)) (nth r.circuits (circuit - 1)) is.0 is.1 why))) (record {
      state = refl;
      reply = (cause, refl, refl);
      told = outlook-stays r cause;
      marks = marks-keep marks r (counted r cause) (record { config = refl; circuits = refl; one = refl; two = refl }) (outlook-stays r cause) true_of;
    })

-- a cause that was found
pub caused : (o : Option Circuit) (f : Circuit → Option DropName) (found : Option DropCause) (cause : DropCause) → found ≡ Some cause → IfSome o (λ c. option_map name_of found ≡ f c) → IfSome o (λ c. f c ≡ Some (name_of cause))
caused None f found cause is h = h
caused (Some c) f found cause is h = sym h ∙ ap (option_map name_of) is

-- ---- an LSP

no-room : (a b : Bool) → None ≡ (if not a then Some NoAdjacency else (if b then Some StoreFull else None)) → b ≡ false
no-room true true e = absurd (cc)
no-room true false e = refl
no-room false b e = absurd (cc)

pub kept-room : (r : Router) (circuit : ℕ) (l : Level) (from : model.Envelope) (h : Heard) → IsThere r circuit → IfSome (nth r.circuits (circuit - 1)) (λ c. None ≡ lsp_drop r (circuit - 1) c l from h) → no_room (level_of r l) r.config.system h ≡ false
kept-room r circuit l from h here kept =
    let low = here.0 in
    let high = here.1 in
    let is = there r.circuits (circuit - 1) (omega (arith, low, high)) in
    no-room (has (book_of r l).opened (circuit - 1) && is_some (sender_of is.0 l from)) (no_room (level_of r l) r.config.system h)
    (from-some (λ c. None ≡ lsp_drop r (circuit - 1) c l from h) (nth r.circuits (circuit - 1)) is.0 is.1 kept)

no : false ≡ true → ⊥
no e = cc

-- of the rows by which no own LSP is outbid, those by which a key changes
pub moving-of : (row : LspAnswer) → (is_calm_answer row ≡ true) ⊎ (is_moving row ≡ true) → is_calm_answer row ≡ false → is_moving row ≡ true
moving-of row (inl calm) not-calm = absurd (no (sym not-calm ∙ calm))
moving-of row (inr moving) not-calm = moving

-- what is planned outbids nothing
pub no-bid : (row : LspAnswer) (met : LspCase) (lsp : LspHeard) → row ≡ answer_of met lsp → (is_calm_answer row ≡ true) ⊎ (is_moving row ≡ true) → met ≡ case.Outbid → ⊥
no-bid row met lsp is (inl calm) e = no (sym (ap is_calm_answer (is ∙ ap (λ (m : LspCase). answer_of m lsp) e)) ∙ calm)
no-bid row met lsp is (inr moving) e = no (sym (ap is_moving (is ∙ ap (λ (m : LspCase). answer_of m lsp) e)) ∙ moving)

-- ---- a sequence number PDU

module _ (r : Router) (circuit : ℕ) (l : Level) (from : model.Envelope) (source : ℕ) (range : Option (LspId × LspId)) (entries : List SnpEntry) (here : IsThere r circuit) (idle : AreIdle r) where
  abbrev pub snp-event : model.Message
  snp-event = model.SnpHeard l from source (reading.range_of range) entries

  abbrev pub snp-done : Router
  snp-done = with_level r l (take_snp (scene_of given r l) (level_of r l) r.config.system (circuit - 1) (levels.range_of range) entries)

  pub snp-planned : IfSome (nth r.circuits (circuit - 1)) (λ x. None ≡ snp_drop r (circuit - 1) x l from source (is_none (reading.range_of range)))
      → (snp-done ≡ (step given r (model.Take (circuit - 1) snp-event)).router) × Answers snp-done (circuit - 1) (step given r (model.Take (circuit - 1) snp-event)).reply reply.Done
  snp-planned kept =
      let place = circuit - 1 in
      let low = here.0 in
      let high = here.1 in
      let heard = λ (range : Option (ℕ × ℕ)). take_snp (scene_of given r l) (level_of r l) r.config.system place range entries in
      taken-step r snp-done place snp-event reply.Done (omega (arith, low, high))
      (each-some (nth r.circuits place) (λ x. (snp-done ≡ (outcome r place x snp-event).router) × Answers snp-done place (outcome r place x snp-event).reply reply.Done)
      (λ x e. level-taken r snp-done place x snp-event l (heard (reading.range_of range)) model.Done reply.Done idle
      (sym (from-some (λ y. None ≡ snp_drop r place y l from source (is_none (reading.range_of range))) (nth r.circuits place) x e kept)) refl
      (ap (λ (range : Option (ℕ × ℕ)). with_level r l (heard range)) (range-same range)) refl))

-- ---- the plan of an event is sound, and what comes of it is the event's

pub told-ordered : (old new : Outlook) (t : Told) → AreTold old new t → AreInOrder t
told-ordered old new told.Nothing is = tt
told-ordered old new (told.Entry m) is = tt
told-ordered old new (told.Levels one two) is = (is.rise_one, is.rise_two)
told-ordered old new (told.Prefixes own) is = tt
told-ordered old new told.Unasked is = tt

pub sound-of : (asked : Bool) (r : Router) (event : model.Event) (plan : Plan) → IsPlan asked r event plan → IsReached (step given r event).router → IsSound asked r plan
sound-of asked r event plan is reached =
    let same = sym is.state in
    record {
      ready = is.ready;
      told = λ a. subst (λ (q : Router). AreTold (outlook_of r) (outlook_of q) plan.told) same (is.told a);
      marks = subst (AreTrue plan.marks) same is.marks;
      reached = subst IsReached same reached;
    }

pub planned-reply : (asked : Bool) (r t : Router) (event : model.Event) (plan : Plan) (a : Reply) → IsPlan asked r event plan → t ≡ committed r plan.deed → a ≡ plan.reply → Answers t (place_of event) (step given r event).reply a
planned-reply asked r t event plan a is state same =
    subst (λ (q : Router). Answers q (place_of event) (step given r event).reply a) (sym (state ∙ is.state))
    (subst (λ (x : Reply). Answers (step given r event).router (place_of event) (step given r event).reply x) (sym same) is.reply)
