-- Hellos that pass their tests, and their plans.
use Rattle.std.proofs.Common.{◌≡◌, ℕ, ◌-◌, Option, Some, None, IfSome, Result, Ok, Err, OnOk, refl, sym, ap, subst, ◌∙◌, arith}
use Rattle.adjacency.specs.declared.hello.HelloDrop.{HelloDrop}
use Rattle.adjacency.specs.Changes.{IsTested, drop_name}
use Rattle.model_router.specs.declared.drop_name.DropName.{DropName}
use Rattle.model_router.specs.Adjacencies.{Handshake, Hello, PointAdj}
use Rattle.model_router.specs.Events as model
use Rattle.model_router.specs.Places.{nth}
use Rattle.model_router.specs.Receiving.{drop_of, taken}
use Rattle.model_router.specs.Routers.{Circuit, Router}
use Rattle.model_router.specs.Steps.{step}
use Rattle.router_routes.specs.Outlooks.{outlook_of}
use Rattle.router_core.specs.declared.marks.Marks.{Marks}
use Rattle.router_core.specs.declared.reply.Reply.TheVariants as reply
use Rattle.router_core.specs.Events.{IsThere}
use Rattle.router_core.specs.Givens.{given}
use Rattle.router_core.specs.Plans.{IsHelloReady}
use Rattle.router_core.specs.Replies.{Answers}
use Rattle.router_core.specs.Settled.{AreTrue, LeavesFace, point_face}
use Rattle.router_core.proofs.IdleLemmas.{each-some, from-some}
use Rattle.router_core.proofs.KeepLemmas.{greeting-keeps}
use Rattle.router_core.proofs.OpenLemmas.{there}
use Rattle.router_core.proofs.SettledLemmas.{marks-keep}
use Rattle.router_core.proofs.StepLemmas.{passed-step}

-- what holds of a circuit that is there, of another fact of it
pub some-of : {A : Type 0} (o : Option A) (P Q : A → Type 0) → ((x : A) → P x → Q x) → IfSome o P → IfSome o Q
some-of o P Q f h = each-some o Q (λ x e. f x (from-some P o x e h))

none-some : {A : Type 0} (x : A) → ◌≡◌ {A = Option A} None (Some x) → ⊥
none-some x e = cc

-- none is refused that passes
pub none-refused : {A : Type 0} (r : Router) (circuit : ℕ) (f : Circuit → Option DropName) (q : Result A HelloDrop) (refused : HelloDrop) → q ≡ Err refused → IsThere r circuit
    → IfSome (nth r.circuits (circuit - 1)) (λ x. IsTested q (f x)) → IfSome (nth r.circuits (circuit - 1)) (λ x. f x ≡ None) → ⊥
none-refused r circuit f q refused e here tested passes =
    let low = here.0 in
    let high = here.1 in
    let is = there r.circuits (circuit - 1) (omega (arith, low, high)) in
    let why : f is.0 ≡ Some (drop_name refused) = subst (λ (z : Result _ HelloDrop). IsTested z (f is.0)) e (from-some (λ x. IsTested q (f x)) (nth r.circuits (circuit - 1)) is.0 is.1 tested) in
    none-some (drop_name refused) (sym (from-some (λ x. f x ≡ None) (nth r.circuits (circuit - 1)) is.0 is.1 passes) ∙ why)

-- what holds where it went well
pub on-ok : {A E : Type 0} (q : Result A E) (P Q : Type 0) → (P → Q) → OnOk q P → OnOk q Q
on-ok (Ok x) P Q f h = f h
on-ok (Err x) P Q f h = tt

-- an adjacency that will say the same
pub face-of : (o : Option Handshake) (old after : PointAdj) (f : Handshake → PointAdj) → IfSome o (λ s. after ≡ f s) → point_face after ≡ point_face old → IfSome o (λ s. point_face (f s) ≡ point_face old)
face-of None old after f e g = tt
face-of (Some s) old after f e g = ap point_face (sym e) ∙ g

module _ (r : Router) (circuit : ℕ) (m : model.Message) (ready : IsHelloReady r circuit m) where
  here : (x : Circuit) × (nth r.circuits (circuit - 1) ≡ Some x)
  here =
      let low = ready.there.0 in
      let high = ready.there.1 in
      there r.circuits (circuit - 1) (omega (arith, low, high))

  passes : drop_of r (circuit - 1) here.0 m ≡ None
  passes = from-some (λ x. drop_of r (circuit - 1) x m ≡ None) (nth r.circuits (circuit - 1)) here.0 here.1 ready.passes

  passed : step given r (model.Take (circuit - 1) m) ≡ model.settled (taken given r (circuit - 1) here.0 m)
  passed = passed-step r (circuit - 1) here.0 m here.1 passes

  -- it is answered that it is done
  pub hello-reply : (t : Router) → ((x : Circuit) → (taken given r (circuit - 1) x m).reply ≡ model.Done) → Answers t (circuit - 1) (step given r (model.Take (circuit - 1) m)).reply reply.Done
  hello-reply t done = subst (λ (a : model.Reply). Answers t (circuit - 1) a reply.Done) (sym (ap (λ (o : model.Outcome). o.reply) passed ∙ done here.0)) refl

  -- what was taken is the step
  pub hello-state : (t : Router) → IfSome (nth r.circuits (circuit - 1)) (λ x. t ≡ (model.settled (taken given r (circuit - 1) x m)).router) → t ≡ (step given r (model.Take (circuit - 1) m)).router
  hello-state t f =
      from-some (λ x. t ≡ (model.settled (taken given r (circuit - 1) x m)).router) (nth r.circuits (circuit - 1)) here.0 here.1 f
      ∙ ap (λ (o : model.Outcome). o.router) (sym passed)

-- marks stay true after a point-to-point hello that leaves what own LSPs look at
pub hello-marks : (r : Router) (circuit : ℕ) (h : Hello) (marks : Marks) → IsHelloReady r circuit (model.PointHelloHeard h)
    → IfSome (nth r.circuits (circuit - 1)) (λ x. LeavesFace x r.config h)
    → outlook_of (step given r (model.Take (circuit - 1) (model.PointHelloHeard h))).router ≡ outlook_of r → AreTrue marks r
    → AreTrue marks (step given r (model.Take (circuit - 1) (model.PointHelloHeard h))).router
hello-marks r circuit h marks ready leaves stays marked =
    let m = model.PointHelloHeard h in
    let is = here r circuit m ready in
    marks-keep marks r _ (greeting-keeps given r (circuit - 1) is.0 h is.1 (passes r circuit m ready)
    (from-some (λ x. LeavesFace x r.config h) (nth r.circuits (circuit - 1)) is.0 is.1 leaves)) stays marked
