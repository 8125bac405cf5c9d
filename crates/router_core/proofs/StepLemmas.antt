-- An event is the model's step.
use Rattle.std.proofs.Common.{◌≡◌, ℕ, ◌<◌, List, Option, Some, None, length, refl, sym, ap, ◌∙◌, subst}
use Rattle.model_router.specs.Events as model
use Rattle.model_router.specs.Places.{nth}
use Rattle.model_router.specs.Pulls as pulls
use Rattle.model_router.specs.Routers.{Circuit, Router}
use Rattle.model_router.specs.Receiving.{drop_of, take, take_or_drop, taken}
use Rattle.model_router.specs.Drops.{count_drop}
use Rattle.model_router.specs.declared.drop_name.DropName.{DropName}
use Rattle.model_router.specs.Steps.{step}
use Rattle.model_router.specs.Seconds.{second}
use Rattle.model_router.specs.AdjacencyLaws.{place_of}
use Rattle.router_desk.specs.declared.cause.DropCause.{DropCause}
use Rattle.router_desk.specs.Causes.{name_of}
use Rattle.router_desk.specs.declared.config.Change.{Change}
use Rattle.router_desk.specs.declared.config.Change.TheVariants as change
use Rattle.router_core.specs.declared.reply.Reply.{Reply}
use Rattle.router_core.specs.declared.reply.Reply.TheVariants as reply
use Rattle.router_core.specs.Events.{change_of}
use Rattle.router_core.specs.Givens.{given}
use Rattle.router_core.specs.Replies.{Answers, IsTaken, datagrams_of, outcome}
use Rattle.router_core.proofs.IdleLemmas.{from-some}
use Rattle.router_core.proofs.OpenLemmas.{there}

pub taken-step : (r t : Router) (place : ℕ) (m : model.Message) (a : Reply) → place < length r.circuits → IsTaken r place m t a → (t ≡ (step given r (model.Take place m)).router) × Answers t place (step given r (model.Take place m)).reply a
unfolding step
taken-step r t place m a h k = subst (λ (o : model.Outcome). (t ≡ o.router) × Answers t place o.reply a) (sym whole) (from-some (λ x. (t ≡ (outcome r place x m).router) × Answers t place (outcome r place x m).reply a) (nth r.circuits place) is.0 is.1 k)
  where
    is : (x : Circuit) × (nth r.circuits place ≡ Some x)
    is = there r.circuits place h

    whole : step given r (model.Take place m) ≡ outcome r place is.0 m
    whole = ap (λ (o : Option Circuit). take given r place m o) is.1

-- a pull and a second, which settle
pub second-done : (r t : Router) → Answers t (place_of model.Second) (step given r model.Second).reply reply.Done
unfolding step
second-done r t = refl

pub second-step : (r t : Router) → t ≡ (model.settled (record { router = second given r; reply = model.Done })).router → t ≡ (step given r model.Second).router
unfolding step
second-step r t e = e

pub pull-reply : (r t : Router) (place : ℕ) (out : List (List ℕ)) → out ≡ datagrams_of t place (pulls.pull r place).out → Answers t place (step given r (model.Pull place)).reply (reply.Send out)
unfolding step
pull-reply r t place out e = ap reply.Send e

pub change-reply : (r t : Router) (place : ℕ) (c : Change) → Answers t place (step given r (change_of c)).reply reply.Done
unfolding step
change-reply r t place (change.Metric circuit metric) = refl
change-reply r t place (change.Prefix prefix metric) = refl
change-reply r t place (change.Overload on) = refl

-- a datagram that is dropped is counted
abbrev pub counted : Router → DropCause → Router
counted r cause = record r { drops = count_drop r.drops (name_of cause) }

pub dropped-step : (r : Router) (cause : DropCause) (place : ℕ) (c : Circuit) (m : model.Message) → nth r.circuits place ≡ Some c → drop_of r place c m ≡ Some (name_of cause) → step given r (model.Take place m) ≡ record { router = counted r cause; reply = model.Dropped (name_of cause) }
unfolding step
dropped-step r cause place c m is why = ap (λ (o : Option Circuit). take given r place m o) is ∙ ap (λ (d : Option DropName). take_or_drop given r place c m d) why

-- one that passes the tests is taken
pub passed-step : (r : Router) (place : ℕ) (c : Circuit) (m : model.Message) → nth r.circuits place ≡ Some c → drop_of r place c m ≡ None → step given r (model.Take place m) ≡ model.settled (taken given r place c m)
unfolding step
passed-step r place c m is passes = ap (λ (o : Option Circuit). take given r place m o) is ∙ ap (λ (d : Option DropName). take_or_drop given r place c m d) passes
