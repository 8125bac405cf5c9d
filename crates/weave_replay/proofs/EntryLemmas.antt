-- What a router answers to an entry is what the machine answers, and one entry more.
use Rattle.std.proofs.Common.{◌≡◌, ℕ, List, [], ◌∷◌, ◌++◌, refl, sym, ap, ◌∙◌, subst}
use Rattle.model_router.specs.Routers.{Router}
use Rattle.model_router.specs.Events as model
use Rattle.model_router.specs.Events.{Event}
use Rattle.model_router.specs.Steps.{step}
use Rattle.model_router.specs.AdjacencyLaws.{place_of}
use Rattle.router_core.specs.declared.reply.Reply.{Reply}
use Rattle.router_core.specs.Givens.{given}
use Rattle.router_core.specs.Replies.{Answers}
use Rattle.weave_model.specs.Entries.{Deed, Dropped, Sends, Entry, event_of, answer_by, answer_to, next, replay}
use Rattle.weave_model.specs.Faults.{IsGood, AreGood}
use Rattle.weave_replay.specs.Outcomes.{answer_in}
use Rattle.model_router.specs.Datagrams.{Sent}
use Rattle.model_router.specs.Routers.{Circuit}
use Rattle.model_router.specs.Places.{nth}
use Rattle.std.proofs.Common.{Option, Some, None}
use Rattle.weave_model.specs.Entries.{octets_on}
use Rattle.router_core.specs.Replies.{datagrams_on}

pub same-datagrams : (r : Router) (place : ℕ) (c : Option Circuit) (out : List Sent) → octets_on r place c out ≡ datagrams_on r place c out
same-datagrams r place None out = refl
same-datagrams r place (Some c) out = refl

answers-by : (r : Router) (place : ℕ) (m : model.Reply) (reply : Reply) → Answers r place m reply → answer_by r place m ≡ answer_in reply
answers-by r place model.Done reply a = ap answer_in (sym a)
answers-by r place (model.Dropped name) reply a = ap Dropped (sym a.2) ∙ ap answer_in (sym a.1)
answers-by r place (model.Send out) reply a = ap Sends (same-datagrams r place (nth r.circuits place) out) ∙ ap answer_in (sym a)

pub replay-answers : (r new : Router) (event : Event) (deed : Deed) (reply : Reply) → event ≡ event_of r deed → new ≡ (step given r event).router → Answers new (place_of event) (step given r event).reply reply → answer_to given r deed ≡ answer_in reply
replay-answers r new event deed reply e state a =
    answers-by (step given r (event_of r deed)).router (place_of (event_of r deed)) (step given r (event_of r deed)).reply reply
    (subst (λ (x : Event). Answers (step given r x).router (place_of x) (step given r x).reply reply) e
    (subst (λ (x : Router). Answers x (place_of event) (step given r event).reply reply) state a))

pub replay-next : (r new : Router) (event : Event) (deed : Deed) → event ≡ event_of r deed → new ≡ (step given r event).router → new ≡ next given r deed
replay-next r new event deed e state = state ∙ ap (λ (x : Event). (step given r x).router) e

-- ---- one entry more

pub replay-more : (r : Router) (es : List Entry) (e : Entry) → replay given r (es ++ e ∷ []) ≡ next given (replay given r es) e.deed
replay-more r [] e = refl
replay-more r (x ∷ es) e = replay-more (next given r x.deed) es e

pub good-more : (r : Router) (es : List Entry) (e : Entry) → AreGood given r es → IsGood given (replay given r es) e → AreGood given r (es ++ e ∷ [])
good-more r [] e g h = (h, tt)
good-more r (x ∷ es) e g h = (g.0, good-more (next given r x.deed) es e g.1 h)
