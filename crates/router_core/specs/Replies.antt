-- What a router answers, as octets (own).
use Rattle.std.specs.Prelude.{◌≡◌, ℕ, List, [], map, Option, Some, None, IfSome}
use Rattle.model_router.specs.Places.{nth}
use Rattle.model_router.specs.Routers.{Circuit, Router}
use Rattle.model_router.specs.Datagrams.{Sent}
use Rattle.model_router.specs.Events as model
use Rattle.model_router.specs.Events.{Message, Outcome}
use Rattle.model_router.specs.Receiving.{drop_of, take_or_drop}
use Rattle.model_datagram.specs.Datagrams.{datagram}
use Rattle.router_desk.specs.declared.cause.DropCause.{DropCause}
use Rattle.router_desk.specs.Causes.{name_of}
use Rattle.router_core.specs.Givens.{given}
use Rattle.router_core.specs.declared.reply.Reply.{Reply}
use Rattle.router_core.specs.declared.reply.Reply.TheVariants as reply

-- own
abbrev pub datagrams_on : Router → ℕ → Option Circuit → List Sent → List (List ℕ)
datagrams_on r place None out = []
datagrams_on r place (Some c) out = map (λ says. datagram r.config r.boot place c says) out

-- what a router sends on the circuit at a place, each as a datagram (ISO 10589 9)
abbrev pub datagrams_of : Router → ℕ → List Sent → List (List ℕ)
datagrams_of r place out = datagrams_on r place (nth r.circuits place) out

-- an answer is that of the model's router, after an event on the circuit at a place; a drop's cause
-- has its name (own)
abbrev pub Answers : Router → ℕ → model.Reply → Reply → Type 0
Answers r place model.Done answer = answer ≡ reply.Done
Answers r place (model.Dropped name) answer =
    (cause : DropCause) × (answer ≡ reply.Dropped cause) × (name_of cause ≡ name)
Answers r place (model.Send out) answer = answer ≡ reply.Send (datagrams_of r place out)

-- what the model's router becomes and answers where a message comes on a circuit (own)
abbrev pub outcome : Router → ℕ → Circuit → Message → Outcome
outcome r place c m = take_or_drop given r place c m (drop_of r place c m)

-- a router and an answer are those of the model after a message on the circuit at a place (own)
abbrev pub IsTaken : Router → ℕ → Message → Router → Reply → Type 0
IsTaken old place m new answer = IfSome (nth old.circuits place) (λ c.
    (new ≡ (outcome old place c m).router) × Answers new place (outcome old place c m).reply answer)
