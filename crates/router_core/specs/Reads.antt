-- What an event that was read is to the model's router (own).
use Rattle.std.specs.Prelude.{ℕ, ◌-◌, IfSome}
use Rattle.model_router.specs.Events as model
use Rattle.model_router.specs.Good.{IsGoodMessage}
use Rattle.model_router.specs.Places.{nth}
use Rattle.model_router.specs.Routers.{Router}
use Rattle.router_desk.specs.Causes.{name_of}
use Rattle.router_desk.specs.Heard.{message_of, IsNumbered}
use Rattle.router_desk.specs.declared.heard.Heard.{Heard}
use Rattle.router_core.specs.declared.read.Read.{Read}
use Rattle.router_core.specs.declared.read.Read.TheVariants as read
use Rattle.router_core.specs.Events.{change_of, IsThere, FitsChange}
use Rattle.router_core.specs.Machines.{FitsKind}

-- the event that was read (own)
abbrev pub event_in : Read → model.Event
event_in read.Second = model.Second
event_in (read.Pull circuit) = model.Pull (circuit - 1)
event_in (read.Change change) = change_of change
event_in (read.Refused circuit cause) = model.Take (circuit - 1) (model.Refused (name_of cause))
event_in (read.Heard circuit heard) = model.Take (circuit - 1) (message_of heard)

-- what is heard is of its circuit's kind, and its fields are good (own)
pub record FitsHeard (r : Router) (circuit : ℕ) (heard : Heard) : Type 0 where
  pub there : IsThere r circuit
  pub good : IsGoodMessage (message_of heard)
  pub numbered : IsNumbered heard
  pub kind : IfSome (nth r.circuits (circuit - 1)) (λ c. FitsKind c (message_of heard))

-- when what was read may be handed over (own)
abbrev pub FitsRead : Router → Read → Type 0
FitsRead r read.Second = Unit {0}
FitsRead r (read.Pull circuit) = IsThere r circuit
FitsRead r (read.Change change) = FitsChange r change
FitsRead r (read.Refused circuit cause) = IsThere r circuit
FitsRead r (read.Heard circuit heard) = FitsHeard r circuit heard
