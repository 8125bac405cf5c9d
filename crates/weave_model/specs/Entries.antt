-- Entries of journals, and their replay by the machine (own).
use Rattle.std.specs.Prelude.{ℕ, ◌-◌, Bool, List, [], ◌∷◌, map, Option, Some, None}
use Rattle.model_router.specs.declared.drop_name.DropName.{DropName}
use Rattle.model_router.specs.Places.{nth}
use Rattle.model_router.specs.Givens.{Given}
use Rattle.model_router.specs.Datagrams.{Sent}
use Rattle.model_router.specs.Routers.{Circuit, Router}
use Rattle.model_router.specs.Events as model
use Rattle.model_router.specs.Events.{Event, Reply}
use Rattle.model_router.specs.Steps.{step}
use Rattle.model_router.specs.AdjacencyLaws.{place_of}
use Rattle.model_datagram.specs.Datagrams.{datagram}
use Rattle.model_network.specs.Runs.{taking}

-- What an entry says was done: a second; octets taken, and a pull, on a circuit by its number, from
-- 1; or a change of the configuration (own).
pub data Deed : Type 0 where
  Second : Deed
  Take : (circuit : ℕ) (octets : List ℕ) → Deed
  Pull : (circuit : ℕ) → Deed
  Metric : (circuit metric : ℕ) → Deed
  Overload : (on : Bool) → Deed
  Prefix : (prefix : ℕ) (metric : Option ℕ) → Deed

-- what it says was answered: nothing, the word of a drop, or the datagrams that were sent (own)
pub data Answer : Type 0 where
  Done : Answer
  Dropped : (name : DropName) → Answer
  Sends : (datagrams : List (List ℕ)) → Answer

-- own
pub record Entry : Type 0 where
  pub deed : Deed
  pub answer : Answer

-- ---- replay

-- the event of a router that a deed is (own)
abbrev pub event_of : Router → Deed → Event
event_of r Second = model.Second
event_of r (Take circuit octets) = taking r (circuit - 1) octets
event_of r (Pull circuit) = model.Pull (circuit - 1)
event_of r (Metric circuit metric) = model.Metric (circuit - 1) metric
event_of r (Overload on) = model.Overload on
event_of r (Prefix prefix metric) = model.Prefix prefix metric

-- what a router sends on the circuit at a place, each as octets (ISO 10589 9)
abbrev pub octets_on : Router → ℕ → Option Circuit → List Sent → List (List ℕ)
octets_on r place None out = []
octets_on r place (Some c) out = map (datagram r.config r.boot place c) out

-- The reply of a router, after an event on the circuit at a place, as an entry says it. Case by case
-- it is `model_view` of circuit_threads, by which the journals of daemons are written (own).
abbrev pub answer_by : Router → ℕ → Reply → Answer
answer_by r place model.Done = Done
answer_by r place (model.Dropped name) = Dropped name
answer_by r place (model.Send out) = Sends (octets_on r place (nth r.circuits place) out)

-- a router after a deed (own)
abbrev pub next : Given → Router → Deed → Router
next given r deed = (step given r (event_of r deed)).router

-- what the machine answers to it (own)
abbrev pub answer_to : Given → Router → Deed → Answer
answer_to given r deed =
    let o = step given r (event_of r deed) in
    answer_by o.router (place_of (event_of r deed)) o.reply

-- a router after the entries of a journal (own)
abbrev pub replay : Given → Router → List Entry → Router
replay given r [] = r
replay given r (e ∷ es) = replay given (next given r e.deed) es
