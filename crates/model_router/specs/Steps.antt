-- The step: the state and the answer after an event, by the part that is its kind's (own).
use Rattle.std.specs.Prelude.{ℕ, Option, Some, None}
use Rattle.model_router.specs.Maps.{set_at}
use Rattle.model_router.specs.Places.{nth}
use Rattle.model_router.specs.Routers.{Circuit, Router, with_circuit}
use Rattle.model_router.specs.Givens.{Given}
use Rattle.model_router.specs.Seconds.{second}
use Rattle.model_router.specs.Pulls.{Sending, pull}
use Rattle.model_router.specs.Events.{Event, Second, Take, Pull, Metric, Overload, Prefix, Done, Send, Outcome, settled}
use Rattle.model_router.specs.Receiving.{take}

-- a circuit's metric is changed, where the circuit is there (own)
abbrev pub with_metric : Router → ℕ → ℕ → Option Circuit → Router
with_metric r place metric None = r
with_metric r place metric (Some c) = with_circuit r place (record c { metric = metric })

-- an own prefix with its metric, or without it (own)
abbrev pub with_prefix : Router → ℕ → Option ℕ → Router
with_prefix r prefix metric =
    record r { config = record r.config { prefixes = set_at r.config.prefixes prefix metric } }

-- own
abbrev pub sent_all : Sending → Outcome
sent_all s = record { router = s.router; reply = Send s.out }

-- own
unfoldable pub step : Given → Router → Event → Outcome
step given r Second = settled (record { router = second given r; reply = Done })
step given r (Take place m) = take given r place m (nth r.circuits place)
step given r (Pull place) = settled (sent_all (pull r place))
step given r (Metric place metric) =
    settled (record { router = with_metric r place metric (nth r.circuits place); reply = Done })
step given r (Overload on) =
    settled (record {
      router = record r { config = record r.config { overload = on } };
      reply = Done;
    })
step given r (Prefix prefix metric) =
    settled (record { router = with_prefix r prefix metric; reply = Done })
