-- Networks of the model in their run: their routers are such as can be reached (own).
use Rattle.std.specs.Prelude.{◌≡◌, ℕ, ◌<◌, List, [], ◌∷◌, Some, IfSome}
use Rattle.std.specs.List.{AllByRecursion}
use Rattle.model_router.specs.Places.{nth}
use Rattle.isis_base.specs.declared.level.Level.{Level}
use Rattle.model_router.specs.Routers.{Router, book_of}
use Rattle.router_core.specs.Events.{FitsPrefix}
use Rattle.router_core.specs.Givens.{given}
use Rattle.router_core.specs.Reached.{IsReached}
use Rattle.model_network.specs.Networks.{Network}
use Rattle.model_network.specs.Runs.{Happening, Tick, PullOn, Deliver, Restart, SetMetric, SetOverload, SetPrefix, Inject, apply}
use Rattle.model_network.specs.Kept.{IsKeptNet}
use Rattle.model_network.specs.Origins.{HaveOrigins}
use Rattle.model_network.specs.Sweeps.{AreTrue, AreAgreed}
use Rattle.network_lab.specs.declared.sent.SentDatagram.{SentDatagram}
use Rattle.network_lab.specs.LabNets.{Seen, seen_of}

-- ---- networks

abbrev pub AreInRun : List Router → Type 0
AreInRun routers = (i : ℕ) (r : Router) → nth routers i ≡ Some r → IsReached r

-- no router holds anything (own)
abbrev pub HoldNothing : List Router → Type 0
HoldNothing routers = (i : ℕ) (r : Router) (level : Level) → nth routers i ≡ Some r
    → (book_of r level).cells ≡ []

-- its routers can be reached; what is kept of a whole network holds; live LSPs come from the routers
-- of their systems; and CSNPs tell what their senders hold, and who took one holds the same, while
-- the keys of both stand (own)
pub record IsReachedNet (net : Network) : Type 0 where
  pub routers : AreInRun net.routers
  pub kept : IsKeptNet net
  pub origins : HaveOrigins net
  pub tells : AreTrue net
  pub agreed : AreAgreed net net.takings

-- what is seen is that of such a network (own)
pub record HasRun (s : Seen) : Type 0 where
  pub net : Network
  pub seen : seen_of net ≡ s
  pub reached : IsReachedNet net

-- what was sent are octets (own)
abbrev pub AreSmall : List SentDatagram → Type 0
AreSmall sent = AllByRecursion
    (λ (d : SentDatagram). AllByRecursion (λ octet. octet < 256) d.octets) sent

-- ---- events

-- a router has a next boot, and room for a prefix (own)
abbrev pub IsFitting : Network → Happening → Type 0
IsFitting net (Tick i) = Unit {0}
IsFitting net (PullOn i link) = Unit {0}
IsFitting net (Deliver n i) = Unit {0}
IsFitting net (Restart i) = IfSome (nth net.routers i) (λ r. r.boot < 16777215)
IsFitting net (SetMetric i place metric) = Unit {0}
IsFitting net (SetOverload i on) = Unit {0}
IsFitting net (SetPrefix i prefix metric) =
    IfSome (nth net.routers i) (λ r. FitsPrefix r prefix metric)
IsFitting net (Inject i link octets) = Unit {0}

-- an event that makes of a network what is seen then (own)
pub record Happens (net : Network) (later : Seen) : Type 0 where
  pub event : Happening
  pub fits : IsFitting net event
  pub seen : seen_of (apply given net event) ≡ later

-- such an event makes the one of the other, where nothing was injected (own)
abbrev pub Happen : Seen → Seen → Type 0
Happen before later = before.injected ≡ 0 → (net : Network) → seen_of net ≡ before
    → Happens net later

-- each of a run's events fits the network that it finds (own)
abbrev pub AreFitting : Network → List Happening → Type 0
AreFitting net [] = Unit {0}
AreFitting net (event ∷ events) = IsFitting net event × AreFitting (apply given net event) events
