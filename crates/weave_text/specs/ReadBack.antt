-- How a lab script that is written is read again (own).
use Rattle.std.specs.Prelude.{◌≡◌, ℕ, ◌+◌, ◌-◌, ◌<◌, ◌≤◌, ◌^◌, List, [], ◌∷◌, ◌++◌, map, length, Some, Ok, IfSome}
use Rattle.std.specs.List.{AllByRecursion}
use Rattle.router_desk.specs.declared.config.Change.{Change}
use Rattle.router_desk.specs.declared.config.Change.TheVariants as change
use Rattle.network_lab.specs.declared.event.LabEvent.{LabEvent}
use Rattle.network_lab.specs.declared.event.LabEvent.TheVariants as event
use Rattle.network_lab.specs.LabNets.{Seen}
use Rattle.lab_script.specs.declared.deeds.LabDeed.{LabDeed}
use Rattle.lab_script.specs.declared.deeds.LabDeed.TheVariants as deed
use Rattle.lab_script.specs.declared.deeds.LabLine.{LabLine}
use Rattle.lab_script.specs.declared.script.Script.{Script}
use Rattle.lab_script.specs.declared.script.Script.TheVariants.{Keys, Lab}
use Rattle.lab_script.specs.LabScripts.{LabScript, router_names, link_names, place_at}
use Rattle.lab_script.specs.Names.{number_of_name}
use Rattle.lab_script.specs.Printed.{IsName}
use Rattle.lab_script.specs.Scripts.{script_of}
use Rattle.lab_text.specs.LabClaims.{start_of, script_events}
use Rattle.lab_text.specs.Passed.{name_at}
use Rattle.weave.specs.Woven.{happenings_of}
use Rattle.weave_text.specs.Weavings.{Weaving}
use Rattle.weave_text.specs.Written.{link_on}

-- ---- names

-- the number has a name, which no number before it has
pub record IsNamed (names : List (List ℕ)) (number : ℕ) : Type 0 where
  pub name : IsName (name_at names number)
  pub found : number_of_name names (name_at names number) ≡ Some number

-- each number below the count has one
abbrev pub AreNamed : List (List ℕ) → Type 0
AreNamed names = (number : ℕ) → number < length names → IsNamed names number

-- each router and each link of a lab script has one
abbrev pub AreAllNamed : LabScript → Type 0
AreAllNamed script = AreNamed (router_names script.routers) × AreNamed (link_names script.links)

abbrev pub HasNames : Script → Type 0
HasNames (Keys script) = Unit {0}
HasNames (Lab script) = AreAllNamed script

abbrev pub HasRouter : LabScript → ℕ → Type 0
HasRouter script router = IsNamed (router_names script.routers) router

-- a router's circuit at a place is on this link
pub record HasCircuit (script : LabScript) (router link place : ℕ) : Type 0 where
  pub router_named : HasRouter script router
  pub link_named : IsNamed (link_names script.links) link
  pub on : place_at script.links link router ≡ Some place

-- the link of a router's circuit, counted from 1, is this one
pub record HasCircuitOf (script : LabScript) (s : Seen) (router circuit : ℕ) : Type 0 where
  pub link : ℕ
  pub is : link_on s router circuit ≡ Some link
  pub has : HasCircuit script router link (circuit - 1)

abbrev pub HasChange : LabScript → Seen → ℕ → Change → Type 0
HasChange script s router (change.Metric circuit metric) =
    HasCircuitOf script s router circuit × (metric ≤ 16777215)
HasChange script s router (change.Prefix prefix metric) =
    HasRouter script router × (prefix.address < 2 ^ 32) × IfSome metric (λ m. m ≤ 4261412864)
HasChange script s router (change.Overload on) = HasRouter script router

-- a script names what an event of its network is of, and the event's numbers are in their ranges; nothing is injected
abbrev pub HasEvent : LabScript → Seen → LabEvent → Type 0
HasEvent script s (event.Tick router) = HasRouter script router
HasEvent script s (event.Pull router link) = (place : ℕ) × HasCircuit script router link place
HasEvent script s (event.Deliver datagram router) = (datagram < 2 ^ 64) × HasRouter script router
HasEvent script s (event.Restart router) = HasRouter script router
HasEvent script s (event.Change router change) = HasChange script s router change
HasEvent script s (event.Inject router link octets) = ⊥

-- ---- what is read

abbrev pub change_deed : ℕ → Change → LabDeed
change_deed router (change.Metric circuit metric) = deed.Metric router (circuit - 1) metric
change_deed router (change.Prefix prefix metric) = deed.Prefix router prefix metric
change_deed router (change.Overload on) = deed.Overload router on

-- an event as the line of a script says it
abbrev pub deed_of : LabEvent → LabDeed
deed_of (event.Tick router) = deed.Tick router
deed_of (event.Pull router link) = deed.Pull router link
deed_of (event.Deliver datagram router) = deed.Deliver datagram router
deed_of (event.Restart router) = deed.Restart router
deed_of (event.Change router change) = change_deed router change
deed_of (event.Inject router link octets) = deed.Inject router link octets

-- the event lines of a schedule, the first of this number
abbrev pub lines_from : ℕ → List LabEvent → List LabLine
lines_from number [] = []
lines_from number (e ∷ schedule) =
    record { line = number; deed = deed_of e } ∷ lines_from (number + 1) schedule

-- a script with the event lines of a schedule behind its own
abbrev pub with_schedule : LabScript → ℕ → List LabEvent → LabScript
with_schedule script number schedule =
    record script { lines = script.lines ++ lines_from number schedule }

-- scripts that differ only in the numbers of their event lines
pub record AreAlike (a b : LabScript) : Type 0 where
  pub routers : b.routers ≡ a.routers
  pub links : b.links ≡ a.links
  pub keys : b.keys ≡ a.keys
  pub deeds : map (λ line. line.deed) b.lines ≡ map (λ line. line.deed) a.lines

-- ---- what is read of a weaving's text

-- the script names what the events of a schedule are of
abbrev pub HasSchedule : Script → Seen → List LabEvent → Type 0
HasSchedule (Keys script) s schedule = ⊥
HasSchedule (Lab script) s schedule = AllByRecursion (HasEvent script s) schedule

-- a text is read as a lab script that begins with the network of a weaving's setup lines, and whose events are those of its change
-- lines, and then those of a schedule
pub record IsReadAs (weaving : Weaving) (schedule : List LabEvent) (text : List ℕ) : Type 0 where
  pub ahead : LabScript
  pub is : weaving.script ≡ Lab ahead
  pub script : LabScript
  pub read : script_of text ≡ Ok (Lab script)
  pub start : start_of script ≡ start_of ahead
  pub events : script_events script ≡ script_events ahead ++ happenings_of schedule
