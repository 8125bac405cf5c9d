-- The events of a keys script in its network (own).
use Rattle.std.specs.Prelude.{◌≡◌, ◌<◌, true, List}
use Rattle.std.specs.List.{AllByRecursion}
use Rattle.lab_keys.specs.KeysNet.{Net, is_joined}
use Rattle.lab_script.specs.declared.events.KeyEvent.{KeyEvent}
use Rattle.lab_script.specs.declared.events.KeyEvent.TheVariants.{Issue, Pass}
use Rattle.lab_script.specs.declared.events.EventLine.{EventLine}

-- the event's routers are in the network, and joined where a copy is passed
abbrev pub IsInNet : Net → KeyEvent → Type 0
IsInNet net (Issue router id key) = router < net.routers
IsInNet net (Pass copy from to) =
    (from < net.routers) × (to < net.routers) × (is_joined net from to ≡ true)

abbrev pub AreInNet : Net → List EventLine → Type 0
AreInNet net events = AllByRecursion (λ line. IsInNet net line.event) events

-- the same routers and links
pub record IsLaidOut (old new : Net) : Type 0 where
  pub routers : new.routers ≡ old.routers
  pub linked : new.linked ≡ old.linked
