-- What holds of every keys script that was read (own).
use Rattle.std.specs.Prelude.{◌≡◌, ℕ, ◌<◌, ◌≤◌, true, List, length}
use Rattle.std.specs.List.{AllByRecursion}
use Rattle.lab_keys.specs.KeysNet.{ordered}
use Rattle.lab_script.specs.declared.events.KeyEvent.{KeyEvent}
use Rattle.lab_script.specs.declared.events.KeyEvent.TheVariants.{Issue, Pass}
use Rattle.lab_script.specs.KeysJudged.{KeysScript}
use Rattle.lab_script.specs.Links.{has_link}

-- the event's routers are there, and linked where a copy is passed
abbrev pub IsInScript : ℕ → List (ℕ × ℕ) → KeyEvent → Type 0
IsInScript routers links (Issue router id key) = router < routers
IsInScript routers links (Pass copy from to) =
    (from < routers) × (to < routers) × (has_link links (ordered from to) ≡ true)

pub record IsSound (script : KeysScript) : Type 0 where
  pub routers : length script.routers ≤ 1024
  pub links : length script.links ≤ 4096
  pub ends : AllByRecursion (λ link. (link.0 < length script.routers)
      × (link.1 < length script.routers)) script.links
  pub ordered : AllByRecursion (λ link. ordered link.0 link.1 ≡ link) script.links
  pub events : AllByRecursion
      (λ line. IsInScript (length script.routers) script.links line.event) script.events
