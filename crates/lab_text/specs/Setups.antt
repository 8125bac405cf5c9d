-- What holds of a network while a lab script lays it out (own).
use Rattle.std.specs.Prelude.{◌≡◌, ℕ, ◌+◌, ◌<◌, ◌≤◌, false, List, [], map, length, None}
use Rattle.std.specs.List.{AllByRecursion}
use Rattle.network_lab.specs.LabNets.{LabNet, nothing_noted, next_place, AreDistinct}
use Rattle.network_lab.specs.LabCauses.{HasCircuit, has_full}
use Rattle.lab_script.specs.declared.setup.KeyScope.{KeyScope}
use Rattle.lab_script.specs.declared.setup.KeyScope.TheVariants as scope
use Rattle.lab_script.specs.declared.setup.End.{End}
use Rattle.lab_script.specs.declared.setup.LabLink.{LabLink}
use Rattle.lab_script.specs.declared.setup.LabRouter.{LabRouter}
use Rattle.lab_script.specs.LabScripts.{end_routers, circuit_count}
use Rattle.lab_script.specs.LabSound.{HasEnds}
use Rattle.lab_text.specs.Played.{ends_of}

-- no event was applied, and there is a router for each configuration
pub record IsSetup (a : LabNet) : Type 0 where
  pub early : a.begun ≡ false
  pub going : a.stopped ≡ None
  pub unsent : a.seen.sent ≡ []
  pub clean : a.seen.injected ≡ 0
  pub unnoted : a.seen.noted ≡ nothing_noted
  pub same : length a.seen.routers ≡ length a.configs

-- it has these routers, none of which has a circuit
pub record HasRouters (routers : List LabRouter) (a : LabNet) : Type 0 where
  pub setup : IsSetup a
  pub systems : map (λ config. config.system) a.configs ≡ map (λ router. router.system) routers
  pub bare : (router : ℕ) → next_place a router ≡ 0
  pub linkless : a.seen.links ≡ []

-- it has so many routers, and these links, and each router a circuit for each of them
pub record HasLinks (count : ℕ) (links : List LabLink) (a : LabNet) : Type 0 where
  pub setup : IsSetup a
  pub count_is : length a.configs ≡ count
  pub links_are : a.seen.links ≡ map ends_of links
  pub places : (router : ℕ) → next_place a router ≡ circuit_count links router

-- a link can be laid: its routers are there, none of them twice, and each has room for one more
-- circuit, which is the one that its end names
pub record IsNextLink (a : LabNet) (link : LabLink) : Type 0 where
  pub many : HasEnds link.kind link.ends
  pub there : AllByRecursion (λ router. router < length a.configs) (end_routers link.ends)
  pub apart : AreDistinct (end_routers link.ends)
  pub room : has_full a.configs (end_routers link.ends) ≡ false
  pub places : AllByRecursion (λ e. e.place ≡ next_place a e.router) link.ends
  pub metric : link.metric ≤ 16777215

-- the circuit of an end is there
abbrev pub HasEnd : LabNet → End → Type 0
HasEnd a e = HasCircuit a e.router (e.place + 1) × (e.place < 64)

-- the circuit of a key is there
abbrev pub HasScope : LabNet → ℕ → KeyScope → Type 0
HasScope a router scope.Area = Unit {0}
HasScope a router scope.Domain = Unit {0}
HasScope a router (scope.Circuit place) = HasCircuit a router (place + 1) × (place < 64)
