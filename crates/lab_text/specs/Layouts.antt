-- The network that a lab script lays out before its events (own).
use Rattle.std.specs.Prelude.{ℕ, ◌+◌, ◌==◌, ◌&&◌, Bool, true, false, List, [], ◌∷◌, Option, Some, None, if◌then◌else◌}
use Rattle.isis_base.specs.declared.level.CircuitKind.{CircuitKind}
use Rattle.isis_base.specs.declared.level.CircuitKind.TheVariants as kind
use Rattle.isis_base.specs.declared.level.Level.{Level}
use Rattle.isis_base.specs.declared.level.Level.TheVariants as level
use Rattle.model_router.specs.Places.{nth}
use Rattle.router_desk.specs.declared.config.Config.{Config}
use Rattle.model_network.specs.Networks.{Network}
use Rattle.network_lab.specs.LabNets.{LabNet, empty_lab, new_circuit, with_router, with_ends, with_key, with_priority}
use Rattle.lab_script.specs.declared.setup.End.{End}
use Rattle.lab_script.specs.declared.setup.KeyScope.{KeyScope}
use Rattle.lab_script.specs.declared.setup.KeyScope.TheVariants as scope
use Rattle.lab_script.specs.declared.setup.LabKey.{LabKey}
use Rattle.lab_script.specs.declared.setup.LabLink.{LabLink}
use Rattle.lab_script.specs.declared.setup.LabRouter.{LabRouter}
use Rattle.lab_script.specs.LabScripts.{LabScript, end_routers}

-- ---- keys: of several that are given for one purpose the last counts

-- the scope of the key of a level: area of L1, domain of L2 (RFC 5304 3)
abbrev pub is_of : Level → KeyScope → Bool
is_of level.One scope.Area = true
is_of level.One scope.Domain = false
is_of level.One (scope.Circuit place) = false
is_of level.Two scope.Area = false
is_of level.Two scope.Domain = true
is_of level.Two (scope.Circuit place) = false

-- the key that this line gives, or else the one before it
abbrev pub later_key : Level → ℕ → LabKey → Option (List ℕ) → Option (List ℕ)
later_key level router key before =
    if key.router == router && is_of level key.scope then Some key.key else before

-- a router's key of a level, after those that it had before
abbrev pub key_behind : Level → ℕ → List LabKey → Option (List ℕ) → Option (List ℕ)
key_behind level router [] before = before
key_behind level router (key ∷ keys) before =
    key_behind level router keys (later_key level router key before)

abbrev pub key_of : Level → ℕ → List LabKey → Option (List ℕ)
key_of level router keys = key_behind level router keys None

-- ---- routers

-- the configuration of a router without circuits
abbrev pub config_of : List LabKey → ℕ → LabRouter → Config
config_of keys number router = record {
  system = router.system;
  areas = router.area ∷ [];
  levels = router.levels;
  leak = router.leak;
  overload = false;
  circuits = [];
  prefixes = [];
  area_key = key_of level.One number keys;
  domain_key = key_of level.Two number keys;
}

-- the routers from this number on
abbrev pub with_routers : List LabKey → ℕ → List LabRouter → LabNet → LabNet
with_routers keys number [] a = a
with_routers keys number (router ∷ routers) a =
    with_routers keys (number + 1) routers (with_router a (config_of keys number router))

-- ---- links and LANs, and keys of circuits

-- a router's priority; 0 where there is none
abbrev pub priority_in : Option LabRouter → ℕ
priority_in None = 0
priority_in (Some router) = router.priority

-- the circuit of an end has the priority of its router (ISO 10589 8.4.5)
abbrev pub with_own_priority : List LabRouter → End → LabNet → LabNet
with_own_priority routers e a =
    with_priority a e.router (e.place + 1) (priority_in (nth routers e.router))

abbrev pub with_priorities : List LabRouter → List End → LabNet → LabNet
with_priorities routers [] a = a
with_priorities routers (e ∷ ends) a = with_priorities routers ends (with_own_priority routers e a)

-- a priority is that of circuits on LANs
abbrev pub with_priorities_on : CircuitKind → List LabRouter → List End → LabNet → LabNet
with_priorities_on kind.PointToPoint routers ends a = a
with_priorities_on kind.Lan routers ends a = with_priorities routers ends a

-- a link or LAN of its routers, which is the next circuit of each
abbrev pub with_laid : List LabRouter → LabLink → LabNet → LabNet
with_laid routers link a = with_priorities_on link.kind routers link.ends
    (with_ends a (end_routers link.ends) (new_circuit link.kind link.metric))

abbrev pub with_links : List LabRouter → List LabLink → LabNet → LabNet
with_links routers [] a = a
with_links routers (link ∷ links) a = with_links routers links (with_laid routers link a)

abbrev pub with_scope : ℕ → KeyScope → List ℕ → LabNet → LabNet
with_scope router scope.Area key a = a
with_scope router scope.Domain key a = a
with_scope router (scope.Circuit place) key a = with_key a router (place + 1) key

abbrev pub with_keys : List LabKey → LabNet → LabNet
with_keys [] a = a
with_keys (key ∷ keys) a = with_keys keys (with_scope key.router key.scope key.key a)

-- what the setup lines of a script lay out
abbrev pub laid_out : LabScript → LabNet
laid_out script =
    with_keys script.keys (with_links script.routers script.links
    (with_routers script.keys 0 script.routers empty_lab))

-- the network of the model that it is before its events
abbrev pub opened : LabNet → Network
opened a = record {
  routers = a.seen.routers;
  links = a.seen.links;
  datagrams = [];
  past = [];
  takings = [];
  injected = 0;
}
