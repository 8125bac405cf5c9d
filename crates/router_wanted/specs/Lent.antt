-- What is lent of a router: those parts of its state at which its own LSPs look.
use Rattle.std.specs.Prelude.{◌≡◌, ℕ, Bool, List, [], map, Option, Some, None, is_some, if◌then◌else◌}
use Rattle.isis_base.specs.declared.level.Level.{Level}
use Rattle.isis_base.specs.declared.prefix.Prefix.{Prefix}
use Rattle.model_router.specs.Both.{at, runs_of}
use Rattle.model_router.specs.Configs.{Config}
use Rattle.model_router.specs.Givens.{Given}
use Rattle.model_router.specs.Routers.{Circuit, Router}
use Rattle.model_router.specs.Starts.{empty_level}
use Rattle.model_router.specs.Numbers.{system_number}
use Rattle.router_wanted.specs.declared.wants.Wants.{Wants}
use Rattle.router_wanted.specs.Views.{prefix_pair}

-- What is lent is the router's, and what the routes of the state before say.
pub record IsLent (given : Given) (before r : Router) (level : Level) (base : Wants)
    (lent : List Circuit) (leaked : List (Prefix × ℕ)) (is_attached : Bool) : Type 0 where
  pub system : r.config.system ≡ system_number base.system
  pub areas : r.config.areas ≡ base.areas.now
  pub runs : r.config.runs ≡ runs_of base.levels
  pub leak : r.config.leak ≡ base.leak
  pub overload : r.config.overload ≡ base.overload
  pub prefixes : r.config.prefixes ≡ map prefix_pair base.prefixes.now
  pub signed : is_some (at r.config.keys level) ≡ base.signed
  pub circuits : r.circuits ≡ lent
  pub leaks : given.leaks before level ≡ map prefix_pair leaked
  pub attached : given.attached before ≡ is_attached

-- ---- a router with these parts, and nothing else (own)

abbrev pub key_of : Bool → Option (List ℕ)
key_of signed = if signed then Some [] else None

abbrev pub config_of : Wants → Config
config_of base = record {
  system = system_number base.system;
  areas = base.areas.now;
  runs = runs_of base.levels;
  leak = base.leak;
  overload = base.overload;
  prefixes = map prefix_pair base.prefixes.now;
  keys = record { one = key_of base.signed; two = key_of base.signed };
}

abbrev pub router_of : Wants → List Circuit → Router
router_of base circuits = record {
  config = config_of base;
  boot = 0;
  circuits = circuits;
  levels = record { one = empty_level 0; two = empty_level 0 };
  drops = [];
}

abbrev pub given_of : List (Prefix × ℕ) → Bool → Given
given_of leaks attached = record {
  leaks = λ (_ : Router) (_ : Level). map prefix_pair leaks;
  attached = λ (_ : Router). attached;
  octets = λ _ _ _ _ _. [];
  checksum = λ _ _ _ _ _. 0;
}
