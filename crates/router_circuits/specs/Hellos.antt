-- Hellos that are heard on a circuit, as the model of the router has them, and what comes of
-- them (ISO 10589 8.2.4, 8.4.2; the form: own).
use Rattle.std.specs.Prelude.{◌≡◌, ℕ, Bool, true, false, ◌&&◌, ◌||◌, not, ◌==◌, List, Option, Some, None}
use Rattle.isis_base.specs.declared.level.Level.TheVariants as level
use Rattle.model_router.specs.Both.{Both, same_levels, runs_of}
use Rattle.model_router.specs.Configs.{Config}
use Rattle.model_router.specs.Adjacencies.{Neighbour, Handshake, Hello, PointAdj, is_same, hear_point, point_open}
use Rattle.model_router.specs.Hellos.{comes_up, is_moved}
use Rattle.model_router.specs.Maps.{find}
use Rattle.model_router.specs.Routers.{LanNeighbour}
use Rattle.model_router.specs.Seconds.{point_over, some_over, heard_less}
use Rattle.model_router.specs.Numbers.{system_number, snpa_number, node_number}
use Rattle.adjacency.specs.declared.hello.Own.{Own}
use Rattle.adjacency.specs.declared.hello.HelloFields.{HelloFields}
use Rattle.adjacency.specs.declared.hello.AdjChange.{AdjChange}
use Rattle.adjacency.specs.declared.hello.AdjChange.TheVariants as change
use Rattle.adjacency.specs.Remembered.{is_full}
use Rattle.adjacency.specs.Views.{shakes_of}
use Rattle.router_circuits.specs.declared.greeted.Greeted.{Greeted}
use Rattle.router_circuits.specs.declared.medium.Medium.{Medium}
use Rattle.router_circuits.specs.declared.timers.Timers.{Timers}
use Rattle.router_circuits.specs.Views.{point_in, heard_in}

-- ---- hellos in the model's words

-- a configuration's own part: a hello's tests and levels look at nothing else of it (ISO 10589
-- 8.2.4.2)
pub record IsOwn (config : Config) (own : Own) : Type 0 where
  pub system : config.system ≡ system_number own.system
  pub areas : config.areas ≡ own.areas.now
  pub runs : config.runs ≡ runs_of own.levels

-- configurations of which hellos see the same (own)
pub record IsAlike (a b : Config) : Type 0 where
  pub system : a.system ≡ b.system
  pub areas : a.areas ≡ b.areas
  pub runs : a.runs ≡ b.runs

-- what a hello says (ISO 10589 9.5 to 9.7)
abbrev pub hello_of : HelloFields → Hello
hello_of h = record {
  source = system_number h.source;
  snpa = snpa_number h.snpa;
  boot = h.boot;
  runs = runs_of h.levels;
  holding = h.holding;
  priority = h.priority;
  lan = node_number h.lan;
  areas = h.areas.now;
  handshake = shakes_of h.three_way;
  names_me = h.names_me;
}

-- what is remembered of a system among boots: its boot number, where one is, and whether it isn't remembered where 256 are (own)
pub record IsKnown (boots : List (ℕ × ℕ)) (system : ℕ) (known : Option ℕ × Bool) : Type 0 where
  pub greatest : known.0 ≡ find boots system
  pub full : known.1 ≡ is_full boots system

-- ---- what comes of hellos and of seconds

-- whether something became of an adjacency
abbrev pub is_change : AdjChange → Bool
is_change change.None = false
is_change change.Moved = true
is_change change.WentUp = true
is_change change.LeftUp = true

-- whether it came up
abbrev pub is_coming_up : AdjChange → Bool
is_coming_up change.None = false
is_coming_up change.Moved = false
is_coming_up change.WentUp = true
is_coming_up change.LeftUp = false

-- whether two neighbours are one: by system, extended circuit ID, boot number and levels in common
-- (own)
abbrev pub is_one : Option Neighbour → Option Neighbour → Bool
is_one None b = false
is_one (Some a) None = false
is_one (Some a) (Some b) =
    a.system == b.system && a.extended == b.extended && a.boot == b.boot && same_levels a.levels b.levels

-- counters of a level with a CSNP set due, where one is (ISO 10589 7.3.17)
abbrev pub with_due : Timers → Bool → Timers
with_due timers due = record timers { due = timers.due || due }

-- What a point-to-point hello did: whether the neighbour that was kept isn't its sender, whether a
-- hello is due, and whether a CSNP set is due on each level (own).
pub record IsGreeted (old new : PointAdj) (common : Both Bool) (h : Hello) (shake : Handshake)
    (greeted : Greeted) : Type 0 where
  pub heard : new ≡ hear_point old common h shake
  pub anew : greeted.anew ≡ not (is_same old.neighbour common h shake.extended)
  pub moved : greeted.moved
      ≡ is_moved old new (is_same old.neighbour common h shake.extended)
  pub one : greeted.one ≡ (comes_up old new (is_same old.neighbour common h shake.extended)
      && point_open new level.One)
  pub two : greeted.two ≡ (comes_up old new (is_same old.neighbour common h shake.extended)
      && point_open new level.Two)

-- whether the time of an adjacency is over (ISO 10589 8.2.5, 8.4.2)
abbrev pub is_over : Medium → Bool
is_over m =
    point_over (point_in m).neighbour || some_over (heard_in m).one || some_over (heard_in m).two

-- those heard on both levels a second later (ISO 10589 8.4.2)
abbrev pub both_less : Both (List (ℕ × LanNeighbour)) → Both (List (ℕ × LanNeighbour))
both_less heard = record { one = heard_less heard.one; two = heard_less heard.two }
