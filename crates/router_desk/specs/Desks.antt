-- A desk: what of a configuration the tests look at that need no state (own).
use Rattle.std.specs.Prelude.{ℕ, ◌-◌, Bool, true, false, List, map, Option, slice_get}
use Rattle.isis_base.specs.declared.level.CircuitKind.{CircuitKind}
use Rattle.isis_base.specs.declared.level.CircuitKind.TheVariants as circuit
use Rattle.model_router.specs.Both.{Both}
use Rattle.model_router.specs.Configs.{Config}
use Rattle.model_router.specs.Routers.{Circuit}
use Rattle.router_desk.specs.declared.desk_circuit.DeskCircuit.{DeskCircuit}

-- the system ID, the levels that are run, the keys of both levels, and the kind and the key of
-- each circuit, which never change (own)
pub record DeskView : Type 0 where
  pub system : ℕ
  pub runs : Both Bool
  pub keys : Both (Option (List ℕ))
  pub circuits : List DeskCircuit

-- whether a circuit is a LAN, and whether it is a point-to-point link (ISO 10589 6.3)
abbrev pub is_lan : CircuitKind → Bool
is_lan circuit.PointToPoint = false
is_lan circuit.Lan = true

abbrev pub is_point : CircuitKind → Bool
is_point circuit.PointToPoint = true
is_point circuit.Lan = false

-- the kind of a circuit of the model (ISO 10589 6.3)
abbrev pub kind_of_circuit : Bool → CircuitKind
kind_of_circuit true = circuit.Lan
kind_of_circuit false = circuit.PointToPoint

abbrev pub desk_circuit : Circuit → DeskCircuit
desk_circuit c = record { kind = kind_of_circuit c.lan; key = c.key }

-- the desk of a router of the model
abbrev pub desk_of : Config → List Circuit → DeskView
desk_of config circuits = record {
  system = config.system;
  runs = config.runs;
  keys = config.keys;
  circuits = map desk_circuit circuits;
}

-- the circuit of a number, counted from 1 (own)
abbrev pub circuit_at : DeskView → ℕ → Option DeskCircuit
circuit_at desk number = slice_get desk.circuits (number - 1)
