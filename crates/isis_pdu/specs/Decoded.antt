-- What octets say, as one function of them (ISO 10589 9; the form: own).
use Rattle.std.specs.Prelude.{ℕ, List, Option, Some, None, Result, Ok, Err}
use Rattle.isis_base.specs.declared.pdu_kind.PduKind.{PduKind}
use Rattle.isis_pdu.specs.declared.fault.PduFault.{PduFault}
use Rattle.isis_pdu.specs.declared.fault.PduFaultKind.TheVariants.{PduType}
use Rattle.isis_base.specs.PduKinds.{kind_at}
use Rattle.isis_pdu.specs.Layout.{length_at, body_at, value_at}
use Rattle.isis_pdu.specs.Table.{first_fault}
use Rattle.isis_pdu.specs.Views.{PduView}

-- a fault, or the fields of a type at their offsets with the PDU length; where no test fails the type is known
abbrev pub decoded_by : Option PduFault → Option PduKind → List ℕ → Result (PduView × ℕ) PduFault
decoded_by (Some fault) kind octets = Err fault
decoded_by None (Some kind) octets =
    Ok (value_at kind octets (body_at kind octets (length_at kind octets)), length_at kind octets)
decoded_by None None octets = Err (record { kind = PduType; place = 4 })

-- what octets say: the fault of the first test that fails, else the value they begin with and its length (ISO 10589 9)
unfoldable pub decoded : List ℕ → Result (PduView × ℕ) PduFault
decoded octets = decoded_by (first_fault octets) (kind_at octets) octets
