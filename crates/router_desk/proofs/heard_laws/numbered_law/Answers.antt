use Rattle.std.proofs.Common.{◌≡◌, true, Option, Some, None}
use Rattle.std.specs.Prelude.{IsSomeAnd}
use Rattle.model_datagram.specs.Tests.{has_number}
use Rattle.router_desk.specs.declared.desk_circuit.DeskCircuit.{DeskCircuit}
use Rattle.router_desk.specs.Desks.{DeskView, circuit_at}
use Rattle.router_desk.specs.Opening.{SeenView}
use Rattle.router_desk.specs.Table.{tests_of, AllHold}
use Rattle.router_desk.proofs.heard_laws.numbered_law.Goals as goal

of-circuit : (desk : DeskView) (seen : SeenView) (found : Option DeskCircuit) → IsSomeAnd found (λ c. AllHold (tests_of desk c seen.pdu seen.octets)) → has_number seen.pdu ≡ true
of-circuit desk seen None all = elim all [ ]
of-circuit desk seen (Some c) all = all.1.1.1.1.1.0

pub returns : goal.returns
returns c desk number datagram seen found = of-circuit desk seen (circuit_at desk number) (c.passed_law.ensures desk number datagram seen found)
