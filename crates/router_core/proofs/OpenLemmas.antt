-- What is known of a datagram that a desk opened.
use Rattle.std.proofs.Common.{◌≡◌, ℕ, zero, suc, ◌-◌, ◌<◌, Bool, true, false, Option, Some, List, [], ◌∷◌, length, Result, Ok, Err, option_map, refl, sym, ap, ◌∙◌, subst, arith}
use Rattle.std.specs.Prelude.{slice_get}
use Rattle.std.specs.Option.{IsSomeAnd}
use Rattle.std.proofs.lemmas.Option.{slice_get-map}
use Rattle.model_router.specs.Events.{Envelope}
use Rattle.model_router.specs.Configs.{Config}
use Rattle.model_router.specs.Places.{nth}
use Rattle.model_router.specs.Routers.{Circuit}
use Rattle.isis_pdu.specs.Views.{PduView, LanHello, PointHello, Lsp, Csnp, Psnp}
use Rattle.model_datagram.specs.Reading.{message}
use Rattle.router_desk.specs.declared.desk_circuit.DeskCircuit.{DeskCircuit}
use Rattle.router_desk.specs.declared.cause.DropCause.{DropCause}
use Rattle.router_desk.specs.Desks.{DeskView, desk_of, desk_circuit, is_lan, is_point, kind_of_circuit, circuit_at}
use Rattle.router_desk.specs.Opening.{SeenView, message_of}
use Rattle.router_desk.specs.Table.{tests_of, AllHold}
use Rattle.router_core.specs.Machines.{FitsKind}

lan-kind : (b : Bool) → is_lan (kind_of_circuit b) ≡ true → b ≡ true
lan-kind true e = refl
lan-kind false e = e

point-kind : (b : Bool) → is_point (kind_of_circuit b) ≡ true → b ≡ false
point-kind true e = sym e
point-kind false e = refl

pdu-kind : (desk : DeskView) (c : Circuit) (own : ℕ) (from : Envelope) (pdu : PduView) (octets : List ℕ) → AllHold (tests_of desk (desk_circuit c) pdu octets) → FitsKind c (message own from pdu octets)
pdu-kind desk c own from (LanHello level circuit_type source holding priority lan tlvs) octets all = lan-kind c.lan all.1.0
pdu-kind desk c own from (PointHello circuit_type source holding circuit tlvs) octets all = point-kind c.lan all.1.0
pdu-kind desk c own from (Lsp level lifetime id number checksum flags tlvs) octets all = tt
pdu-kind desk c own from (Csnp level source start end tlvs) octets all = tt
pdu-kind desk c own from (Psnp level source tlvs) octets all = tt

nth-slice_get : {A : Type 0} (xs : List A) (place : ℕ) → slice_get xs place ≡ nth xs place
nth-slice_get [] place = refl
nth-slice_get (x ∷ xs) zero = refl
nth-slice_get (x ∷ xs) (suc place) = nth-slice_get xs place

circuit-there : (config : Config) (circuits : List Circuit) (number : ℕ) (c : Circuit) → nth circuits (number - 1) ≡ Some c → circuit_at (desk_of config circuits) number ≡ Some (desk_circuit c)
circuit-there config circuits number c e = slice_get-map desk_circuit circuits (number - 1) ∙ ap (option_map desk_circuit) (nth-slice_get circuits (number - 1) ∙ e)

-- what a desk found is of the kind of its circuit
pub seen-kind : (config : Config) (circuits : List Circuit) (number own : ℕ) (c : Circuit) (seen : Result SeenView DropCause) → nth circuits (number - 1) ≡ Some c
    → ((s : SeenView) → seen ≡ Ok s → IsSomeAnd (circuit_at (desk_of config circuits) number) (λ d. AllHold (tests_of (desk_of config circuits) d s.pdu s.octets)))
    → FitsKind c (message_of own seen)
seen-kind config circuits number own c (Err cause) e f = tt
seen-kind config circuits number own c (Ok s) e f = pdu-kind (desk_of config circuits) c own _ s.pdu s.octets
    (subst (λ (o : Option DeskCircuit). IsSomeAnd o (λ d. AllHold (tests_of (desk_of config circuits) d s.pdu s.octets))) (circuit-there config circuits number c e) (f s refl))

pub there : {A : Type 0} (xs : List A) (i : ℕ) → i < length xs → (x : A) × (nth xs i ≡ Some x)
there [] i h = absurd (omega (arith, h))
there (x ∷ xs) zero h = (x, refl)
there (x ∷ xs) (suc i) h = there xs i (omega (arith, h))
