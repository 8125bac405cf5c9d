-- A LAN hello says no LSP and no SNP, whoever reads it.
use Rattle.std.proofs.Common.{◌≡◌, ℕ, ◌^◌, ◌<◌, List, Result, Option, Some, None, refl, sym, subst}
use Rattle.isis_base.specs.declared.level.Level.{Level}
use Rattle.isis_base.specs.declared.level.Level.TheVariants as level
use Rattle.isis_base.specs.declared.pdu_kind.PduKind.{PduKind}
use Rattle.isis_base.specs.declared.pdu_kind.PduKind.TheVariants as kind
use Rattle.isis_base.specs.PduKinds.{kind_of_number, kind_at}
use Rattle.isis_pdu.specs.declared.fault.PduFault.{PduFault}
use Rattle.isis_pdu.specs.Decoded.{decoded_by, decoded}
use Rattle.isis_pdu.specs.Table.{first_fault}
use Rattle.model_router.specs.declared.drop_name.DropName.{DropName}
use Rattle.model_router.specs.Configs.{Config}
use Rattle.model_router.specs.Routers.{Circuit}
use Rattle.model_router.specs.Datagrams.{LanHello}
use Rattle.model_router.specs.Events.{Envelope, Message, LanHelloHeard}
use Rattle.model_datagram.specs.Signing.{signed}
use Rattle.model_datagram.specs.Datagrams.{pdu_octets, datagram}
use Rattle.model_datagram.specs.Reading.{refused_or, read_pdu, read_frame, read}
use Rattle.model_datagram.proofs.ReadLemmas.{unframed-reads_back}
use Rattle.model_network.specs.Origins.{IsSilent}

refused-silent : (f : Option DropName) (m : Message) → IsSilent m → IsSilent (refused_or f m)
refused-silent None m s = s
refused-silent (Some cause) m s = tt

found-silent : (f : Option PduFault) (k : Option PduKind) (l : Level) (octets : List ℕ) → k ≡ Some (kind.LanHello l) → (by : Config) (on : Circuit) (from : Envelope) → IsSilent (read_pdu by on from octets (decoded_by f k octets))
found-silent (Some fault) k l octets e by on from = tt
found-silent None k l octets e by on from =
    subst (λ (k : Option PduKind). IsSilent (read_pdu by on from octets (decoded_by None k octets))) (sym e)
    (refused-silent _ (LanHelloHeard l _) tt)

-- the type of a LAN hello
lan-kind : (config : Config) (place : ℕ) (c : Circuit) (l : Level) (lan : ℕ) (snpas : List ℕ) → kind_at (pdu_octets config place c (LanHello l lan snpas)) ≡ Some (kind.LanHello l)
unfolding pdu_octets signed kind_of_number
lan-kind config place c level.One lan snpas = refl
lan-kind config place c level.Two lan snpas = refl

pub lan-silent : (by config : Config) (on c : Circuit) (boot place : ℕ) → boot < 2 ^ 32 → (l : Level) (lan : ℕ) (snpas : List ℕ) → config.system < 2 ^ 48 → IsSilent (read by on (datagram config boot place c (LanHello l lan snpas)))
unfolding read decoded
lan-silent by config on c boot place low_boot l lan snpas small =
    let octets = pdu_octets config place c (LanHello l lan snpas) in
    subst (λ (parts : Result (Envelope × List ℕ) DropName). IsSilent (read_frame by on parts)) (sym (unframed-reads_back config.system boot octets small low_boot))
    (found-silent (first_fault octets) (kind_at octets) l octets (lan-kind config place c l lan snpas) by on (record { snpa = config.system; boot = boot }))
