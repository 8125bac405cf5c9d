-- What is legible: that a receiver reads what was said, or refuses it by a test that needs no state
-- (own).
use Rattle.std.specs.Prelude.{◌≡◌, ℕ, ◌<◌, ◌⊎◌, Some}
use Rattle.std.specs.List.{AllByRecursion}
use Rattle.model_router.specs.declared.drop_name.DropName.{DropName}
use Rattle.model_router.specs.Places.{nth}
use Rattle.model_router.specs.Configs.{Config}
use Rattle.model_router.specs.Routers.{Circuit, Router}
use Rattle.model_router.specs.Datagrams.{Sent, PointHello, LanHello, Lsp, Csnp, Psnp}
use Rattle.model_router.specs.Events.{Message, Refused}
use Rattle.model_datagram.specs.Reading.{read}
use Rattle.model_datagram.specs.Said.{said}
use Rattle.model_datagram.specs.Speakers.{IsSpeaking}
use Rattle.model_network.specs.Networks.{Datagram, octets_of, Network}

-- a message is refused by a test that needs no state, or it is this one (own)
abbrev pub IsReading : Message → Message → Type 0
IsReading m says = ((cause : DropName) × (m ≡ Refused cause)) ⊎ (m ≡ says)

-- what is sent is no LAN hello (own)
abbrev pub NotLan : Sent → Type 0
NotLan (PointHello state extended names) = Unit {0}
NotLan (LanHello level lan snpas) = ⊥
NotLan (Lsp level id cell) = Unit {0}
NotLan (Csnp level start end entries) = Unit {0}
NotLan (Psnp level entries) = Unit {0}

-- whoever takes a datagram's octets, on whichever circuit, reads what was said, or refuses it (own)
abbrev pub IsLegible : Datagram → Type 0
IsLegible d = (by : Config) (on : Circuit)
    → IsReading (read by on (octets_of d)) (said by.system d.config d.boot d.place d.circuit d.says)

-- each router of a network (own)
abbrev pub AreSpeaking : Network → Type 0
AreSpeaking net = (i : ℕ) (r : Router) → nth net.routers i ≡ Some r → IsSpeaking r

-- the octets of each datagram are octets (own)
abbrev pub AreOctets : Network → Type 0
AreOctets net =
    AllByRecursion (λ (d : Datagram). AllByRecursion (λ octet. octet < 256) (octets_of d))
    net.datagrams
