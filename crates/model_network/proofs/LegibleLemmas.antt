-- What a router sends is legible to whoever takes it.
use Rattle.std.proofs.Common.{◌≡◌, ℕ, ◌^◌, ◌<◌, Bool, true, false, inl, inr, List, Option, Some, None, Result, Ok, Err, IfSome, refl, ap, ◌∙◌, subst, arith}
use Rattle.isis_base.specs.declared.level.Level.TheVariants as level
use Rattle.isis_pdu.specs.declared.fault.PduFault.{PduFault}
use Rattle.isis_pdu.specs.Views.{PduView}
use Rattle.isis_pdu.specs.Decoded.{decoded}
use Rattle.std.specs.Prelude.{take}
use Rattle.model_router.specs.declared.drop_name.DropName.{DropName}
use Rattle.model_router.specs.declared.drop_name.DropName.TheVariants as drop
use Rattle.model_router.specs.Configs.{Config}
use Rattle.model_router.specs.Routers.{Circuit, Router, extended_of}
use Rattle.model_router.specs.Datagrams.{Sent, PointHello, LanHello, Lsp, Csnp, Psnp}
use Rattle.model_router.specs.Events.{Envelope, Message, Refused, PointHelloHeard, LanHelloHeard, LspHeard, SnpHeard}
use Rattle.model_router.specs.AdjacencyLaws.{Bond, bond_at, IsGreeting}
use Rattle.model_datagram.specs.Frames.{unframed}
use Rattle.model_datagram.specs.Tests.{tests_of, first_failing}
use Rattle.model_datagram.specs.Reading.{message, refused_or, read_pdu, read_frame, read}
use Rattle.model_datagram.specs.Datagrams.{datagram}
use Rattle.model_datagram.specs.Said.{said, ReadsBack, kind_sent, CanRead}
use Rattle.model_datagram.specs.Senders.{IsHandshake}
use Rattle.model_datagram.specs.LspLaws.{ReadsUpdate}
use Rattle.model_datagram.proofs.HelloLemmas.{point-reads}
use Rattle.model_datagram.specs.Speakers.{IsSpeaking, IsName}
use Rattle.model_network.specs.Speakers.{IsReading, NotLan}

-- ---- a reader that can read it reads what any reader reads, but for what that refuses

-- a reader with the sender's keys, and a circuit of its kind with its key
abbrev able : Config → Config → Config
able by config = record by { runs = record { one = true; two = true }; keys = config.keys }

abbrev able_on : Circuit → Circuit → Circuit
able_on on c = record on { lan = false; key = c.key }

abbrev is_refused : Message → Bool
is_refused (Refused cause) = true
is_refused (PointHelloHeard h) = false
is_refused (LanHelloHeard l h) = false
is_refused (LspHeard l snpa h) = false
is_refused (SnpHeard l snpa source range entries) = false

not-refused : (own : ℕ) (config : Config) (boot place : ℕ) (c : Circuit) (s : Sent) → is_refused (said own config boot place c s) ≡ false
not-refused own config boot place c (PointHello state extended names) = refl
not-refused own config boot place c (LanHello l lan snpas) = refl
not-refused own config boot place c (Lsp l id cell) = refl
not-refused own config boot place c (Csnp l start end entries) = refl
not-refused own config boot place c (Psnp l entries) = refl

by-tests : (mine its : Option DropName) (m says : Message) → is_refused says ≡ false → refused_or its m ≡ says → IsReading (refused_or mine m) says
by-tests (Some cause) its m says n e = inl (cause, refl)
by-tests None None m says n e = inr e
by-tests None (Some cause) m says n e = absurd (let clash : true ≡ false = ap is_refused e ∙ n in cc)

by-decoded : (by config : Config) (on c : Circuit) (from : Envelope) (octets : List ℕ) (found : Result (PduView × ℕ) PduFault) (says : Message) → is_refused says ≡ false
    → read_pdu (able by config) (able_on on c) from octets found ≡ says → IsReading (read_pdu by on from octets found) says
by-decoded by config on c from octets (Err fault) says n e = inl (drop.Pdu, refl)
by-decoded by config on c from octets (Ok found) says n e =
    by-tests (first_failing (tests_of by on found.0 (take found.1 octets))) (first_failing (tests_of (able by config) (able_on on c) found.0 (take found.1 octets))) (message by.system from found.0 (take found.1 octets)) says n e

by-frame : (by config : Config) (on c : Circuit) (parts : Result (Envelope × List ℕ) DropName) (says : Message) → is_refused says ≡ false → read_frame (able by config) (able_on on c) parts ≡ says → IsReading (read_frame by on parts) says
by-frame by config on c (Err cause) says n e = inl (cause, refl)
by-frame by config on c (Ok parts) says n e = by-decoded by config on c parts.0 parts.1 (decoded parts.1) says n e

read-by : (by config : Config) (on c : Circuit) (octets : List ℕ) (says : Message) → is_refused says ≡ false → read (able by config) (able_on on c) octets ≡ says → IsReading (read by on octets) says
unfolding read
read-by by config on c octets says n e = by-frame by config on c (unframed octets) says n e

legible-back : (by config : Config) (on c : Circuit) (boot place : ℕ) (s : Sent) → ReadsBack (able by config) (able_on on c) config boot place c s → IsReading (read by on (datagram config boot place c s)) (said by.system config boot place c s)
legible-back by config on c boot place s back = read-by by config on c (datagram config boot place c s) (said by.system config boot place c s) (not-refused by.system config boot place c s) back

-- ---- it can

can : (by config : Config) (on c : Circuit) (s : Sent) → NotLan s → CanRead (able by config) (able_on on c) config c (kind_sent s)
can by config on c (PointHello state extended names) n = record { goes = refl; runs = refl; key = refl }
can by config on c (LanHello l lan snpas) n = absurd n
can by config on c (Lsp level.One id cell) n = record { goes = refl; runs = refl; key = refl }
can by config on c (Lsp level.Two id cell) n = record { goes = refl; runs = refl; key = refl }
can by config on c (Csnp level.One start end entries) n = record { goes = refl; runs = refl; key = refl }
can by config on c (Csnp level.Two start end entries) n = record { goes = refl; runs = refl; key = refl }
can by config on c (Psnp level.One entries) n = record { goes = refl; runs = refl; key = refl }
can by config on c (Psnp level.Two entries) n = record { goes = refl; runs = refl; key = refl }

-- ---- hellos

small-own : (boot place : ℕ) → boot < 2 ^ 24 → place < 255 → extended_of boot place < 2 ^ 32
small-own boot place b p = omega (arith, b, p)

pub small-boot : (boot : ℕ) → boot < 2 ^ 24 → boot < 2 ^ 32
small-boot boot b = omega (arith, b)

-- whom a greeting names has a name of the standard's size
named-so : (o p : Option (ℕ × ℕ)) → o ≡ p → IfSome o IsName → IfSome p (λ name. (name.0 < 2 ^ 48) × (name.1 < 2 ^ 32))
named-so o p e h = subst (λ (x : Option (ℕ × ℕ)). IfSome x IsName) e h

-- ---- each of them

pub legible-sent : (t : Router) (place : ℕ) (c : Circuit) (s : Sent) → IsSpeaking t → place < 255 → NotLan s → IsGreeting t place s
    → ((by : Config) (on : Circuit) → ReadsUpdate by on t.config t.boot place c s)
    → (by : Config) (on : Circuit) → IsReading (read by on (datagram t.config t.boot place c s)) (said by.system t.config t.boot place c s)
legible-sent t place c (PointHello state extended names) speaks few n greets updates by on =
    let shake : IsHandshake extended names = record {
      own = rw greets.1 (small-own t.boot place speaks.boot few);
      other = named-so (bond_at t place).names names (ap (λ (b : Bond). b.names) greets.0) (speaks.names place);
    } in
    legible-back by t.config on c t.boot place (PointHello state extended names)
    (point-reads (able by t.config) t.config (able_on on c) c t.boot place (small-boot t.boot speaks.boot) state extended names speaks.sender shake (can by t.config on c (PointHello state extended names) n))
legible-sent t place c (LanHello l lan snpas) speaks few n greets updates by on = absurd n
legible-sent t place c (Lsp l id cell) speaks few n greets updates by on =
    legible-back by t.config on c t.boot place (Lsp l id cell) (updates (able by t.config) (able_on on c) refl (can by t.config on c (Lsp l id cell) n))
legible-sent t place c (Csnp l start end entries) speaks few n greets updates by on =
    legible-back by t.config on c t.boot place (Csnp l start end entries) (updates (able by t.config) (able_on on c) refl (can by t.config on c (Csnp l start end entries) n))
legible-sent t place c (Psnp l entries) speaks few n greets updates by on =
    legible-back by t.config on c t.boot place (Psnp l entries) (updates (able by t.config) (able_on on c) refl (can by t.config on c (Psnp l entries) n))
