-- Whom a hello names that was read has a name of the standard's size.
use Rattle.std.proofs.Common.{◌≡◌, ℕ, ◌+◌, ◌-◌, ◌^◌, ◌<◌, ◌==◌, List, [], ◌∷◌, ◌++◌, length, take, drop, get_or, Bool, true, false, Option, Some, None, IfSome, Result, Ok, Err, if◌then◌else◌, subst, arith}
use Rattle.std.specs.List.{AllByRecursion, flat_map}
use Rattle.std.specs.Option.{ok_or, option_and_then, unwrap_or}
use Rattle.std.specs.Result.{ok_prefix}
use Rattle.isis_base.specs.declared.pdu_kind.PduKind.{PduKind}
use Rattle.isis_base.specs.declared.pdu_kind.PduKind.TheVariants as kind
use Rattle.isis_base.specs.Fields.{u32_at, system_at}
use Rattle.isis_base.specs.PduKinds.{kind_at}
use Rattle.isis_tlv.specs.declared.fault.ValueFault.{ValueFault}
use Rattle.isis_tlv.specs.declared.three_way.ThreeWay.{ThreeWay}
use Rattle.isis_tlv.specs.declared.three_way.Adj.{Adj}
use Rattle.isis_tlv.specs.Tlvs.{TlvView, StandsIn, tlv_list}
use Rattle.isis_tlv.specs.Items.{parts_at, state_of, three_way_of}
use Rattle.isis_tlv.proofs.TlvLemmas.{tlvs-stand}
use Rattle.isis_pdu.specs.Layout.{length_at, body_at, value_at}
use Rattle.isis_pdu.specs.Table as table
use Rattle.model_router.specs.Configs.{Config}
use Rattle.model_router.specs.Routers.{Circuit}
use Rattle.model_router.specs.Events.{Envelope, Message, Refused, PointHelloHeard, LanHelloHeard, LspHeard, SnpHeard}
use Rattle.model_router.specs.Numbers.{u48_of}
use Rattle.model_datagram.specs.Values.{items_if, items_in, handshakes_in, first_handshake}
use Rattle.model_datagram.specs.Tests.{first_failing, tests_of}
use Rattle.model_datagram.specs.Reading.{message, read}
use Rattle.model_datagram.proofs.GoodLemmas.{Small, small-at, small-take, small-drop, of-read}

-- a hello's source and extended circuit ID
abbrev pub HasNames : Message → Type 0
HasNames (Refused cause) = Unit {0}
HasNames (PointHelloHeard h) = (h.source < 2 ^ 48) × IfSome h.handshake (λ s. s.extended < 2 ^ 32)
HasNames (LanHelloHeard l h) = Unit {0}
HasNames (LspHeard l from h) = Unit {0}
HasNames (SnpHeard l from source range entries) = Unit {0}

six-small : (octets : List ℕ) → Small octets → u48_of octets < 2 ^ 48
six-small octets small =
    let a = small-at octets 0 small in
    let b = small-at octets 1 small in
    let c = small-at octets 2 small in
    let d = small-at octets 3 small in
    let e = small-at octets 4 small in
    let f = small-at octets 5 small in
    omega arith

four-small : (octets : List ℕ) → Small octets → u32_at 1 octets < 2 ^ 32
four-small octets small =
    let a = small-at octets 1 small in
    let b = small-at octets 2 small in
    let c = small-at octets 3 small in
    let d = small-at octets 4 small in
    omega arith

abbrev IsShake : Result ThreeWay ValueFault → Type 0
IsShake (Ok value) = unwrap_or value.own_id 0 < 2 ^ 32
IsShake (Err fault) = Unit {0}

zero-small : 0 < 2 ^ 32
zero-small = omega arith

three-small : (octets : List ℕ) → Small octets → IsShake (three_way_of octets)
three-small octets small = on (state_of (get_or octets 0 0))
  where
    by : (state : Adj) (a b c : Bool) → IsShake (ok_or (if a then Some (record { state = state; own_id = None; neighbour = None }) else (if b then Some (record { state = state; own_id = Some (u32_at 1 octets); neighbour = None }) else (if c then Some (record { state = state; own_id = Some (u32_at 1 octets); neighbour = Some (system_at 5 octets, u32_at 11 octets) }) else None))) (record { place = 0 }))
    by state true b c = zero-small
    by state false true c = four-small octets small
    by state false false true = four-small octets small
    by state false false false = tt

    on : (o : Option Adj) → IsShake (ok_or (option_and_then (parts_at octets) o) (record { place = 0 }))
    on None = tt
    on (Some state) = by state (length octets == 1) (length octets == 5) (length octets == 15)

one-shake : (test : Bool) (octets : List ℕ) → Small octets → AllByRecursion IsShake (if test then three_way_of octets ∷ [] else [])
one-shake true octets small = (three-small octets small, tt)
one-shake false octets small = tt

all-both : {A : Type 0} (P : A → Type 0) (one two : List A) → AllByRecursion P one → AllByRecursion P two → AllByRecursion P (one ++ two)
all-both P [] two first second = second
all-both P (x ∷ one) two first second = (first.0, all-both P one two first.1 second)

tlvs-shake : (octets : List ℕ) (tlvs : List TlvView) → Small octets → AllByRecursion (StandsIn 0 octets) tlvs → AllByRecursion IsShake (flat_map (items_if 240 (λ value. three_way_of value ∷ [])) tlvs)
tlvs-shake octets [] small stand = tt
tlvs-shake octets (tlv ∷ tlvs) small stand =
    let there = tlv.place + 2 - 0 in
    let value : Small tlv.value = subst Small stand.0.value (small-take (length tlv.value) (drop there octets) (small-drop there octets small)) in
    all-both IsShake (items_if 240 (λ value. three_way_of value ∷ []) tlv) (flat_map (items_if 240 (λ value. three_way_of value ∷ [])) tlvs)
    (one-shake (tlv.code == 240) tlv.value value) (tlvs-shake octets tlvs small stand.1)

shakes-small : (octets : List ℕ) → Small octets → AllByRecursion IsShake (handshakes_in octets)
unfolding items_in
shakes-small octets small = tlvs-shake octets (tlv_list 0 octets) small (tlvs-stand octets 0)

first-shake : (items : List (Result ThreeWay ValueFault)) → AllByRecursion IsShake items → IfSome (first_handshake (ok_prefix items)) (λ s. s.extended < 2 ^ 32)
first-shake [] all = tt
first-shake (Ok value ∷ items) all = all.0
first-shake (Err fault ∷ items) all = tt

names-value : (by : Config) (on : Circuit) (from : Envelope) (octets : List ℕ) (kind : PduKind) → Small octets → table.first_fault octets ≡ None → kind_at octets ≡ Some kind → first_failing (tests_of by on (value_at kind octets (body_at kind octets (length_at kind octets))) (take (length_at kind octets) octets)) ≡ None → HasNames (message by.system from (value_at kind octets (body_at kind octets (length_at kind octets))) (take (length_at kind octets) octets))
names-value by on from octets (kind.LanHello level) small faultless known none = tt
names-value by on from octets kind.PointHello small faultless known none =
    let its = kind.PointHello in
    let body = body_at its octets (length_at its octets) in (
      six-small (take 6 (drop 9 octets)) (small-take 6 (drop 9 octets) (small-drop 9 octets small)),
      first-shake (handshakes_in body) (shakes-small body (small-take (length_at its octets - 20) (drop 20 octets) (small-drop 20 octets small))),
    )
names-value by on from octets (kind.Lsp level) small faultless known none = tt
names-value by on from octets (kind.Csnp level) small faultless known none = tt
names-value by on from octets (kind.Psnp level) small faultless known none = tt

pub names-read : (by : Config) (on : Circuit) (datagram : List ℕ) → Small datagram → HasNames (read by on datagram)
names-read by on = of-read HasNames (λ cause. tt) by on (names-value by on)
