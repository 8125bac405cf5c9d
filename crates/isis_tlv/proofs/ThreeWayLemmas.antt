-- A three-way value that is written reads as that value.
use Rattle.std.proofs.Common.{◌≡◌, ℕ, List, [], ◌∷◌, Option, Some, None, Ok, refl, ap, ◌∙◌}
use Rattle.std.specs.Prelude.{option_and_then}
use Rattle.std.specs.Option.{ok_or}
use Rattle.isis_base.specs.declared.identifiers.SystemId.{SystemId}
use Rattle.isis_tlv.specs.declared.fault.ValueFault.{ValueFault}
use Rattle.isis_tlv.specs.declared.three_way.ThreeWay.{ThreeWay}
use Rattle.isis_tlv.specs.declared.three_way.Adj.{Adj}
use Rattle.isis_tlv.specs.declared.three_way.Adj.TheVariants.{Down, Initializing, Up}
use Rattle.isis_tlv.specs.Items.{state_of, parts_at, three_way_of}
use Rattle.isis_tlv.specs.Spelling.{state_octet, three_way_octets}
use Rattle.isis_tlv.specs.Fits.{IsThreeWay}
use Rattle.isis_tlv.proofs.RoundLemmas.{of-six, four-reads_back}

state-reads_back : (state : Adj) → state_of (state_octet state) ≡ Some state
state-reads_back Up = refl
state-reads_back Initializing = refl
state-reads_back Down = refl

read-state : (octets : List ℕ) (state : Adj) → ok_or (option_and_then (parts_at octets) (state_of (state_octet state))) (record { place = 0 }) ≡ ok_or {E = ValueFault} (parts_at octets state) (record { place = 0 })
read-state octets state = ap (λ (found : Option Adj). ok_or {E = ValueFault} (option_and_then (parts_at octets) found) (record { place = 0 })) (state-reads_back state)

abbrev parts : Adj → Option ℕ → Option (SystemId × ℕ) → ThreeWay
parts state own_id neighbour = record { state = state; own_id = own_id; neighbour = neighbour }

by-parts : (state : Adj) (own_id : Option ℕ) (neighbour : Option (SystemId × ℕ)) → IsThreeWay (parts state own_id neighbour) → three_way_of (three_way_octets (parts state own_id neighbour)) ≡ Ok (parts state own_id neighbour)
by-parts state None None is = read-state (state_octet state ∷ []) state
by-parts state (Some id) None is =
    read-state (three_way_octets (parts state (Some id) None)) state
    ∙ ap (λ (n : ℕ). Ok (parts state (Some n) None)) (four-reads_back id is.own_id)
by-parts state None (Some heard) is = let both = is.both refl in cc
by-parts state (Some id) (Some heard) is =
    of-six (λ s. three_way_of (three_way_octets (parts state (Some id) (Some (record { 0 = s }, heard.1)))) ≡ Ok (parts state (Some id) (Some (record { 0 = s }, heard.1))))
    (λ a b c d e f.
    let system : SystemId = record { 0 = a ∷ b ∷ c ∷ d ∷ e ∷ f ∷ [] } in
    read-state (three_way_octets (parts state (Some id) (Some (system, heard.1)))) state
    ∙ (λ i. Ok (parts state (Some (four-reads_back id is.own_id i)) (Some (system, four-reads_back heard.1 is.neighbour.1 i)))))
    heard.0.0 is.neighbour.0

pub three_way-reads_back : (value : ThreeWay) → IsThreeWay value → three_way_of (three_way_octets value) ≡ Ok value
three_way-reads_back value is = by-parts value.state value.own_id value.neighbour is
