-- A PDU that was read is a header of its type and TLVs.
use Rattle.std.proofs.Common.{◌≡◌, ℕ, ◌+◌, ◌-◌, ◌%◌, List, take, drop, get_or, sym, ap, subst, ◌∙◌, arith}
use Rattle.std.proofs.lemmas.List.{length-take-le, drop-take, get_or-take}
use Rattle.std.specs.Option.{option_map}
use Rattle.isis_base.specs.PduKinds.{type_number, kind_of_number, header_length}
use Rattle.isis_tlv.specs.Framed.{IsPdu}
use Rattle.isis_tlv.specs.Tlvs.{AreTlvs}
use Rattle.isis_pdu.specs.Layout.{kind_of, body_at, value_at}
use Rattle.isis_pdu.specs.Reading.{Begins}
use Rattle.isis_pdu.specs.Views.{PduView, tlvs_of_pdu}
use Rattle.isis_pdu.proofs.ReadLemmas.{kind-reads_back, header-least, tlvs-of_value}

pub framed : (octets : List ℕ) (pdu : PduView) (n : ℕ) → Begins octets pdu n → IsPdu (take n octets) (header_length (kind_of pdu))
framed octets pdu n (reads, within) =
    let kind = kind_of pdu in
    let header = header_length kind in
    let least = reads.least in
    let some = header-least kind in
    let same : get_or (take n octets) 4 0 % 32 ≡ type_number kind = ap (λ (m : ℕ). m % 32) (get_or-take n octets 4 0 (omega arith)) ∙ reads.kind in
    let body : tlvs_of_pdu pdu ≡ body_at kind octets n = ap tlvs_of_pdu (sym reads.value) ∙ tlvs-of_value kind octets (body_at kind octets n) in
    record {
      kind = ap (λ (m : ℕ). option_map header_length (kind_of_number m)) same ∙ ap (option_map header_length) (kind-reads_back kind);
      within = let whole = length-take-le n octets within in omega (arith, whole);
      tlvs = subst AreTlvs (body ∙ sym (drop-take header (n - header) octets) ∙ ap (λ (m : ℕ). drop header (take m octets)) (let all : header + (n - header) ≡ n = omega arith in all)) reads.tlvs;
    }
