-- The checksum that is written into an LSP's octets.
use Rattle.std.proofs.Common.{◌≡◌, ◌∙◌, ℕ, ◌+◌, ◌-◌, ◌*◌, ◌/◌, ◌%◌, ◌≤◌, List, ◌++◌, length, take, drop, get_or, refl, sym, ap, subst, arith, append-nil, take_all, length-drop}
use borrow.Rule.Slice.PartMut.{put_mid}
use Rattle.std.proofs.lemmas.List.{drop_all}
use Rattle.isis_base.specs.Fields.{u16_at}
use Rattle.iso_checksum.specs.Checksum.{Holds, with_pair, IsCheckOctet}
use Rattle.model_datagram.specs.CheckOctets.{checksum_with, with_checksum}
use Rattle.model_datagram.proofs.ListLemmas.{of-leading}
use Rattle.model_datagram.proofs.CheckLemmas.{checksum-holds}

-- the octets that a loan of the back leaves
pub whole-back : (octets new : List ℕ) → 12 ≤ length octets → put_mid 12 (length octets - 12) octets new ≡ take 12 octets ++ new
whole-back octets new long =
    let rest = length-drop 12 octets in
    ap (λ (back : List ℕ). take 12 octets ++ (new ++ back)) (drop_all (length octets - 12) (drop 12 octets) (omega (arith, rest)))
    ∙ ap (λ (back : List ℕ). take 12 octets ++ back) (append-nil new)

pub back-pair : (octets : List ℕ) (x y : ℕ) → 27 ≤ length octets → take 12 octets ++ with_pair (drop 12 octets) 12 x y ≡ with_pair octets 24 x y
back-pair octets x y = of-leading 27 (λ octets. take 12 octets ++ with_pair (drop 12 octets) 12 x y ≡ with_pair octets 24 x y)
    (λ a b c d e f g h j k l m o p q r s t u v w z aa bb cc' dd ee rest. refl) octets

pub back-word : (octets : List ℕ) (x y : ℕ) → 27 ≤ length octets → u16_at 24 (with_pair octets 24 x y) ≡ 256 * x + y
back-word octets x y = of-leading 27 (λ octets. u16_at 24 (with_pair octets 24 x y) ≡ 256 * x + y)
    (λ a b c d e f g h j k l m o p q r s t u v w z aa bb cc' dd ee rest. refl) octets

-- what stands behind the ID with 0 in the checksum's place
pub back-blank : (octets : List ℕ) → 27 ≤ length octets → with_checksum 24 0 octets ≡ octets → with_checksum 12 0 (drop 12 octets) ≡ drop 12 octets
back-blank octets = of-leading 27 (λ octets. with_checksum 24 0 octets ≡ octets → with_checksum 12 0 (drop 12 octets) ≡ drop 12 octets)
    (λ a b c d e f g h j k l m o p q r s t u v w z aa bb cc' dd ee rest is. ap (drop 12) is) octets

module _ (octets new : List ℕ) (long : 27 ≤ length octets) (blank : with_checksum 24 0 octets ≡ octets) where
  abbrev summed : List ℕ
  summed = drop 12 octets

  abbrev lent : List ℕ
  lent = take (length octets - 12) summed

  abbrev weight : ℕ
  weight = length octets - 25

  abbrev sum : ℕ
  sum = checksum_with summed weight

  module _ (first : IsCheckOctet (sum / 256)) (second : IsCheckOctet (sum % 256))
      (others : new ≡ with_pair lent 12 (get_or new 12 0) (get_or new 13 0))
      (only : (x y : ℕ) → IsCheckOctet x → IsCheckOctet y → Holds (with_pair lent 12 x y) → (x ≡ get_or new 12 0) × (y ≡ get_or new 13 0)) where
    pub sum-written : put_mid 12 (length octets - 12) octets new ≡ with_checksum 24 sum octets
    sum-written =
        let rest = length-drop 12 octets in
        let whole : lent ≡ summed = take_all (length octets - 12) summed (omega (arith, rest)) in
        let holds = checksum-holds summed 12 (omega (arith, rest)) (back-blank octets long blank) weight (omega (arith, rest)) in
        let both = only (sum / 256) (sum % 256) first second (subst (λ (xs : List ℕ). Holds (with_pair xs 12 (sum / 256) (sum % 256))) (sym whole) holds) in
        whole-back octets new (omega arith)
        ∙ ap (λ (back : List ℕ). take 12 octets ++ back) (others ∙ (λ i. with_pair (whole i) 12 (sym both.0 i) (sym both.1 i)))
        ∙ back-pair octets (sum / 256) (sum % 256) long

    pub sum-read : u16_at 24 (put_mid 12 (length octets - 12) octets new) ≡ sum
    sum-read = ap (u16_at 24) sum-written ∙ back-word octets (sum / 256) (sum % 256) long ∙ omega arith
