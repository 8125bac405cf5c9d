-- The checksum that an LSP is written with holds.
use Rattle.std.proofs.Common.{◌≡◌, ℕ, ◌+◌, ◌-◌, ◌*◌, ◌/◌, ◌%◌, ◌<◌, ◌≤◌, List, length, refl, sym, ap, subst, arith, length-drop}
use Rattle.iso_checksum.specs.Checksum.{octet_sum, weighted_sum, Holds, with_pair, IsCheckOctet}
use Rattle.iso_checksum.proofs.FillLemmas.{Holds-with_pair}
use Rattle.model_datagram.specs.CheckOctets.{first_check, second_check, checksum_with}

-- the second, of weight k, makes up what the first leaves
weighted-rest : (p w k x y : ℕ) → p < 255 → x ≡ 255 - (w + k * (255 - p)) % 255 → (p + x + y) % 255 ≡ 0 → (w + (k + 1) * x + k * y) % 255 ≡ 0
weighted-rest p w k x y small e plain =
    let times : k * (p + x + y) ≡ k * (255 * ((p + x + y) / 255)) = ap (λ n. k * n) (omega arith) in
    let parts : k * (255 - p + p) ≡ k * 255 = ap (λ n. k * n) (omega arith) in
    omega arith

pub high-check : (plain weighted weight : ℕ) → IsCheckOctet (first_check plain weighted weight)
high-check plain weighted weight = (omega arith, omega arith)

pub low-check : (plain first : ℕ) → IsCheckOctet (second_check plain first)
low-check plain first = (omega arith, omega arith)

module _ (octets : List ℕ) (weight : ℕ) where
  abbrev high : ℕ
  high = first_check (octet_sum octets) (weighted_sum octets) weight

  abbrev low : ℕ
  low = second_check (octet_sum octets) high

  pub checksum-parts : (checksum_with octets weight / 256 ≡ high) × (checksum_with octets weight % 256 ≡ low)
  unfolding checksum_with
  checksum-parts =
      let fits = (low-check (octet_sum octets) high).1 in
      (omega arith, omega arith)

  pub checksum-in_range : (0 < checksum_with octets weight) × (checksum_with octets weight < 65536)
  unfolding checksum_with
  checksum-in_range =
      let fits = (low-check (octet_sum octets) high).1 in
      let some = (high-check (octet_sum octets) (weighted_sum octets) weight).0 in
      let top = (high-check (octet_sum octets) (weighted_sum octets) weight).1 in
      (omega arith, omega arith)

-- written into octets that have 0 in its place it holds
pub checksum-holds : (octets : List ℕ) (place : ℕ) → place + 2 ≤ length octets → with_pair octets place 0 0 ≡ octets → (weight : ℕ) → weight + place + 1 ≡ length octets → Holds (with_pair octets place (checksum_with octets weight / 256) (checksum_with octets weight % 256))
checksum-holds octets place within blank weight size =
    let parts = checksum-parts octets weight in
    let p = octet_sum octets in
    let w = weighted_sum octets in
    let x = first_check p w weight in
    let y = second_check p x in
    let rest = length-drop (place + 2) octets in
    let plain : (p + x + y) % 255 ≡ 0 = omega arith in
    let weighted : (w + (weight + 1) * x + weight * y) % 255 ≡ 0 = weighted-rest (p % 255) w weight x y (omega arith) refl (omega arith) in
    subst (λ (it : ℕ × ℕ). Holds (with_pair octets place it.0 it.1)) (λ i. (sym parts.0 i, sym parts.1 i))
    (Holds-with_pair octets place weight x y (omega arith)
    (subst (λ (s : List ℕ). (octet_sum s + x + y) % 255 ≡ 0) (sym blank) plain)
    (subst (λ (s : List ℕ). (weighted_sum s + (weight + 1) * x + weight * y) % 255 ≡ 0) (sym blank) weighted))
