-- How the octets of an area address lie in its value (own).
use Rattle.std.specs.Prelude.{◌≡◌, ℕ, ◌-◌, ◌≤◌, List, ◌++◌, length, take, drop, replicate}
use Rattle.std.proofs.Common.{sym, ap, ◌∙◌, arith}
use Rattle.std.proofs.lemmas.List.{length-take-le, take-append-drop}

-- the first octets of the 13, 1 to 13 of them, and zeros behind
pub record IsPadded (count : ℕ) (octets : List ℕ) : Type 0 where
  pub some : 1 ≤ count
  pub fits : count ≤ 13
  pub whole : length octets ≡ 13
  pub zeros : drop count octets ≡ replicate (13 - count) 0

-- octets with zeros behind, 13 in all
abbrev pub zero_padded : List ℕ → List ℕ
zero_padded octets = octets ++ replicate (13 - length octets) 0

-- the octets in front and the zeros are the 13 again
pub zero_padded-whole : (count : ℕ) (octets : List ℕ) → IsPadded count octets
    → (length (take count octets) ≡ count) × (zero_padded (take count octets) ≡ octets)
zero_padded-whole count octets h =
    let within : count ≤ length octets = omega (arith, h.whole, h.fits) in
    let taken = length-take-le count octets within in
    let first = ap (λ (n : ℕ). take count octets ++ replicate (13 - n) 0) taken in
    let zeros = ap (λ (zeros : List ℕ). take count octets ++ zeros) (sym h.zeros) in
    (taken, first ∙ zeros ∙ take-append-drop count octets)
