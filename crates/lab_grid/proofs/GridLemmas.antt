-- Texts of numbers in order: that of the first, and those behind it.
use Rattle.std.proofs.Common.{◌≡◌, ℕ, suc, ◌+◌, ◌-◌, ◌<◌, List, ◌∷◌, ◌++◌, arith, ap, sym, ◌∙◌, append_assoc}
use Rattle.std.specs.List.{flat_map, range_with_len}

pub range-turn : (from end : ℕ) → from < end → range_with_len from (end - from) ≡ from ∷ range_with_len (from + 1) (end - (from + 1))
range-turn from end below =
    let more : end - from ≡ suc (end - (from + 1)) = omega (arith, below) in
    ap (range_with_len from) more

-- the text of the first goes over to what is written
pub turn : (f : ℕ → List ℕ) (written new whole : List ℕ) (from end : ℕ) → from < end → written ++ flat_map f (range_with_len from (end - from)) ≡ whole → new ≡ written ++ f from → new ++ flat_map f (range_with_len (from + 1) (end - (from + 1))) ≡ whole
turn f written new whole from end below left more =
    let rest = flat_map f (range_with_len (from + 1) (end - (from + 1))) in
    ap (λ text. text ++ rest) more ∙ append_assoc written (f from) rest
    ∙ sym (ap (λ numbers. written ++ flat_map f numbers) (range-turn from end below)) ∙ left
