-- Whether some time ends, by how many stay.
use Rattle.std.proofs.Common.{◌≡◌, ℕ, ◌≤◌, nat_lt, List, [], ◌∷◌, length, take, refl, sym, ap, ◌∙◌, arith}
use Rattle.std.proofs.lemmas.Bool.Decides.{nat_tests}
use Rattle.std.proofs.lemmas.List.{length-take-le}
use Rattle.adjacency.specs.declared.neighbour.Neighbour.{Neighbour}
use Rattle.adjacency.specs.Inside.{all_less, some_ended}

-- some end exactly where fewer stay
pub fewer-where_ended : (ns : List Neighbour) → some_ended ns ≡ nat_lt (length (all_less ns)) (length ns)
fewer-where_ended ns = (fewer ns).1 where
  fewer : (ns : List Neighbour) → (length (all_less ns) ≤ length ns) × (some_ended ns ≡ nat_lt (length (all_less ns)) (length ns))
  fewer [] = (omega arith, refl)
  fewer (n ∷ ns) = let h = fewer ns in (grind (arith, nat_tests, h.0), grind (arith, nat_tests, h.0, h.1))

-- by the front that was kept
pub ended-where_kept : (old new : List Neighbour) (kept len : ℕ) → take kept new ≡ all_less old → kept ≤ length new → len ≡ length old → nat_lt kept len ≡ some_ended old
ended-where_kept old new kept len front within same =
    let stay : length (all_less old) ≡ kept = sym (ap length front) ∙ length-take-le kept new within in
    rw (← stay, same) (sym (fewer-where_ended old))
