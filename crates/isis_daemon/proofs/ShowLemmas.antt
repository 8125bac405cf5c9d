-- Lines of what an input is shown as, and how many TLVs there are.
use Rattle.std.proofs.Common.{◌≡◌, ℕ, zero, suc, ◌+◌, ◌≤◌, Bool, List, [], ◌∷◌, ◌++◌, length, Result, Ok, Err, arith, ap}
use Rattle.std.specs.Prelude.{◌==◌}
use Rattle.std.specs.Result.{ok_prefix}
use Rattle.std.proofs.lemmas.List.Splits.{length-slice_split}
use Rattle.std.proofs.lemmas.List.Sums.{count_by-le-length}
use Rattle.line_cuts.specs.Words.{lines_of}
use Rattle.isis_tlv.specs.Tlvs.{tlv_at, tlv_list}
use Rattle.isis_tlv.specs.Walks.{before, walk, items_of}
use Rattle.isis_daemon.specs.ShowText.{shown_line, shown_lines}

module _ {X F : Type 0} where
  length-before : (found : Result (X × ℕ) F) (after : ℕ → List (Result X F)) (n : ℕ) → ((count : ℕ) → length (ok_prefix (after count)) ≤ n) → length (ok_prefix (before found after)) ≤ suc n
  length-before (Ok found) after n few = omega (arith, few found.1)
  length-before (Err fault) after n few = omega arith

  length-walk : (first : ℕ → List ℕ → Result (X × ℕ) F) (n place : ℕ) (octets : List ℕ) → length (ok_prefix (walk first n place octets)) ≤ n
  length-walk first zero place octets = omega arith
  length-walk first (suc n) place [] = omega arith
  length-walk first (suc n) place (octet ∷ octets) =
      length-before (first place (octet ∷ octets)) _ n (λ count. length-walk first n (place + count) _)

-- there are no more TLVs than octets
pub length_tlv_list : (place : ℕ) (octets : List ℕ) → length (tlv_list place octets) ≤ length octets
unfolding items_of
length_tlv_list place octets = length-walk tlv_at (length octets) place octets

-- the next line is shown before those behind it
pub shown_lines-next : (long : Bool) (number : ℕ) (line : List ℕ) (lines all : List (List ℕ)) → all ≡ line ∷ lines → shown_lines long number all ≡ shown_line long number line ++ shown_lines long (number + 1) lines
unfolding shown_lines
shown_lines-next long number line lines all e = ap (shown_lines long number) e

-- behind the last line there is nothing
pub shown_lines-end : (long : Bool) (number : ℕ) (all : List (List ℕ)) → all ≡ [] → shown_lines long number all ≡ []
unfolding shown_lines
shown_lines-end long number all e = ap (shown_lines long number) e

-- a text has at most a line for each octet, and one
pub lines-few : (input : List ℕ) → length (lines_of input) ≤ length input + 1
lines-few input = omega (arith, length-slice_split (λ byte. byte == 10) input, count_by-le-length (λ byte. byte == 10) input)
