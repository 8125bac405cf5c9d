-- The pieces of a PDU are the octets that its digest is taken of.
use Rattle.std.proofs.Common.{◌≡◌, ◌∙◌, ℕ, ◌+◌, ◌-◌, ◌≤◌, List, [], ◌++◌, length, take, drop, replicate, Bool, true, false, cond, sym, ap, arith, append-nil}
use Rattle.std.proofs.lemmas.List.{take-take, take-append-le, drop-append-le, drop-take, take_rest, length-take-le}
use Rattle.hmac_auth.specs.Pdus.{is_lsp, with_piece, zeroed, blanked}

-- octets written into the front of a list
with_piece-front : (place n : ℕ) (piece xs ys : List ℕ) → place + length piece ≤ n → n ≤ length xs → with_piece place piece (take n xs ++ ys) ≡ take place xs ++ (piece ++ (take (n - (place + length piece)) (drop (place + length piece) xs) ++ ys))
with_piece-front place n piece xs ys end within =
    let long : length (take n xs) ≡ n = length-take-le n xs within in
    let size : place + length piece + (n - (place + length piece)) ≡ n = omega arith in
    let front : take place (take n xs ++ ys) ≡ take place xs = take-append-le place (take n xs) ys (omega arith) ∙ take-take place n xs (omega arith) in
    let back : drop (place + length piece) (take n xs ++ ys) ≡ take (n - (place + length piece)) (drop (place + length piece) xs) ++ ys =
    drop-append-le (place + length piece) (take n xs) ys (omega arith)
    ∙ ap (λ (m : ℕ). drop (place + length piece) (take m xs) ++ ys) (sym size)
    ∙ ap (λ (zs : List ℕ). zs ++ ys) (drop-take (place + length piece) (n - (place + length piece)) xs) in
    λ i. front i ++ (piece ++ back i)

-- the pieces of the message of a PDU that is no LSP
pub blanked-other : (pdu : List ℕ) (place : ℕ) → is_lsp pdu ≡ false → take place pdu ++ (replicate 16 0 ++ (take (length pdu - (place + 16)) (drop (place + 16) pdu) ++ [])) ≡ blanked pdu place
unfolding blanked
blanked-other pdu place other =
    ap (λ (rest : List ℕ). take place pdu ++ (replicate 16 0 ++ rest)) (append-nil _ ∙ take_rest pdu (place + 16))
    ∙ sym (ap (λ (lsp : Bool). cond lsp (zeroed 10 2 (zeroed 24 2 (zeroed place 16 pdu))) (zeroed place 16 pdu)) other)

-- the pieces of the message of an LSP
pub blanked-lsp : (pdu : List ℕ) (place : ℕ) → is_lsp pdu ≡ true → 26 ≤ place → place + 16 ≤ length pdu → take 10 pdu ++ (replicate 2 0 ++ (take 12 (drop 12 pdu) ++ (replicate 2 0 ++ (take (place - 26) (drop 26 pdu) ++ (replicate 16 0 ++ (take (length pdu - (place + 16)) (drop (place + 16) pdu) ++ [])))))) ≡ blanked pdu place
unfolding blanked
blanked-lsp pdu place lsp behind within =
    let tail : List ℕ = replicate 16 0 ++ drop (place + 16) pdu in
    let middle : List ℕ = replicate 2 0 ++ (take (place - 26) (drop 26 pdu) ++ tail) in
    ap (λ (rest : List ℕ). take 10 pdu ++ (replicate 2 0 ++ (take 12 (drop 12 pdu) ++ (replicate 2 0 ++ (take (place - 26) (drop 26 pdu) ++ (replicate 16 0 ++ rest)))))) (append-nil _ ∙ take_rest pdu (place + 16))
    ∙ sym (with_piece-front 10 24 (replicate 2 0) pdu middle (omega arith) (omega arith))
    ∙ ap (zeroed 10 2) (sym (with_piece-front 24 place (replicate 2 0) pdu tail (omega arith) (omega arith)))
    ∙ sym (ap (λ (t : Bool). cond t (zeroed 10 2 (zeroed 24 2 (zeroed place 16 pdu))) (zeroed place 16 pdu)) lsp)
