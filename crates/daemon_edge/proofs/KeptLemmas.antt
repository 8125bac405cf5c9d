-- Datagrams that lie one behind another.
use Rattle.std.proofs.Common.{◌≡◌, ◌∙◌, ◌⊎◌, inl, inr, ℕ, zero, suc, ◌+◌, ◌-◌, ◌<◌, ◌≤◌, nat_le, ◌&&◌, Bool, true, false, List, [], ◌∷◌, ◌++◌, length, take, drop, refl, sym, ap, arith}
use Rattle.std.proofs.Math.Seq.{take-length}
use Rattle.std.proofs.lemmas.Bool.{le-ltb, lt-ltb, le-leb, lt-leb}
use Rattle.std.proofs.lemmas.List.{length-drop, length-take-le, take-append-le, drop-append-le}
use Rattle.daemon_edge.specs.Kept.{sum_of, octets_in, parts, has_room}

-- as many parts as lengths
pub length-parts : (ns xs : List ℕ) → length (parts ns xs) ≡ length ns
length-parts [] xs = refl
length-parts (n ∷ ns) xs = ap suc (length-parts ns (drop n xs))

-- what is left behind a part has the other lengths
pub sum_left : (n : ℕ) (ns xs : List ℕ) → sum_of (n ∷ ns) ≡ length xs → sum_of ns ≡ length (drop n xs)
sum_left n ns xs e = let b = length-drop n xs in omega (arith, e, b)

-- the parts have all octets
pub octets-parts : (ns xs : List ℕ) → sum_of ns ≡ length xs → octets_in (parts ns xs) ≡ length xs
octets-parts [] xs e = e
octets-parts (n ∷ ns) xs e =
    let first = length-take-le n xs (omega (arith, e)) in
    let rest = octets-parts ns (drop n xs) (sum_left n ns xs e) in
    let behind = length-drop n xs in
    omega (arith, e, first, rest, behind)

-- one length more
pub sum-more : (ns : List ℕ) (n : ℕ) → sum_of (ns ++ n ∷ []) ≡ sum_of ns + n
sum-more [] n = omega arith
sum-more (m ∷ ns) n = let e = sum-more ns n in omega (arith, e)

-- one datagram more
pub parts-more : (ns xs d : List ℕ) → sum_of ns ≡ length xs → parts (ns ++ length d ∷ []) (xs ++ d) ≡ parts ns xs ++ d ∷ []
parts-more [] [] d e = ap (λ (z : List ℕ). z ∷ []) (take-length d)
parts-more [] (x ∷ xs) d e = absurd (omega (arith, e))
parts-more (n ∷ ns) xs d e =
    let fits : n ≤ length xs = omega (arith, e) in
    ap (λ (z : List ℕ). z ∷ parts (ns ++ length d ∷ []) (drop n (xs ++ d))) (take-append-le n xs d fits)
    ∙ ap (λ (z : List ℕ). take n xs ∷ parts (ns ++ length d ∷ []) z) (drop-append-le n xs d fits)
    ∙ ap (λ (z : List (List ℕ)). take n xs ∷ z) (parts-more ns (drop n xs) d (sum_left n ns xs e))

-- there is no room where the datagrams are as many as fit, or where too few octets are left
pub no-room : (ns xs d : List ℕ) (room : ℕ) → sum_of ns ≡ length xs → length xs ≤ room → (room ≤ length ns) ⊎ ((length ns < room) × (room - length xs < length d)) → false ≡ has_room (record { datagrams = parts ns xs; room = room }) d
no-room ns xs d room e fits (inl full) =
    let many : room ≤ length (parts ns xs) = rw (length-parts ns xs) full in
    sym (ap (λ (b : Bool). b && nat_le (octets_in (parts ns xs) + length d) room) (le-ltb (length (parts ns xs)) room many))
no-room ns xs d room e fits (inr (some, few)) =
    let all = octets-parts ns xs e in
    let less : length (parts ns xs) < room = rw (length-parts ns xs) some in
    let past : room < octets_in (parts ns xs) + length d = omega (arith, all, few, fits) in
    sym (ap (λ (b : Bool). b && nat_le (octets_in (parts ns xs) + length d) room) (lt-ltb (length (parts ns xs)) room less)
    ∙ lt-leb (octets_in (parts ns xs) + length d) room past)

-- there is room
pub some-room : (ns xs d : List ℕ) (room : ℕ) → sum_of ns ≡ length xs → length xs ≤ room → length ns < room → length d ≤ room - length xs → true ≡ has_room (record { datagrams = parts ns xs; room = room }) d
some-room ns xs d room e fits some left =
    let all = octets-parts ns xs e in
    let less : length (parts ns xs) < room = rw (length-parts ns xs) some in
    let within : octets_in (parts ns xs) + length d ≤ room = omega (arith, all, left, fits) in
    sym (ap (λ (b : Bool). b && nat_le (octets_in (parts ns xs) + length d) room) (lt-ltb (length (parts ns xs)) room less)
    ∙ le-leb (octets_in (parts ns xs) + length d) room within)
