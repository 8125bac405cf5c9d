-- Whether a node is one of some that stand in order, as a binary search finds it.
use Rattle.std.proofs.Common.{◌≡◌, ◌∙◌, ℕ, zero, suc, ◌+◌, ◌<◌, ◌≤◌, ◌==◌, Bool, true, false, ◌||◌, List, [], ◌∷◌, length, get_or, ◌⊎◌, inl, inr, refl, sym, ap, arith}
use Rattle.std.specs.List.Sorted.{IsNonDecreasingBy}
use Rattle.std.specs.Ordering.{nat_cmp, ordering_index}
use Rattle.std.specs.declared.cmp.Ordering.TheVariants.{Less, Equal, Greater}
use Rattle.std.proofs.lemmas.Bool.{eq-eqb, ne_eqb}
use Rattle.std.proofs.lemmas.Bool.Decides.{nat_tests}
use Rattle.isis_base.specs.declared.identifiers.NodeId.{NodeId}
use Rattle.spf_tree.specs.Nodes.{node_number}
use Rattle.router_routes.specs.Moved.{NodesRise, is_among}

cmp-equal : (a b : ℕ) → nat_cmp a b ≡ Equal → a ≡ b
cmp-equal a b e = grind (arith, nat_tests)

cmp-less : (a b : ℕ) → nat_cmp a b ≡ Less → a < b
cmp-less a b e = grind (arith, nat_tests)

cmp-greater : (a b : ℕ) → nat_cmp a b ≡ Greater → b < a
cmp-greater a b e = grind (arith, nat_tests)

higher : (a b x : ℕ) → a ≤ b → ordering_index (nat_cmp a x) ≤ ordering_index (nat_cmp b x)
higher a b x le = grind (arith, nat_tests)

least-at : (xs : List NodeId) (least i : ℕ) (d : NodeId) → NodesRise least xs → i < length xs → least ≤ node_number (get_or xs i d)
least-at [] least i d r lt = absurd (omega arith)
least-at (x ∷ xs) least zero d r lt = r.0
least-at (x ∷ xs) least (suc i) d r lt = let h = least-at xs (node_number x + 1) i d r.1 (omega arith) in let k = r.0 in omega (arith, h, k)

rises-at : (xs : List NodeId) (least : ℕ) → NodesRise least xs → (i j : ℕ) (d : NodeId) → i ≤ j → j < length xs → node_number (get_or xs i d) ≤ node_number (get_or xs j d)
rises-at [] least r i j d ij lt = absurd (omega arith)
rises-at (x ∷ xs) least r zero zero d ij lt = omega arith
rises-at (x ∷ xs) least r (suc i) zero d ij lt = absurd (omega arith)
rises-at (x ∷ xs) least r zero (suc j) d ij lt = let h = least-at xs (node_number x + 1) j d r.1 (omega arith) in omega (arith, h)
rises-at (x ∷ xs) least r (suc i) (suc j) d ij lt = rises-at xs (node_number x + 1) r.1 i j d (omega arith) (omega arith)

pub rising-tests : (xs : List NodeId) (n : ℕ) → NodesRise 0 xs → IsNonDecreasingBy (λ y. ordering_index (nat_cmp (node_number y) n)) xs
rising-tests xs n r i j d le lt = higher _ _ n (rises-at xs 0 r i j d le lt)

or-right : (t u : Bool) → u ≡ true → (t || u) ≡ true
or-right true u is = refl
or-right false u is = is

among-at : (xs : List NodeId) (n i : ℕ) (d : NodeId) → i < length xs → node_number (get_or xs i d) ≡ n → is_among xs n ≡ true
among-at [] n i d lt is = absurd (omega arith)
among-at (x ∷ xs) n zero d lt is = ap (λ (t : Bool). t || is_among xs n) (eq-eqb (node_number x) n is)
among-at (x ∷ xs) n (suc i) d lt is = or-right (node_number x == n) (is_among xs n) (among-at xs n i d (omega arith) is)

none-at : (xs : List NodeId) (n : ℕ) → ((i : ℕ) (d : NodeId) → i < length xs → node_number (get_or xs i d) ≡ n → ⊥) → is_among xs n ≡ false
none-at [] n h = refl
none-at (x ∷ xs) n h = ap (λ (t : Bool). t || is_among xs n) (ne_eqb (node_number x) n (h 0 x (omega arith))) ∙ none-at xs n (λ i d lt. h (suc i) d (omega arith))

pub there : (xs : List NodeId) (n i : ℕ) → i < length xs → ((d : NodeId) → nat_cmp (node_number (get_or xs i d)) n ≡ Equal) → true ≡ is_among xs n
there [] n i lt h = absurd (omega (arith, lt))
there (x ∷ xs) n i lt h = sym (among-at (x ∷ xs) n i x lt (cmp-equal _ n (h x)))

pub missing : (xs : List NodeId) (n i : ℕ) → ((k : ℕ) (d : NodeId) → k < length xs → k < i → nat_cmp (node_number (get_or xs k d)) n ≡ Less) → ((k : ℕ) (d : NodeId) → i ≤ k → k < length xs → nat_cmp (node_number (get_or xs k d)) n ≡ Greater) → false ≡ is_among xs n
missing xs n i low high = sym (none-at xs n (λ k d lt is. apart k d is (less-or k i) lt))
  where
    less-or : (k i : ℕ) → (k < i) ⊎ (i ≤ k)
    less-or k i = grind arith

    apart : (k : ℕ) (d : NodeId) → node_number (get_or xs k d) ≡ n → (k < i) ⊎ (i ≤ k) → k < length xs → ⊥
    apart k d is (inl before) lt = let le = cmp-less _ n (low k d lt before) in omega (arith, le, is)
    apart k d is (inr past) lt = let gt = cmp-greater _ n (high k d past lt) in omega (arith, gt, is)
