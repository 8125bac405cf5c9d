-- The place of a router.
use Rattle.std.proofs.Common.{◌≡◌, ◌≢◌, ℕ, zero, suc, ◌<◌, ◌==◌, Bool, true, false, List, [], ◌∷◌, map, length, if◌then◌else◌, Some, None, refl, ap, arith}
use Rattle.std.specs.Prelude.{slice_index_or}
use Rattle.std.specs.Option.{option_map}
use Rattle.std.proofs.lemmas.Bool.Decides.{Decides-eqb}
use Rattle.packet_trace.specs.declared.forwarder.Forwarder.{Forwarder}
use Rattle.packet_trace.specs.Steps.{node_of, place_of}

-- the first router of a node
pub first-place : (fs : List Forwarder) (node p : ℕ) (d : Forwarder) → p < length fs → node_of (slice_index_or fs p d) ≡ node → ((q : ℕ) (e : Forwarder) → q < p → node_of (slice_index_or fs q e) ≢ node) → place_of (map node_of fs) node ≡ Some p
first-place [] node p d less is none = absurd (omega (arith, less))
first-place (f ∷ fs) node zero d less is none = by (node_of f == node) ((Decides-eqb (node_of f) node).1 is)
  where
    by : (t : Bool) → t ≡ true → (if t then Some 0 else option_map suc (place_of (map node_of fs) node)) ≡ Some 0
    by true k = refl
    by false k = absurd (cc)
first-place (f ∷ fs) node (suc p) d less is none =
    by (first-place fs node p d (omega (arith, less)) is (λ q e low. none (suc q) e (omega (arith, low)))) (node_of f == node) refl
  where
    by : place_of (map node_of fs) node ≡ Some p → (t : Bool) → (node_of f == node) ≡ t → (if t then Some 0 else option_map suc (place_of (map node_of fs) node)) ≡ Some (suc p)
    by more true k = absurd (none 0 f (omega arith) ((Decides-eqb (node_of f) node).0 k))
    by more false k = ap (option_map suc) more

pub no-place : (fs : List Forwarder) (node : ℕ) → ((q : ℕ) (e : Forwarder) → q < length fs → node_of (slice_index_or fs q e) ≢ node) → place_of (map node_of fs) node ≡ None
no-place [] node none = refl
no-place (f ∷ fs) node none = by (no-place fs node (λ q e low. none (suc q) e (omega (arith, low)))) (node_of f == node) refl
  where
    by : place_of (map node_of fs) node ≡ None → (t : Bool) → (node_of f == node) ≡ t → (if t then Some 0 else option_map suc (place_of (map node_of fs) node)) ≡ None
    by more true k = absurd (none 0 f (omega arith) ((Decides-eqb (node_of f) node).0 k))
    by more false k = ap (option_map suc) more
