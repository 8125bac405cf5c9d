-- The next hop stands in front of those that are left.
use Rattle.std.proofs.Common.{◌≡◌, ◌++◌, ◌+◌, ℕ, zero, suc, List, [], ◌∷◌, Some, drop, slice_get, sym, ap, ◌∙◌, arith}
use Rattle.std.specs.List.{flat_map}
use Rattle.std.specs.Option.{option_map}
use Rattle.std.proofs.lemmas.List.{append_assoc}
use Rattle.spf_tree.specs.Nodes.{system_node}
use Rattle.route_text.specs.ViaText.{hop_text}
use Rattle.route_text.proofs.via.add_hops.Goals as goal

-- a list from a place on begins with what is at the place
from-place : (xs : List ℕ) (i x : ℕ) → slice_get xs i ≡ Some x → drop i xs ≡ x ∷ drop (suc i) xs
from-place [] i x e = absurd (cc)
from-place (y ∷ xs) zero x e = cc
from-place (y ∷ xs) (suc i) x e = from-place xs i x e

one-more : (i : ℕ) → suc i ≡ i + 1
one-more i = omega arith

pub loop-place-preserved : goal.loop-place-preserved
loop-place-preserved c =
    let hops = c.args.hops.now in
    let place = c.loop-place.place in
    let hop = system_node c.in-Some.system in
    let here : slice_get hops place ≡ Some hop = sym c.get.ensures ∙ ap (option_map system_node) c.in-Some.is in
    ap (λ (xs : List ℕ). xs ++ flat_map hop_text (drop (place + 1) hops)) c.in-Ok.ensures
    ∙ (append_assoc c.loop-place.page (hop_text hop) (flat_map hop_text (drop (place + 1) hops))
    ∙ (ap (λ (xs : List ℕ). c.loop-place.page ++ flat_map hop_text xs) (sym (from-place hops place hop here ∙ ap (λ (n : ℕ). hop ∷ drop n hops) (one-more place)))
    ∙ c.loop-place.invariant))
