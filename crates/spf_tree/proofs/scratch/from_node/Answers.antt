use Rattle.std.proofs.Common.{◌<◌, ◌∙◌, ℕ, List, [], ◌∷◌, length, subst, sym}
use Rattle.std.specs.List.{Contains}
use Rattle.std.specs.List.Sorted.{IsPermutation}
use Rattle.spf_tree.specs.Places.{node_at, offers_at}
use Rattle.spf_tree.proofs.SearchLemmas.{begin}
use Rattle.spf_tree.proofs.PlaceLemmas.{offers_push, one_to_place, there_at}
use Rattle.spf_tree.proofs.scratch.from_node.Goals as goal

pub run-requires-clause-places : goal.run-requires-clause-places
run-requires-clause-places c =
    let nodes = c.args.rows.now.nodes in
    let place = c.place_of-place.result in
    let within : place < length nodes = subst (λ (ns : List ℕ). place < length ns) c.nodes.ensures c.place_of-place.ensures.within in
    one_to_place nodes place c.push.new.self within (subst (λ (q : List (ℕ × ℕ)). IsPermutation ((0, place) ∷ q) c.push.new.self) c.new-queue.ensures c.in-Ok-push.ensures)

pub run-requires-clause-search : goal.run-requires-clause-search
run-requires-clause-search c =
    let nodes = c.args.rows.now.nodes in
    let place = c.place_of-place.result in
    let within : place < length nodes = subst (λ (ns : List ℕ). place < length ns) c.nodes.ensures c.place_of-place.ensures.within in
    let named : Contains _ (node_at nodes place) = subst (λ (ns : List ℕ). Contains ns (node_at nodes place)) (sym (c.in-Ok.ensures.names ∙ c.nodes-2.ensures)) (there_at nodes place within) in
    begin c.args.rows.now.rows (node_at nodes place) c.in-Ok.labels (offers_at nodes c.push.new.self) named c.in-Ok.ensures.none
    (offers_push nodes 0 place [] c.push.new.self (subst (λ (q : List (ℕ × ℕ)). IsPermutation ((0, place) ∷ q) c.push.new.self) c.new-queue.ensures c.in-Ok-push.ensures))
