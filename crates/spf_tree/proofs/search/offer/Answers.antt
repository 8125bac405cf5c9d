use Rattle.std.proofs.Common.{rules, ◌≡◌, ◌+◌, ◌∷◌, ℕ, subst, inr}
use Rattle.std.specs.List.Sorted.{IsPermutation}
use Rattle.spf_tree.specs.Labels.{names}
use Rattle.spf_tree.specs.Places.{node_at, offers_at}
use Rattle.spf_tree.proofs.LabelLemmas.{one_label}
use Rattle.spf_tree.proofs.PlaceLemmas.{offers_push, places_push}
use Rattle.spf_tree.proofs.search.offer.Goals as goal

pub returns-in-Ok-clause-places : goal.returns-in-Ok-clause-places
returns-in-Ok-clause-places c = places_push (names c.args.labels.now) c.in-Some.sum c.args.edge.place c.args.queue.now c.push.new.self c.requires.places c.requires.end c.in-Ok.ensures

pub returns-in-Ok-clause-offered : goal.returns-in-Ok-clause-offered
returns-in-Ok-clause-offered c =
    let nodes = names c.args.labels.now in
    let pushed = offers_push nodes c.in-Some.sum c.args.edge.place c.args.queue.now c.push.new.self c.in-Ok.ensures in
    let is : c.in-Some.sum ≡ c.args.cost + c.args.edge.metric = search rules in
    inr (
      (λ e. c.if-edge-root.false (one_label c.args.labels.now c.rising.ensures c.args.edge.place c.args.root c.requires.end c.requires.root e)),
      subst (λ (n : ℕ). IsPermutation ((n, node_at nodes c.args.edge.place) ∷ offers_at nodes c.args.queue.now) (offers_at nodes c.push.new.self)) is pushed,
    )
