use Rattle.std.proofs.Common.{◌≡◌, ◌==◌, ℕ, Some, if◌then◌else◌, set, subst}
use Rattle.spf_tree.specs.Labels.{at}
use Rattle.spf_tree.proofs.LabelLemmas.{IsSet, set_named, node_named_at}
use Rattle.spf_tree.proofs.labels.Labels.set_at_place.Goals as goal

pub returns-clause-names : goal.returns-clause-names
returns-clause-names c =
    let s : IsSet c.self.inside.items.items c.args.self.now c.args.place c.index.result.now.node (Some c.args.cost) = set_named c.self.inside.items.items c.args.self.now c.args.place (Some c.args.cost) c.index.result.now c.self.view_is c.self.invariant c.requires c.index.ensures in
    s.names

pub returns-clause-costs : goal.returns-clause-costs
returns-clause-costs c =
    let s : IsSet c.self.inside.items.items c.args.self.now c.args.place c.index.result.now.node (Some c.args.cost) = set_named c.self.inside.items.items c.args.self.now c.args.place (Some c.args.cost) c.index.result.now c.self.view_is c.self.invariant c.requires c.index.ensures in
    λ q. subst (λ (n : ℕ). at (set c.self.inside.items.items c.args.place (record { node = c.index.result.now.node; cost = Some c.args.cost })) q ≡ (if q == n then Some c.args.cost else at c.args.self.now q))
    (node_named_at c.self.inside.items.items c.args.self.now c.args.place c.index.result.now c.self.view_is c.requires c.index.ensures) (s.costs q)
