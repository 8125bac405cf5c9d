use Rattle.std.proofs.Common.{◌≡◌, ◌∙◌, ◌↔◌, ◌⊎◌, ℕ, List, [], Option, None, sym, subst}
use Rattle.std.specs.List.{Contains}
use Rattle.std.proofs.lemmas.Result.{IfOk-weaker}
use Rattle.spf_tree.specs.Walks.{AreLeast}
use Rattle.spf_tree.specs.Labels.{at}
use Rattle.spf_tree.specs.Distances.{cost_at}
use Rattle.spf_tree.specs.NextHops.{IsNextHop}
use Rattle.spf_tree.proofs.DistanceLemmas.{least_same}
use Rattle.spf_tree.proofs.ReachLemmas.{nodes_least}
use Rattle.spf_tree.proofs.next.hops_from.Goals as goal

pub first_systems-requires-clause-least : goal.first_systems-requires-clause-least
first_systems-requires-clause-least c =
    nodes_least c.args.rows.now.rows c.args.root c.args.rows.now.nodes (cost_at c.args.distances.now) (at c.in-Ok.labels) c.requires.root c.kept.ensures c.in-Ok.ensures.from
    (λ n h. c.in-Ok.ensures.into n (subst (λ (ns : List ℕ). Contains ns n) (sym c.nodes.ensures) h)) c.requires.distances.least

pub returns-in-Ok-first_systems-clause-hops : goal.returns-in-Ok-first_systems-clause-hops
returns-in-Ok-first_systems-clause-hops c =
    let rows = c.args.rows.now.rows in
    IfOk-weaker c.hops_of.result (λ hops. hops ≡ c.as_slice-in-Ok-first_systems.result.now) (λ hops. (hop : ℕ) → Contains hops hop ↔ IsNextHop rows c.args.root c.args.target hop)
    (λ hops is hop. subst (λ (ns : List ℕ). Contains ns hop ↔ IsNextHop rows c.args.root c.args.target hop) (sym (is ∙ c.as_slice-in-Ok-first_systems.ensures.value)) (c.in-Ok-first_systems.ensures.hops hop)) c.hops_of.ensures

pub returns-in-Ok-first_systems-clause-empty : goal.returns-in-Ok-first_systems-clause-empty
returns-in-Ok-first_systems-clause-empty c =
    let root = c.args.root in
    let target = c.args.target in
    let least : AreLeast c.args.rows.now.rows root (at c.in-Ok.labels) =
    nodes_least c.args.rows.now.rows root c.args.rows.now.nodes (cost_at c.args.distances.now) (at c.in-Ok.labels) c.requires.root c.kept.ensures c.in-Ok.ensures.from
    (λ n h. c.in-Ok.ensures.into n (subst (λ (ns : List ℕ). Contains ns n) (sym c.nodes.ensures) h)) c.requires.distances.least in
    let same = least_same c.args.rows.now.rows root (at c.in-Ok.labels) (cost_at c.args.distances.now) least c.requires.distances.least target in
    IfOk-weaker c.hops_of.result (λ hops. hops ≡ c.as_slice-in-Ok-first_systems.result.now) (λ hops. (hops ≡ []) ↔ ((target ≡ root) ⊎ (cost_at c.args.distances.now target ≡ None)))
    (λ hops is.
    subst (λ (o : Option ℕ). (hops ≡ []) ↔ ((target ≡ root) ⊎ (o ≡ None))) same
    (subst (λ (ns : List ℕ). (ns ≡ []) ↔ ((target ≡ root) ⊎ (at c.in-Ok.labels target ≡ None))) (sym (is ∙ c.as_slice-in-Ok-first_systems.ensures.value)) (c.in-Ok-first_systems.ensures.empty c.requires.target))) c.hops_of.ensures
