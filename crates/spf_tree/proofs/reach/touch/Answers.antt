use Rattle.std.proofs.Common.{◌≡◌, ◌∙◌, ◌==◌, ℕ, List, Some, if◌then◌else◌, ap, subst, sym, inr}
use Rattle.std.specs.Option.{is_some}
use Rattle.spf_tree.specs.Labels.{at, names}
use Rattle.spf_tree.specs.Places.{node_at, nodes_at}
use Rattle.spf_tree.proofs.LabelLemmas.{one_label}
use Rattle.spf_tree.proofs.ReachLemmas.{found_push, nodes_push}
use Rattle.spf_tree.proofs.reach.touch.Goals as goal

pub returns-clause-places : goal.returns-clause-places
returns-clause-places c = found_push (names c.args.labels.now) c.args.found.now.items c.push.new.self.items c.args.edge.place c.requires.places c.requires.end c.in-Ok.ensures.items

pub returns-clause-touched : goal.returns-clause-touched
returns-clause-touched c =
    let nodes = names c.args.labels.now in
    let place = c.args.edge.place in
    let open_ = ap is_some (ap (λ (ns : List ℕ). at c.args.marks.now (node_at ns place)) (sym c.requires.named) ∙ sym c.get_at_place.ensures) ∙ sym c.is_some.ensures ∙ c.if-is_some.false in
    let costs : (q : ℕ) → at c.set_at_place.new.self q ≡ (if q == node_at nodes place then Some 0 else at c.args.marks.now q) =
    subst (λ (ns : List ℕ). (q : ℕ) → at c.set_at_place.new.self q ≡ (if q == node_at ns place then Some 0 else at c.args.marks.now q)) c.requires.named c.set_at_place.ensures.costs in
    inr (
      (λ e. c.if-edge-root.false (one_label c.args.labels.now c.rising.ensures place c.args.root c.requires.end c.requires.root e)),
      c.if-not-is_step_at.ensures,
      open_,
      (ap (nodes_at nodes) c.in-Ok.ensures.items ∙ nodes_push nodes c.args.found.now.items place),
      costs,
    )
