use Rattle.std.proofs.Common.{◌≡◌, ◌∙◌, ◌+◌, ◌<◌, ◌≤◌, List, length, ap, sym, subst, get_or, arith}
use Rattle.std.proofs.lemmas.List.{get_or_default}
use Rattle.spf_tree.specs.declared.label.Label.{Label}
use Rattle.spf_tree.specs.Labels.{IsRising}
use Rattle.spf_tree.proofs.ApartLemmas.{apart-more, apart-end}
use Rattle.spf_tree.proofs.labels.Labels.add_apart.Goals as goal

pub loop-place-preserved : goal.loop-place-preserved
loop-place-preserved c =
    let self = c.args.self.now in
    let label = c.index-label.result.now in
    let place = c.loop-place.place in
    let rising : IsRising self = subst IsRising c.self.view_is c.self.invariant in
    let is : label ≡ get_or self place label = c.index-label.ensures ∙ ap (λ (ls : List Label). get_or ls place label) c.self.view_is in
    let test = c.loop-place-test.true in
    let many = c.len-place-end.ensures in
    let long : length c.self.inside.items.items ≡ length self = ap length c.self.view_is in
    let in' : place < length self = omega (arith, test, many, long) in
    record {
      below = λ more k d less.
          let up = rising.below place (place + 1) d (omega arith) more in
          let same = ap (λ (l : Label). l.node) (get_or_default self place d label in' ∙ sym is) in
          let before = subst (λ (ls : List Label). (get_or ls k d).node < label.node) (c.as_slice.ensures.value ∙ c.other.view_is) (c.next_place-at.ensures.below k d less) in
          omega (arith, up, same, before);
      kept = λ n there. c.in-Ok.ensures.kept n (c.loop-place.invariant.kept n there);
      apart = apart-more self c.args.other.now c.loop-place.nodes.items c.add_unless_same.new.nodes.items place label in' is c.in-Ok.ensures.kept (λ none. sym c.get_at-cost.ensures ∙ c.in-Ok.ensures.apart none) c.loop-place.invariant.apart;
    }

pub returns-clause-apart : goal.returns-clause-apart
returns-clause-apart c =
    let test = c.loop-place-test.false in
    let many = c.len-place-end.ensures in
    let long : length c.self.inside.items.items ≡ length c.args.self.now = ap length c.self.view_is in
    let all : length c.args.self.now ≤ c.loop-place.place = omega (arith, test, many, long) in
    apart-end c.args.self.now c.args.other.now c.loop-place.nodes.items c.loop-place.place (subst IsRising c.self.view_is c.self.invariant) all c.loop-place.invariant.apart
