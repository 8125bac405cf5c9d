use Rattle.std.proofs.Common.{◌<◌, ◌∙◌, List, ap, get_or, length, subst, sym}
use Rattle.spf_tree.specs.declared.label.Label.{Label}
use Rattle.spf_tree.specs.Labels.{at, names}
use Rattle.spf_tree.proofs.LabelLemmas.{at_named}
use Rattle.spf_tree.proofs.labels.Labels.get_at_place.Goals as goal

pub returns : goal.returns
returns c =
    let within : c.args.place < length (names c.self.inside.items.items) = subst (λ (ls : List Label). c.args.place < length (names ls)) (sym c.self.view_is) c.requires in
    ap (λ (l : Label). l.cost) c.index.ensures
    ∙ sym (at_named c.self.inside.items.items c.args.place c.index.result.now c.self.invariant within)
    ∙ ap (λ (ls : List Label). at ls (get_or (names ls) c.args.place 0)) c.self.view_is
