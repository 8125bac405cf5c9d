use Rattle.std.proofs.Common.{◌∙◌, sym}
use Rattle.spf_tree.proofs.ApartLemmas.{apart-all}
use Rattle.spf_tree.proofs.distances.Distances.apart.Goals as goal

pub returns-in-Ok-add_apart : goal.returns-in-Ok-add_apart
returns-in-Ok-add_apart c = λ n none.
    sym (c.labels-old.ensures n)
    ∙ apart-all c.labels-old.result.now c.labels-new.result.now c.add_apart.new.nodes.items c.add_apart-2.new.nodes.items c.in-Ok.ensures.apart c.in-Ok-add_apart.ensures.kept c.in-Ok-add_apart.ensures.apart n none
    ∙ c.labels-new.ensures n
