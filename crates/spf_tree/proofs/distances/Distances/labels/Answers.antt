use Rattle.std.proofs.Common.{ℕ, List, ◌∙◌, sym, ap}
use Rattle.spf_tree.specs.Distances.{cost_at}
use Rattle.spf_tree.proofs.DistanceLemmas.{cost_is}
use Rattle.spf_tree.proofs.distances.Distances.labels.Goals as goal

pub returns : goal.returns
returns c = λ n. sym (cost_is c.self.inside.labels c.rising.ensures n) ∙ ap (λ (d : List (ℕ × ℕ)). cost_at d n) c.self.view_is
