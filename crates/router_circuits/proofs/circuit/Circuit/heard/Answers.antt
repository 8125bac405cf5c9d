use Rattle.std.proofs.Common.{List, ℕ, sym, ap, subst, ◌∙◌}
use Rattle.model_router.specs.Both.{at}
use Rattle.model_router.specs.Routers.{Circuit, LanNeighbour}
use Rattle.adjacency.specs.Lans.{AreHeard, neighbours}
use Rattle.router_circuits.specs.Views.{heard_in}
use Rattle.router_circuits.proofs.UpLemmas.{all-snpas, level-heard}
use Rattle.router_circuits.proofs.circuit.Circuit.heard.Goals as goal

pub returns-clause-snpas : goal.returns-clause-snpas
returns-clause-snpas c =
    let old = c.self.inside in
    let same = sym (level-heard (heard_in old.medium) old.one old.two c.args.level) ∙ ap (λ (x : Circuit). (at x.levels c.args.level).heard) c.self.view_is in
    all-snpas c.heard.result.now (at c.args.self.now.levels c.args.level).heard
    (subst (λ (m : List (ℕ × LanNeighbour)). AreHeard m) same c.heard.ensures.heard)
    (c.heard.ensures.all ∙ ap (λ (m : List (ℕ × LanNeighbour)). neighbours m) same)
