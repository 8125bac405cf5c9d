use Rattle.std.proofs.Common.{ℕ, List, Option, sym, subst}
use Rattle.std.specs.Prelude.{OnOk}
use Rattle.router_routes.specs.declared.coming.LevelAfter.{LevelAfter}
use Rattle.router_routes.specs.Coming.{HaveNumbers, moved_in}
use Rattle.router_routes.proofs.ComingLemmas.{numbers-none}
use Rattle.router_routes.proofs.kept.add_costs.Goals as goal

pub returns-in-None-clause-named : goal.returns-in-None-clause-named
returns-in-None-clause-named c = subst (λ (q : Option LevelAfter). HaveNumbers (moved_in q) c.args.nodes.now.items) (sym c.in-None.is) (numbers-none c.args.nodes.now.items)

pub returns-in-Some-clause-named : goal.returns-in-Some-clause-named
returns-in-Some-clause-named c =
    subst (λ (q : Option LevelAfter). OnOk c.add_nodes.result (HaveNumbers (moved_in q) c.add_nodes.new.nodes.items)) (sym c.in-Some.is)
    (subst (λ (l : List ℕ). OnOk c.add_nodes.result (HaveNumbers l c.add_nodes.new.nodes.items)) c.as_slice.ensures.value c.add_nodes.ensures.named)
