use Rattle.std.proofs.Common.{◌++◌, ◌∷◌, [], List, ap, sym, ◌∙◌}
use Rattle.router_desk.specs.declared.circuit_config.CircuitConfig.{CircuitConfig}
use Rattle.network_lab.proofs.ConfigLemmas.{take-nth}
use Rattle.network_lab.proofs.setup.replaced.Goals as goal

pub loop-at-preserved : goal.loop-at-preserved
loop-at-preserved c =
    c.in-Ok-push.ensures.ok
    ∙ (ap (λ (xs : List CircuitConfig). xs ++ (c.in-Ok.copy ∷ [])) c.loop-at.invariant ∙ sym (take-nth _ c.loop-at.at c.in-Ok.copy c.in-Ok.ensures))
