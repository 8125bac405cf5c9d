use Rattle.std.proofs.Common.{IfSome, Option, sym, subst}
use Rattle.model_network.specs.declared.end.End.{End}
use Rattle.network_lab.specs.Claims.{IsEndIn}
use Rattle.network_lab.proofs.StateLemmas.{pair-there}
use Rattle.network_lab.proofs.network.Network.pair.Goals as goal

pub returns-clause-there : goal.returns-clause-there
returns-clause-there g c =
    subst (λ (o : Option (End × End)). IfSome o (λ (pair : End × End). IsEndIn c.args.self.now.seen.routers pair.0 × IsEndIn c.args.self.now.seen.routers pair.1)) (sym c.pair_of.ensures)
    (pair-there c.args.self.now.seen.routers c.ends.result.now (c.facts.ensures.ends c.args.link c.ends.result.now c.ends.ensures))
