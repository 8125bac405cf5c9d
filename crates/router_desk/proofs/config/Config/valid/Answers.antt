use Rattle.router_desk.proofs.ValidLemmas.{valid-iff}
use Rattle.router_desk.proofs.config.Config.valid.Goals as goal

pub returns-clause-exactly : goal.returns-clause-exactly
returns-clause-exactly c = valid-iff c.args.self.now c.is_valid.result c.is_valid.ensures
