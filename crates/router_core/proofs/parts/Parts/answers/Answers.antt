use Rattle.std.proofs.Common.{is_some}
use Rattle.model_router.specs.Both.{at}
use Rattle.model_router.specs.Receiving.{scene_of}
use Rattle.model_router.specs.Routers.{level_of}
use Rattle.router_core.specs.Givens.{given}
use Rattle.router_core.proofs.WantedLemmas.{ready-end, said-end}
use Rattle.router_core.proofs.parts.Parts.answers.Goals as goal

-- src/wanted.rt
pub returns-clause-ready : goal.returns-clause-ready
returns-clause-ready c = ready-end (is_some (at c.args.self.now.config.keys c.args.level)) (level_of c.args.self.now c.args.level).own c.loop-left.left.now c.args.entries.now c.loop-left.drafts.items c.in_default.len_below c.loop-left.invariant.ready

-- src/wanted.rt
pub returns-clause-said : goal.returns-clause-said
returns-clause-said c = said-end (at c.args.self.now.config.keys c.args.level) (scene_of given c.args.self.now c.args.level) c.loop-left.left.now c.args.entries.now c.loop-left.drafts.items c.in_default.len_below c.loop-left.invariant.said
