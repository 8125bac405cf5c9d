use Rattle.std.proofs.Common.{◌∙◌}
use Rattle.router_core.proofs.LastLemmas.{lasting-of}
use Rattle.router_core.proofs.plan_second.lasts.Goals as goal

-- src/plan_second.rt
pub returns : goal.returns
returns c = lasting-of c.args.book.now c.store.result.now _ c.all_last.result c.order_law.ensures c.all_last.ensures (c.pairs.ensures ∙ c.pages.ensures.entries) c.store.ensures
