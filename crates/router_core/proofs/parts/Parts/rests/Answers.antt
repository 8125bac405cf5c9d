use Rattle.std.proofs.Common.{◌∙◌, sym, ap}
use Rattle.model_router.specs.Routers.{level_of}
use Rattle.lsp_fragments.specs.Issues.{all_rest}
use Rattle.router_core.proofs.SettledLemmas.{lasting-is, own-is}
use Rattle.router_core.proofs.parts.Parts.rests.Goals as goal

-- src/plan_second.rt
pub returns : goal.returns
returns c is = record {
  last = lasting-is c.level-on.result.now c.book.result.now (level_of c.args.self.now c.args.level) c.book.ensures c.level-on.ensures.state (c.lasts.ensures c.if-not-lasts.false);
  rests = ap all_rest (sym (own-is c.level-on.result.now c.own.result.now (level_of c.args.self.now c.args.level) c.own.ensures c.level-on.ensures.state)) ∙ (sym c.rests.ensures ∙ is);
}
