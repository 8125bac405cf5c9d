use Rattle.std.proofs.Common.{◌∙◌}
use Rattle.std.proofs.lemmas.Result.{IfOk-weaker}
use Rattle.router_routes.specs.Outlooks.{outlook_in, outlook_of}
use Rattle.router_core.proofs.RouteLemmas.{lent-with}
use Rattle.router_core.proofs.parts.Parts.following_with.Goals as goal

-- src/told.rt
pub returns : goal.returns
returns c =
    let lent = c.lent-lent.result in
    IfOk-weaker c.with_prefixes.result _ _ (λ next follows. λ o is.
    follows o (is ∙ lent-with (outlook_of c.args.self.now) (outlook_in lent) c.args.own.now c.as_slice.result.now c.lent-lent.ensures c.as_slice.ensures.pairs)) c.with_prefixes.ensures.moves
