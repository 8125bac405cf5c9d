use Rattle.std.proofs.Common.{◌≡◌, rules}
use Rattle.std.proofs.lemmas.Fn.{always_returns_same}
use Rattle.spf_tree.proofs.UsableLemmas.{row_key}
use Rattle.router_routes.proofs.DifferenceLemmas.{order-is}
use Rattle.router_routes.proofs.differences.in_order.Goals as goal

pub returns-clause-order : goal.returns-clause-order
returns-clause-order c =
    order-is _ (c.sort_unstable_by_key.ensures.sorted row_key (always_returns_same _ (λ a r. r ≡ row_key a.0.now) _ (λ a r q k. search rules)))
