use Rattle.std.proofs.Common.{true, false, drop, ◌+◌, ◌∷◌, ap, sym, ◌∙◌}
use Rattle.std.proofs.lemmas.List.{drop_more, drop_all}
use Rattle.route_table.specs.declared.route.Route.{Route}
use Rattle.forward_views.specs.Looks.{way_of, own_ways}
use Rattle.walk_text.proofs.SettledLemmas.{one-more, same-more, none-left, own-first}
use Rattle.walk_text.proofs.settled.own_numbers.Goals as goal
use Rattle.walk_text.proofs.settled.own_numbers.Goals.{then-is_for_own+in_ok-push, else-is_for_own}

pub loop-route-preserved : goal.loop-route-preserved
loop-route-preserved c =
    let routes = c.args.routes.now in
    let i = c.loop-route.route-index in
    let route = c.route-item.result in
    let rest = drop (i + 1) routes in
    let opens = (drop_more routes i route c.loop-route-test.true) ∙ ap (λ (x : Route). x ∷ rest) (sym c.route-item.is) in
    elim c.if-is_for_own.branch [
      | then-is_for_own+in_ok-push w ↦
          one-more c.if-is_for_own.numbers.items c.loop-route.numbers.items (own_ways (drop i routes)) (own_ways rest) (own_ways routes) (way_of route) w.number_of.result
          (own-first (drop i routes) rest route opens true (sym c.is_for_own.ensures ∙ w.if-is_for_own.true)) (ap (λ v. v.items) w.numbers-is ∙ w.in_ok-push.ensures.items) w.number_of.ensures.is w.number_of.ensures.small c.loop-route.invariant
      | else-is_for_own w ↦
          same-more c.if-is_for_own.numbers.items c.loop-route.numbers.items (own_ways (drop i routes)) (own_ways rest) (own_ways routes)
          (own-first (drop i routes) rest route opens false (sym c.is_for_own.ensures ∙ w.if-is_for_own.false)) (ap (λ v. v.items) w.numbers-is) c.loop-route.invariant
    ]

pub returns : goal.returns
returns c =
    none-left c.loop-route.numbers.items (own_ways (drop c.loop-route.route-index c.args.routes.now)) (own_ways c.args.routes.now)
    (ap own_ways (drop_all c.loop-route.route-index c.args.routes.now c.loop-route-test.false)) c.loop-route.invariant
