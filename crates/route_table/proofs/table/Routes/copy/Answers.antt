use Rattle.std.proofs.Common.{◌≡◌, ◌∙◌, ℕ, List, length, sym, ap, arith}
use Rattle.std.proofs.lemmas.List.{take_all}
use Rattle.route_table.specs.declared.route.Route.{Route}
use Rattle.route_table.specs.Patches.{room_of}
use Rattle.route_table.proofs.RoomLemmas.{copied-room}
use Rattle.route_table.proofs.table.Routes.copy.Goals as goal

pub invariant_of-result : goal.invariant_of-result
invariant_of-result c =
    let own = c.self.inside in
    let long = ap (λ (z : List Route). length z) (c.as_slice-route-items.ensures.value ∙ c.self.view_is) in
    let routes : c.loop-route.routes.items ≡ own.routes.items =
    c.loop-route.invariant.items ∙ take_all c.loop-route.route-index c.args.self.now (omega (arith, long, c.loop-route-test.false)) ∙ sym c.self.view_is in
    let many = c.in_ok-many.ensures ∙ ap (λ (n : ℕ). room_of n) (c.len.ensures ∙ own.routes.ok.0) in
    copied-room own.routes.items c.loop-route.routes.items _ _ routes c.self.invariant (omega (arith, many, c.loop-route.invariant.room))
