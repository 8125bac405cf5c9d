use Rattle.std.proofs.Common.{ℕ, subst, arith}
use Rattle.route_table.specs.Putting.{IsFree, IsHeld}
use Rattle.route_table.proofs.LookupLemmas.{leave-more, leave-none, longest-is, none-left}
use Rattle.route_table.proofs.lookup.longest_place.Goals as goal

pub loop-rest-init : goal.loop-rest-init
loop-rest-init c = leave-none c.args.routes.now c.args.address

pub loop-rest-preserved : goal.loop-rest-preserved
loop-rest-preserved c =
    let free = subst (λ (n : ℕ). IsFree c.args.routes.now n) c.cut_number-wanted.ensures c.if-is_held.ensures in
    leave-more c.args.routes.now c.args.address c.loop-rest.rest c.loop-rest.invariant free

pub returns-then-is_held : goal.returns-then-is_held
returns-then-is_held c =
    let held = subst (λ (n : ℕ). IsHeld c.args.routes.now n c.place_of-place.result) c.cut_number-wanted.ensures c.if-is_held.ensures in
    (held.0, longest-is c.args.routes.now c.args.address c.loop-rest.rest c.place_of-place.result (omega (arith, c.loop-rest-test.true)) c.loop-rest.invariant held)

pub returns : goal.returns
returns c = none-left c.args.routes.now c.args.address c.loop-rest.rest (omega (arith, c.loop-rest-test.false)) c.loop-rest.invariant
