use Rattle.std.proofs.Common.{arith}
use Rattle.router_routes.proofs.NumberLemmas.{first-below, none-above}
use Rattle.router_routes.proofs.numbers.is_one_of.Goals as goal

pub returns-then-numbers-many : goal.returns-then-numbers-many
returns-then-numbers-many c = none-above c.args.numbers.now c.args.number c.requires (let h = c.if-numbers-many.true in omega (arith, h))

pub returns-then-number-numbers : goal.returns-then-number-numbers
returns-then-number-numbers c =
    let none = c.if-many-eq0.false in
    let one = c.if-many-eq1.false in
    first-below c.args.numbers.now c.args.number 0 c.requires (omega (arith, none, one)) c.if-number-numbers.true
