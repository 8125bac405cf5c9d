use Rattle.std.proofs.Common.{rules, ◌<◌, ℕ, List, length, ap, arith, length-append}
use Rattle.circuit_threads.specs.LineRests.{rest_of}
use Rattle.circuit_threads.proofs.line.LineRest.fill.Goals as goal

pub loop-self-smaller : goal.loop-self-smaller
loop-self-smaller c =
    let same = ap (λ (xs : List ℕ). length xs) c.step.ensures.text in
    let new = length-append c.step.new.page (rest_of c.step.new.self) in let old = length-append c.loop-self.page (rest_of c.loop-self.self) in
    let more : length c.loop-self.page < length c.step.new.page = search rules in
    omega (arith, same, new, old, more)
