use Rattle.std.proofs.Common.{refl}
use Rattle.router_circuits.specs.Views.{heard_in}
use Rattle.router_circuits.proofs.circuit.Circuit.count.Goals as goal

pub returns : goal.returns
returns c =
    let heard = heard_in c.self.inside.medium in
    let one = c.counted-self-inside.ensures heard.one in
    let two = c.counted-self-inside-2.ensures heard.two in
    rw (← c.self.view_is, one, two, c.saturating_sub-self-inside.ensures) refl
