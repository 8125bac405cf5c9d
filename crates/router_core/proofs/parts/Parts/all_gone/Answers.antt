use Rattle.std.proofs.Common.{◌-◌, ◌∙◌, length, sym, ap, subst, arith}
use Rattle.isis_base.specs.declared.level.Level.TheVariants as level
use Rattle.model_router.specs.Routers.{Router}
use Rattle.router_core.specs.Due.{IsDueAt}
use Rattle.router_core.specs.Pulled.{after_hello, after_level}
use Rattle.router_core.proofs.DueLemmas.{after-hello-due, after-level-due, hello-due, one-due, two-due}
use Rattle.router_core.proofs.SentLemmas.{hello-length, level-length}
use Rattle.router_core.proofs.parts.Parts.all_gone.Goals as goal

-- src/pull.rt
pub hello_gone-requires-clause-due : goal.hello_gone-requires-clause-due
hello_gone-requires-clause-due c = hello-due c.args.self.now (c.args.circuit - 1) c.args.due c.requires.due

-- src/pull.rt
pub level_gone-requires-clause-due : goal.level_gone-requires-clause-due
level_gone-requires-clause-due c =
    let place = c.args.circuit - 1 in
    let one = one-due c.args.self.now place c.args.due c.requires.due in
    subst (λ (q : Router). IsDueAt q place level.One c.args.due.one) (sym c.hello_gone.ensures)
    (after-hello-due c.args.self.now place level.One c.args.due.one (omega (arith, c.requires.there)) one)

-- src/pull.rt
pub level_gone-requires-2-clause-due : goal.level_gone-requires-2-clause-due
level_gone-requires-2-clause-due c =
    let place = c.args.circuit - 1 in
    let there = c.requires.there in
    let two = two-due c.args.self.now place c.args.due c.requires.due in
    let hello = after-hello-due c.args.self.now place level.Two c.args.due.two (omega (arith, there)) two in
    let same = hello-length c.args.self.now place (omega (arith, there)) in
    subst (λ (q : Router). IsDueAt q place level.Two c.args.due.two) (sym (c.level_gone.ensures ∙ ap (λ (q : Router). after_level q place level.One) c.hello_gone.ensures))
    (after-level-due (after_hello c.args.self.now place) place c.args.due.two (omega (arith, there, same)) hello)

-- src/pull.rt
pub level_gone-requires-clause-there : goal.level_gone-requires-clause-there
level_gone-requires-clause-there c =
    let there = c.requires.there in
    let same = ap (λ (r : Router). length r.circuits) c.hello_gone.ensures ∙ hello-length c.args.self.now (c.args.circuit - 1) (omega (arith, there)) in
    (there.0, omega (arith, there, same))

-- src/pull.rt
pub level_gone-requires-2-clause-there : goal.level_gone-requires-2-clause-there
level_gone-requires-2-clause-there c =
    let there = c.requires.there in
    let same = ap (λ (r : Router). length r.circuits) c.hello_gone.ensures ∙ hello-length c.args.self.now (c.args.circuit - 1) (omega (arith, there)) in
    let next = ap (λ (r : Router). length r.circuits) c.level_gone.ensures ∙ level-length c.hello_gone.new.self (c.args.circuit - 1) level.One (omega (arith, there, same)) in
    (there.0, omega (arith, there, same, next))
