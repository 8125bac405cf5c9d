use Rattle.std.proofs.Common.{Bool, Option, Some, None, if◌then◌else◌, ◌∙◌, sym, ap}
use Rattle.model_router.specs.declared.drop_name.DropName.{DropName}
use Rattle.model_router.specs.declared.drop_name.DropName.TheVariants as name
use Rattle.model_router.specs.Drops.{or_else}
use Rattle.model_router.specs.HelloTests.{full_drop}
use Rattle.model_router.specs.Numbers.{system_number}
use Rattle.adjacency.proofs.LanLemmas.{heard-rises}
use Rattle.adjacency.proofs.lan.LanAdj.hear_hello.Goals as goal

pub passed-requires : goal.passed-requires
passed-requires c =
    rw c.deref.ensures.value (heard-rises c.self.inside.heard.items c.self.inside.up.items _ _ c.self.invariant)

pub returns-in-Err-clause-tested : goal.returns-in-Err-clause-tested
returns-in-Err-clause-tested c =
    let seen = rw c.deref.ensures.value at c.in-Err.ensures.tested in
    let tested = rw c.self.view_is at (seen c.self.inside.up.items _ _ c.args.boots.now c.self.invariant c.heard-greatest.ensures) in
    ap (λ (o : Option DropName). or_else o (full_drop c.args.boots.now (system_number c.args.hello.now.source))) tested

pub returns-then-is_err-clause-tested : goal.returns-then-is_err-clause-tested
returns-then-is_err-clause-tested c =
    let seen = rw c.deref.ensures.value at c.in-Ok.ensures.tested in
    let tested = rw c.self.view_is at (seen c.self.inside.up.items _ _ c.args.boots.now c.self.invariant c.heard-greatest.ensures) in
    ap (λ (o : Option DropName). or_else o (full_drop c.args.boots.now (system_number c.args.hello.now.source))) tested
    ∙ ap (λ (t : Bool). if t then Some name.TooMany else None) (sym c.hear.ensures.full ∙ sym c.is_err.ensures.value ∙ c.if-is_err.true)

pub returns-clause-tested : goal.returns-clause-tested
returns-clause-tested c =
    let seen = rw c.deref.ensures.value at c.in-Ok.ensures.tested in
    let tested = rw c.self.view_is at (seen c.self.inside.up.items _ _ c.args.boots.now c.self.invariant c.heard-greatest.ensures) in
    ap (λ (o : Option DropName). or_else o (full_drop c.args.boots.now (system_number c.args.hello.now.source))) tested
    ∙ ap (λ (t : Bool). if t then Some name.TooMany else None) (sym c.hear.ensures.full ∙ sym c.is_err.ensures.value ∙ c.if-is_err.false)
