use Rattle.std.proofs.Common.{Bool, Option, Some, None, if◌then◌else◌, ◌∙◌, sym, ap}
use Rattle.model_router.specs.declared.drop_name.DropName.{DropName}
use Rattle.model_router.specs.declared.drop_name.DropName.TheVariants as name
use Rattle.model_router.specs.Drops.{or_else}
use Rattle.model_router.specs.HelloTests.{full_drop}
use Rattle.model_router.specs.Numbers.{system_number}
use Rattle.adjacency.proofs.LanLemmas.{heard-rises}
use Rattle.adjacency.proofs.lan.LanAdj.test_hello.Goals as goal

pub passed-requires : goal.passed-requires
passed-requires c =
    rw c.deref.ensures.value (heard-rises c.self.inside.heard.items c.self.inside.up.items _ _ c.self.invariant)

pub returns-in-Err : goal.returns-in-Err
returns-in-Err c boots greatest full =
    let seen = rw c.deref.ensures.value at c.in-Err.ensures.tested in
    let tested = rw c.self.view_is at (seen c.self.inside.up.items _ _ boots c.self.invariant greatest) in
    ap (λ (o : Option DropName). or_else o (full_drop boots (system_number c.args.hello.now.source))) tested

pub returns-then-full : goal.returns-then-full
returns-then-full c boots greatest full =
    let seen = rw c.deref.ensures.value at c.in-Ok.ensures.tested in
    let tested = rw c.self.view_is at (seen c.self.inside.up.items _ _ boots c.self.invariant greatest) in
    ap (λ (o : Option DropName). or_else o (full_drop boots (system_number c.args.hello.now.source))) tested
    ∙ ap (λ (t : Bool). if t then Some name.TooMany else None) (sym full ∙ c.if-full.true)

pub returns : goal.returns
returns c boots greatest full =
    let seen = rw c.deref.ensures.value at c.in-Ok.ensures.tested in
    let tested = rw c.self.view_is at (seen c.self.inside.up.items _ _ boots c.self.invariant greatest) in
    ap (λ (o : Option DropName). or_else o (full_drop boots (system_number c.args.hello.now.source))) tested
    ∙ ap (λ (t : Bool). if t then Some name.TooMany else None) (sym full ∙ c.if-full.false)
