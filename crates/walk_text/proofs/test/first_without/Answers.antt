use Rattle.std.proofs.Common.{◌≡◌, ℕ, Some, sym, ◌∙◌, subst, arith}
use Rattle.model_router.specs.Places.{nth}
use Rattle.network_lab.proofs.PlaceLemmas.{some-same, nth-less}
use Rattle.forward_views.specs.Looks.{Look}
use Rattle.walk_text.proofs.ListLemmas.{contains-nth, match-true, match-false, up-to}
use Rattle.walk_text.proofs.LookLemmas.{looks-long, look-at}
use Rattle.walk_text.proofs.test.first_without.Goals as goal

pub returns-then-not-branch : goal.returns-then-not-branch
returns-then-not-branch g c = λ looks are.
    let l = look-at c.args.network.now.seen.routers looks are c.loop-place.place c.router.result.now c.router.ensures in
    record {
      item = l.0;
      at = l.1;
      fails = match-false _ _ c.in_ok-passes.field-0 (c.in_ok-passes.ensures l.0 l.2 (are.routes_are l.0 (contains-nth looks c.loop-place.place l.0 l.1))) c.if-not-branch.true;
      before = λ q other less e. c.loop-place.invariant looks are q other less e;
    }

pub loop-place-preserved : goal.loop-place-preserved
loop-place-preserved g c = λ looks are q look less e.
    let n : ℕ = c.loop-place.place in
    let l = look-at c.args.network.now.seen.routers looks are n c.router.result.now c.router.ensures in
    let has = match-true _ _ c.in_ok-passes.field-0 (c.in_ok-passes.ensures l.0 l.2 (are.routes_are l.0 (contains-nth looks n l.0 l.1))) c.if-not-branch.false in
    up-to (λ (q : ℕ). (x : Look) → nth looks q ≡ Some x → g.T.Test.has c.args.test.now x) n (λ q low x at. c.loop-place.invariant looks are q x low at)
    (λ x at. subst (λ (y : Look). g.T.Test.has c.args.test.now y) (some-same l.0 x (sym l.1 ∙ at)) has) q less look e

pub returns : goal.returns
returns g c = λ looks are place item e.
    let less = nth-less looks place item e in
    let long = looks-long c.args.network.now.seen.routers looks are in
    c.loop-place.invariant looks are place item (omega (arith, less, long, c.loop-place-test.false, c.routers-place-end.ensures)) e
