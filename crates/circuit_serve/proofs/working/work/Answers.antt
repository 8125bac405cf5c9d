use Rattle.std.proofs.Common.{◌+◌, ◌<◌, ◌^◌, [], length, ◌∙◌, refl, ap, subst, arith}
use Rattle.turn_lock.specs.Passes.{seen}
use Rattle.circuit_threads.specs.Sharing.{first_router}
use Rattle.circuit_serve.specs.Walks.{Ran, IsMarked}
use Rattle.circuit_serve.proofs.ByLabels.{only_none}
use Rattle.circuit_serve.proofs.Running.{sets_out}
use Rattle.circuit_serve.proofs.working.work.Goals as goal

pub loop-number-init : goal.loop-number-init
loop-number-init g c = (
  c.requires.lock.0,
  omega arith,
  omega (arith, ap (λ z. length z) c.requires.fresh),
  c.requires.lock.1,
  c.requires.calm,
  refl,
  ([], only_none _ _ _ c.requires.fresh, (sets_out c.args.circuit _ _ c.requires.port.0 c.requires.port.1, c.requires.port.2)),
)

pub returns-in-Some-clause-ran : goal.returns-in-Some-clause-ran
returns-in-Some-clause-ran g c =
    let was = c.loop-number.invariant in let n = c.loop-number.number in let q = c.turn-next.new.port in
    let few : n + 1 < 2 ^ 64 = omega (arith, c.loop-number-test.true, c.ranges.turns.fits) in
    let h = c.turn-next.ensures.ran was.6.0 n was.6.1 was.6.2 few in
    (h.0, h.1, subst (Ran c.args.circuit h.0 (g.P.Port.given q) (g.P.Port.offered q) (g.P.Port.asked q) (n + 1)) c.in-Some.is h.2)

pub loop-number-preserved : goal.loop-number-preserved
loop-number-preserved g c =
    let was = c.loop-number.invariant in let n = c.loop-number.number in let q = c.turn-next.new.port in let t = c.turn-next.ensures in
    let few : n + 1 < 2 ^ 64 = omega (arith, c.loop-number-test.true, c.ranges.turns.fits) in
    let h = t.ran was.6.0 n was.6.1 was.6.2 few in (
      t.lock.0,
      omega (arith, was.1, t.left.0),
      t.left.1 ∙ was.2,
      t.lock.1,
      subst (IsMarked (first_router c.args.shared.now) (seen c.turn-next.result.0)) c.in_default.is t.marked,
      t.opening ∙ was.5,
      (h.0, h.1, subst (Ran c.args.circuit h.0 (g.P.Port.given q) (g.P.Port.offered q) (g.P.Port.asked q) (n + 1)) c.in_default.is h.2),
    )
