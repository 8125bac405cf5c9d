use Rattle.std.proofs.Common.{refl}
use Rattle.trace_core.specs.Whichever.{may}
use Rattle.trace_core.proofs.AmongLemmas.{get-at, not-so, none-more, none-at-all}
use Rattle.trace_core.proofs.ReachLemmas.{get-there}
use Rattle.trace_core.proofs.all_ways.ends_among.Goals as goal

pub may_be-requires : goal.may_be-requires
may_be-requires g c = c.requires _ (get-there c.args.places.now c.loop-at.at _ (get-at c.args.places.now c.loop-at.at 0 c.loop-at-test.true))

pub loop-at-preserved : goal.loop-at-preserved
loop-at-preserved g c =
    none-more c.args.places.now (λ place. may (g.W.Ways.ways c.args.among.now) place c.args.end) c.loop-at.at _ (get-at c.args.places.now c.loop-at.at 0 c.loop-at-test.true)
    (λ m. not-so c.may_be.result c.if-may_be.false (c.may_be.ensures.1 m)) c.loop-at.invariant

pub returns : goal.returns
returns g c = ((λ h. absurd (not-so _ refl h)), λ h. absurd (none-at-all c.args.places.now (λ place. may (g.W.Ways.ways c.args.among.now) place c.args.end) c.loop-at.at c.loop-at-test.false c.loop-at.invariant h.0 h.1 h.2))
