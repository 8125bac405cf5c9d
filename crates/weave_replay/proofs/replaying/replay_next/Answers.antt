use Rattle.std.proofs.Common.{◌+◌, ◌≤◌, ◌∷◌, [], ◌++◌, List, length, ℕ, sym, ap, subst, arith}
use Rattle.std.proofs.lemmas.Result.{IfOk-weaker}
use Rattle.weave_replay.specs.Outcomes.{AreCounts}
use Rattle.weave_replay.specs.Replays.{journals_of}
use Rattle.weave_replay.proofs.BehindLemmas.{counts-more, behind-over, faultless-over, replayed-at}
use Rattle.weave_replay.proofs.replaying.replay_next.Goals as goal

pub returns-then-count-ge-LAST_BOOT-clause-counts : goal.returns-then-count-ge-LAST_BOOT-clause-counts
returns-then-count-ge-LAST_BOOT-clause-counts c before all =
    subst (λ (counts : List ℕ). AreCounts counts (before ++ c.args.journal.now ∷ [])) (sym c.count_one-count.ensures.counts)
    (counts-more c.args.counts.now before c.args.journal.now c.count_one-count.result c.count_one-count.ensures.before all)

pub returns-then-count-ge-LAST_BOOT-clause-replayed : goal.returns-then-count-ge-LAST_BOOT-clause-replayed
returns-then-count-ge-LAST_BOOT-clause-replayed c firsts before size counted behind =
    let e = counted c.args.journal.now.router c.count_one-count.result c.count_one-count.ensures.before in
    let over : 16777215 ≤ length (journals_of c.args.journal.now.router before) = omega (arith, e, c.if-count-ge-LAST_BOOT.true) in
    (behind-over firsts c.args.routers.now before c.args.journal.now over behind, faultless-over firsts before c.args.journal.now over)

pub returns-clause-counts : goal.returns-clause-counts
returns-clause-counts c before all =
    subst (λ (counts : List ℕ). AreCounts counts (before ++ c.args.journal.now ∷ [])) (sym c.count_one-count.ensures.counts)
    (counts-more c.args.counts.now before c.args.journal.now c.count_one-count.result c.count_one-count.ensures.before all)

pub returns-clause-replayed : goal.returns-clause-replayed
returns-clause-replayed c =
    IfOk-weaker c.replay_in.result _ _
    (λ answer done firsts before size counted behind.
    let e = counted c.args.journal.now.router c.count_one-count.result c.count_one-count.ensures.before in
    replayed-at c.step_bonds.ensures.stays firsts c.args.routers.now c.replay_in.new.routers before c.args.journal.now (c.count_one-count.result + 1) answer c.requires.there size
    (omega (arith, e, c.if-count-ge-LAST_BOOT.false)) (ap (λ (n : ℕ). n + 1) e) behind done)
    c.replay_in.ensures.replayed
