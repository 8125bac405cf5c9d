use Rattle.std.proofs.Common.{◌∙◌, ◌+◌, ◌++◌, [], ℕ, List, inr, sym, ap, arith}
use Rattle.isis_edge.proofs.ToldLemmas.{Took-none, Took-more}
use Rattle.journal_text.specs.Entries as journal
use Rattle.line_cuts.specs.Words.{words_of}
use Rattle.state_replay.proofs.ReplayLemmas.{replayed-none, replayed-rest, replayed-more}
use Rattle.state_replay.proofs.LineLemmas.{as-line, as-rest}
use Rattle.state_replay.proofs.EndLemmas.{entries-fault, line-stops}
use Rattle.state_replay.proofs.entries.replay_lines.Goals as goal

pub loop-done-init : goal.loop-done-init
loop-done-init g c = record {
  replayed = ([], Took-none _, replayed-none c.args.router.now c.args.lines.now.pending);
  few = omega arith;
  later = omega arith;
}

pub returns-in-Ok-Rest-clause-ok : goal.returns-in-Ok-Rest-clause-ok
returns-in-Ok-Rest-clause-ok g c =
    let (octets, took, h) = c.loop-done.invariant.replayed in
    let (more, gave, handed) = c.in-Ok-Rest.ensures.given in
    let given = as-rest c.loop-done.lines c.next.new.self more _ c.in-Ok-Rest.field-0 c.in-Ok-Rest.field-0-is handed in
    let last = replayed-rest c.args.router.now c.loop-done.router c.args.lines.now.pending octets c.loop-done.lines.pending more c.next.new.self.line c.loop-done.done h given.0 in
    (octets ++ more, c.next.new.self.line, Took-more _ _ _ octets more took gave, last.0, inr (given.2, last.1))

pub returns-in-Err-clause-err : goal.returns-in-Err-clause-err
returns-in-Err-clause-err g c =
    let (octets, took, h) = c.loop-done.invariant.replayed in
    entries-fault _ _ _ c.args.lines.now.pending octets c.loop-done.lines.pending c.args.router.now c.loop-done.router c.args.head c.args.most c.loop-done.done
    c.in-Err.fault c.from.result took h c.loop-done-test.true c.in-Err.ensures.too_long c.in-Err.ensures.taken c.from.ensures

pub returns-in-Err-replay_line-clause-err : goal.returns-in-Err-replay_line-clause-err
returns-in-Err-replay_line-clause-err g c =
    let (octets, took, h) = c.loop-done.invariant.replayed in
    let (more, gave, handed) = c.in-Ok-Line.ensures.given in
    let given = as-line c.loop-done.lines c.next.new.self more _ c.in-Ok-Line.field-0 c.in-Ok-Line.field-0-is handed in (
      octets ++ more,
      Took-more _ _ _ octets more took gave,
      line-stops c.args.lines.now.pending octets c.loop-done.lines.pending more c.next.new.self.line c.line.result.now c.next.new.self.pending
          c.args.router.now c.loop-done.router c.args.head c.args.most c.loop-done.done c.in-Err-replay_line.fault h c.loop-done-test.true given
          c.line.ensures c.in-Err-replay_line.ensures.err,
    )

pub loop-done-preserved : goal.loop-done-preserved
loop-done-preserved g c =
    let (octets, took, h) = c.loop-done.invariant.replayed in
    let (more, gave, handed) = c.in-Ok-Line.ensures.given in
    let given = as-line c.loop-done.lines c.next.new.self more _ c.in-Ok-Line.field-0 c.in-Ok-Line.field-0-is handed in
    let (e, said, good, now) = c.in-Ok.ensures.good in
    let few = c.loop-done-test.true in
    let before = c.loop-done.invariant.later in
    let later = c.in-Ok-Line.ensures.later in
    record {
      replayed = (
        octets ++ more,
        Took-more _ _ _ octets more took gave,
        replayed-more c.args.router.now c.loop-done.router c.replay_line.new.router c.args.lines.now.pending octets c.loop-done.lines.pending more
            c.next.new.self.line c.next.new.self.pending c.loop-done.done e h given
            (ap (λ (t : List ℕ). journal.entry_of (c.loop-done.done + 1) (words_of t)) (sym c.line.ensures) ∙ said) good now,
      );
      few = omega (arith, few);
      later = omega (arith, before, later);
    }
