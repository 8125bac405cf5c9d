use Rattle.std.proofs.Common.{ℕ, List, sym, subst}
use Rattle.isis_edge.specs.Told.{WrotePrefix}
use Rattle.isis_edge.proofs.ToldLemmas.{WrotePrefix-from_count}
use Rattle.isis_daemon.specs.declared.command.Command.TheVariants.{Merge}
use Rattle.isis_daemon.specs.declared.status.Status.{Status}
use Rattle.isis_daemon.specs.Runs.{EndsOn}
use Rattle.isis_daemon.proofs.MergeLemmas.{merge_end}
use Rattle.isis_daemon.proofs.texts.put_merged.Goals as goal

pub returns-in-Err-clause-ends : goal.returns-in-Err-clause-ends
returns-in-Err-clause-ends g c =
    let put = g.O.Sink.put c.args.output.now in
    subst (λ (end : Status). EndsOn Merge c.args.texts.now put put end) (sym c.from.ensures) (merge_end c.args.texts.now put c.in-Err.fault c.in-Err.ensures)

pub returns-clause-ends : goal.returns-clause-ends
returns-clause-ends g c =
    let before = g.O.Sink.put c.args.output.now in
    let now = g.O.Sink.put c.write_all.new.sink in
    let written = c.in-Err-write_all.ensures.prefix in (
      c.in-Ok.text,
      c.in-Ok.ensures,
      subst (λ (piece : List ℕ). WrotePrefix before now piece) c.as_slice.ensures (WrotePrefix-from_count before now c.as_slice.result.now written.0 written.2),
    )
