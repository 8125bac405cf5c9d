-- What is written is the timeline that was found.
use Rattle.std.proofs.Common.{ℕ, List, subst}
use Rattle.isis_edge.specs.Told.{WrotePrefix}
use Rattle.isis_edge.proofs.ToldLemmas.{WrotePrefix-from_count}
use Rattle.timeline_text.proofs.write.write_timeline.Goals as goal

pub returns-clause-ends : goal.returns-clause-ends
returns-clause-ends g c =
    let before = g.O.Sink.put c.args.out.now in
    let now = g.O.Sink.put c.write_all.new.sink in
    let written = c.in-Err-write_all.ensures.prefix in (
      c.in-Ok.text,
      c.in-Ok.ensures,
      subst (λ (piece : List ℕ). WrotePrefix before now piece) c.as_slice.ensures (WrotePrefix-from_count before now c.as_slice.result.now written.0 written.2),
    )
