-- What is written is the text of the trace that was found.
use Rattle.std.proofs.Common.{ℕ, List, subst}
use Rattle.isis_edge.specs.Told.{Wrote, WrotePrefix}
use Rattle.isis_edge.proofs.ToldLemmas.{WrotePrefix-from_count}
use Rattle.trace_text.proofs.write.write_trace.Goals as goal

pub returns-in-Ok-write_all-clause-ends : goal.returns-in-Ok-write_all-clause-ends
returns-in-Ok-write_all-clause-ends g c =
    let before = g.O.Sink.put c.args.out.now in
    let now = g.O.Sink.put c.write_all.new.sink in (
      c.in-Ok-made.text,
      record { trace = c.in-Ok.trace; is = c.in-Ok.ensures; text_is = c.in-Ok-made.ensures },
      subst (λ (piece : List ℕ). Wrote before now piece) c.as_slice.ensures c.in-Ok-write_all.ensures.ok,
    )

pub returns-clause-ends : goal.returns-clause-ends
returns-clause-ends g c =
    let before = g.O.Sink.put c.args.out.now in
    let now = g.O.Sink.put c.write_all.new.sink in
    let written = c.in-Err-write_all.ensures.prefix in (
      c.in-Ok-made.text,
      record { trace = c.in-Ok.trace; is = c.in-Ok.ensures; text_is = c.in-Ok-made.ensures },
      subst (λ (piece : List ℕ). WrotePrefix before now piece) c.as_slice.ensures (WrotePrefix-from_count before now c.as_slice.result.now written.0 written.2),
    )
