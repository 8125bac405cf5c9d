use Rattle.std.proofs.Common.{ℕ, List, subst}
use Rattle.isis_edge.specs.Told.{WrotePrefix}
use Rattle.isis_edge.proofs.ToldLemmas.{WrotePrefix-from_count}
use Rattle.isis_edge.proofs.text.flush.Goals as goal

pub returns-in-Err-clause-begun : goal.returns-in-Err-clause-begun
returns-in-Err-clause-begun g c =
    let before = g.O.Sink.put c.args.output.now in
    let now = g.O.Sink.put c.write_all.new.sink in
    let written = c.in-Err.ensures.prefix in
    subst (λ (piece : List ℕ). WrotePrefix before now piece) c.as_slice.ensures (WrotePrefix-from_count before now c.as_slice.result.now written.0 written.2)
