use Rattle.std.proofs.Common.{ℕ, List, subst, ◌∙◌}
use Rattle.isis_edge.specs.Told.{WrotePrefix}
use Rattle.isis_edge.proofs.ToldLemmas.{WrotePrefix-from_count}
use Rattle.lab_grid.proofs.summary.write_summary.Goals as goal

pub returns-clause-begun : goal.returns-clause-begun
returns-clause-begun g c =
    let before = g.O.Sink.put c.args.output.now in
    let now = g.O.Sink.put c.write_all.new.sink in
    let written = c.in-Err-write_all.ensures.prefix in
    let same = c.as_slice.ensures ∙ c.in-Ok.ensures in
    subst (λ (piece : List ℕ). WrotePrefix before now piece) same (WrotePrefix-from_count before now c.as_slice.result.now written.0 written.2)
