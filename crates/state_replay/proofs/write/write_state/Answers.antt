use Rattle.std.proofs.Common.{inr, refl, subst, ℕ, List}
use Rattle.isis_edge.specs.Told.{WrotePrefix}
use Rattle.isis_edge.proofs.ToldLemmas.{WrotePrefix-from_count}
use Rattle.state_replay.proofs.write.write_state.Goals as goal

pub returns-clause-ends : goal.returns-clause-ends
returns-clause-ends g c =
    let (octets, took, is) = c.in-Ok.ensures.ok in
    let before = g.O.Sink.put c.args.output.now in
    let now = g.O.Sink.put c.write_all.new.sink in
    let written = c.in-Err-write_all.ensures.prefix in (
      octets,
      took,
      inr (
        refl,
        (
          c.in-Ok.text,
          is,
          subst (λ (piece : List ℕ). WrotePrefix before now piece) c.as_slice.ensures
              (WrotePrefix-from_count before now c.as_slice.result.now written.0 written.2),
        ),
      ),
    )
