use Rattle.std.proofs.Common.{◌∙◌, List, map, sym, ap}
use Rattle.circuit_threads.specs.declared.entry.Note.TheVariants.{Made}
use Rattle.circuit_threads.specs.History.{Line, Replay, opening, replay, line_of}
use Rattle.state_replay.proofs.LawLemmas.{entries-made}
use Rattle.state_replay.proofs.laws.run_law.Goals as goal

pub returns : goal.returns
returns c = λ first es same.
    let p = replay (opening first) (map Made es) in (
      p.router,
      p.stop,
      ap {A = List Line} {B = Replay} (λ (lines : List Line). record { router = p.router; lines = lines; stop = p.stop }) (same ∙ ap (map line_of) (sym (entries-made es))),
      entries-made es,
    )
