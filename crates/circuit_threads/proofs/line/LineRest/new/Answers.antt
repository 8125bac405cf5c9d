use Rattle.circuit_threads.proofs.LineLemmas.{line-parts}
use Rattle.circuit_threads.proofs.line.LineRest.new.Goals as goal

pub returns : goal.returns
returns c = line-parts c.args.entry.now
