use Rattle.circuit_threads.specs.LineRests.{text_from}
use Rattle.circuit_threads.proofs.LineLemmas.{octets-parts}
use Rattle.circuit_threads.proofs.line.LineRest.add_octets.Goals as goal

pub returns-clause-text : goal.returns-clause-text
returns-clause-text c = let s = c.args.self.now in octets-parts c.args.page.now c.add_hex.new.self s.octets.now (text_from s.entry.now s.stage) c.min-count.result c.add_hex.ensures
