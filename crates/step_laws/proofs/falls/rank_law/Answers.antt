-- The rank of a key falls only where a second lets its LSP ID go.
use Rattle.step_laws.proofs.FallLemmas.{fall-is-let_go}
use Rattle.step_laws.proofs.falls.rank_law.Goals as goal

pub returns : goal.returns
returns c = fall-is-let_go
