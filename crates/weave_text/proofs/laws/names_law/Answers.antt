use Rattle.weave_text.proofs.NamingLemmas.{names-found}
use Rattle.weave_text.proofs.laws.names_law.Goals as goal

pub returns : goal.returns
returns c = names-found
