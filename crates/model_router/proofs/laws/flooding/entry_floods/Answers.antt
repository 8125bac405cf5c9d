-- An entry that is heard keeps the flooding of every LSP ID on every circuit.
use Rattle.model_router.proofs.FloodLemmas.{entry-floods}
use Rattle.model_router.proofs.laws.flooding.entry_floods.Goals as goal

pub returns : goal.returns
returns c = entry-floods
