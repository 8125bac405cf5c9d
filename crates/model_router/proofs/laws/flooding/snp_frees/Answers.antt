-- An SNP that lists an LSP ID as new frees its flag.
use Rattle.model_router.proofs.FreeLemmas.{snp-frees}
use Rattle.model_router.proofs.laws.flooding.snp_frees.Goals as goal

pub returns : goal.returns
returns c = snp-frees
