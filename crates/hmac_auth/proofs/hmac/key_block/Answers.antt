use Rattle.std.proofs.Common.{rules}
use Rattle.hmac_auth.proofs.HmacLemmas.{key_block-short}
use Rattle.hmac_auth.proofs.hmac.key_block.Goals as goal

pub returns-else-key-gt-BLOCK : goal.returns-else-key-gt-BLOCK
returns-else-key-gt-BLOCK c = search (rules, key_block-short)
