use Rattle.std.proofs.Common.{arith}
use Rattle.hmac_auth.proofs.PduLemmas.{header-least}
use Rattle.hmac_auth.proofs.check.has_purge_body.Goals as goal

pub is_purge-requires : goal.is_purge-requires
is_purge-requires c = let least = header-least c.args.pdu.now c.args.header c.requires in omega arith
