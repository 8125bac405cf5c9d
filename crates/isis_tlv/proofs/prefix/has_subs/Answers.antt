use Rattle.isis_tlv.proofs.BitLemmas.{subs-mark}
use Rattle.isis_tlv.proofs.prefix.has_subs.Goals as goal

pub returns : goal.returns
returns c = subs-mark c.args.control
