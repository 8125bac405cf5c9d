use Rattle.std.proofs.Common.{arith}
use Rattle.spf_tree.proofs.NodeLemmas.{system_is}
use Rattle.capture_text.proofs.backups.system_of.Goals as goal

pub returns : goal.returns
returns c = system_is c.from_number.result c.args.node (omega arith) (omega arith) (omega arith) c.from_number.ensures c.requires
