use Rattle.std.proofs.Common.{map, string_bytes}
use Rattle.isis_daemon.proofs.WeaveLemmas.{alone-if}
use Rattle.isis_daemon.proofs.command.weave_of.Goals as goal

pub returns-clause-alone : goal.returns-clause-alone
returns-clause-alone c = alone-if c.weave_in.result (map string_bytes c.args.words.now) c.weave_in.ensures
