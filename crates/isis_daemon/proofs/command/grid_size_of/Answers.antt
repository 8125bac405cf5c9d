use Rattle.std.proofs.Common.{map, string_bytes}
use Rattle.isis_daemon.proofs.OptionLemmas.{grid_alone}
use Rattle.isis_daemon.proofs.command.grid_size_of.Goals as goal

pub returns-clause-alone : goal.returns-clause-alone
returns-clause-alone c = grid_alone c.size_in.result (map string_bytes c.args.words.now) c.size_in.ensures.size
