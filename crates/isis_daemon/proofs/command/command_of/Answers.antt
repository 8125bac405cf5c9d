use Rattle.std.proofs.Common.{string_bytes, sym}
use Rattle.isis_daemon.proofs.OptionLemmas.{no_command}
use Rattle.isis_daemon.proofs.command.command_of.Goals as goal

pub returns-in_default-2-clause-value : goal.returns-in_default-2-clause-value
returns-in_default-2-clause-value c = sym (no_command string_bytes c.args.words.now c.in_default.len_at_least)
