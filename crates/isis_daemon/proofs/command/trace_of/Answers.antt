use Rattle.std.proofs.Common.{map, string_bytes}
use Rattle.isis_daemon.specs.declared.command.TraceAsked.{TraceAsked}
use Rattle.isis_daemon.proofs.TraceLemmas.{alone-if}
use Rattle.isis_daemon.proofs.command.trace_of.Goals as goal

pub returns-clause-alone : goal.returns-clause-alone
returns-clause-alone c =
    alone-if (λ (asked : TraceAsked). (asked.name.now, asked.address)) c.trace_in.result (map string_bytes c.args.words.now) c.trace_in.ensures
