use Rattle.std.proofs.Common.{map, string_bytes}
use Rattle.isis_daemon.specs.declared.command.WalkAsked.{WalkAsked}
use Rattle.isis_daemon.proofs.WalkLemmas.{alone-if}
use Rattle.isis_daemon.proofs.command.walk_of.Goals as goal

pub returns-clause-alone : goal.returns-clause-alone
returns-clause-alone c =
    alone-if (λ (asked : WalkAsked). (asked.name.now, asked.prefix)) c.asked_in.result (map string_bytes c.args.words.now) c.asked_in.ensures
