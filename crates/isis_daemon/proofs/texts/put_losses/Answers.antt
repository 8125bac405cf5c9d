use Rattle.std.proofs.Common.{sym, subst}
use Rattle.isis_daemon.specs.declared.command.Command.TheVariants.{Losses}
use Rattle.isis_daemon.specs.declared.status.Status.{Status}
use Rattle.isis_daemon.specs.Runs.{EndsOn}
use Rattle.isis_daemon.proofs.LossesLemmas.{losses_end}
use Rattle.isis_daemon.proofs.texts.put_losses.Goals as goal

pub returns-in-Err-write_losses-clause-ends : goal.returns-in-Err-write_losses-clause-ends
returns-in-Err-write_losses-clause-ends g c =
    let put = g.O.Sink.put c.args.output.now in
    let later = g.O.Sink.put c.write_losses.new.out in
    subst (λ (end : Status). EndsOn (Losses c.args.most c.args.part) c.args.text.now put later end) (sym c.from-in-Err-write_losses.ensures)
    (losses_end c.args.most c.args.part c.args.text.now c.in-Ok.script put later c.in-Err-write_losses.fault c.in-Ok.ensures c.in-Err-write_losses.ensures.ends)
