use Rattle.lab_losses.proofs.ReplayLemmas.{refused-done}
use Rattle.lab_losses.proofs.replay.Replay.go.Goals as goal

pub returns-in-Err-clause-done : goal.returns-in-Err-clause-done
returns-in-Err-clause-done c =
    refused-done c.args.self.now.script.now c.args.self.now.went_on c.args.self.now.net c.apply.new.self c.args.event c.apply.result c.apply.new.self.seen.sent c.in-Err.fault c.stopped.result
    c.requires.line c.in-Err.ensures.cause c.apply.ensures.refused c.stopped.ensures
