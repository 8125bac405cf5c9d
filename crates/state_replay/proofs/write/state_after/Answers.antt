use Rattle.state_replay.proofs.EndLemmas.{after-ok, after-err}
use Rattle.state_replay.proofs.write.state_after.Goals as goal

pub returns-clause-ok : goal.returns-clause-ok
returns-clause-ok g c =
    after-ok _ _ c.args.lines.pending _ c.args.router c.replay_lines-end.new.router c.args.head c.args.most _ _ c.text_at-made.ensures.ok c.replay_lines-end.ensures.ok
    c.replay_lines-end.ensures.few

pub returns-clause-err : goal.returns-clause-err
returns-clause-err g c =
    after-err _ _ c.args.lines.pending _ c.args.router c.replay_lines-end.new.router c.args.head c.args.most _ _ c.text_at-made.ensures.err c.replay_lines-end.ensures.ok
    c.replay_lines-end.ensures.err
