use Rattle.state_replay.proofs.EndLemmas.{state-ok, state-err}
use Rattle.state_replay.proofs.write.read_state.Goals as goal

pub returns-in-Err-read_front-clause-err : goal.returns-in-Err-read_front-clause-err
returns-in-Err-read_front-clause-err g c =
    let (octets, took, refused) = c.in-Err-read_front.ensures.err in
    (octets, took, refused c.args.boot c.args.most)

pub returns-clause-ok : goal.returns-clause-ok
returns-clause-ok g c =
    let (octets, took, front) = c.in-Ok-read_front.ensures.ok in
    state-ok _ _ _ octets c.read_front.new.lines.pending c.as_slice.result.now c.args.boot c.args.most _ c.in-Ok-read_front.front c.in-Ok-open.router took front
    c.as_slice.ensures c.in-Ok-open.ensures.start c.state_after.result c.state_after.ensures.ok

pub returns-clause-err : goal.returns-clause-err
returns-clause-err g c =
    let (octets, took, front) = c.in-Ok-read_front.ensures.ok in
    state-err _ _ _ octets c.read_front.new.lines.pending c.as_slice.result.now c.args.boot c.args.most _ c.in-Ok-read_front.front c.in-Ok-open.router took front
    c.as_slice.ensures c.in-Ok-open.ensures.start c.state_after.result c.state_after.ensures.err
