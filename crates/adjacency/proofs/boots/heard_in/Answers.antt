use Rattle.std.proofs.Common.{sym}
use Rattle.adjacency.proofs.PairLemmas.{find-pair, find-no_pair}
use Rattle.adjacency.proofs.boots.heard_in.Goals as goal

pub returns-in-Ok : goal.returns-in-Ok
returns-in-Ok c =
    let at = rw c.in-Ok.is at c.place_in.ensures in
    sym (find-pair c.args.list.now _ c.in-Ok.at (0, 0) at)

pub returns-in-Err : goal.returns-in-Err
returns-in-Err c =
    let at = rw c.in-Err.is at c.place_in.ensures in
    sym (find-no_pair c.args.list.now _ c.in-Err.field-0 at)
