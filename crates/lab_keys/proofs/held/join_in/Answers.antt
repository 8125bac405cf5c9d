use Rattle.std.proofs.Common.{arith}
use Rattle.lab_keys.proofs.HeldLemmas.{Joins-newer, Joins-older, Joins-first}
use Rattle.lab_keys.proofs.held.join_in.Goals as goal

pub returns-in-Older : goal.returns-in-Older
returns-in-Older c =
    let place = rw c.deref.ensures.value at c.in-Ok.ensures in
    Joins-newer _ _ _ c.index-entry.result.now c.requires.rising place c.index-entry.ensures (let older = c.in-Older.ensures in omega arith)

pub returns-in-Same : goal.returns-in-Same
returns-in-Same c =
    let place = rw c.deref.ensures.value at c.in-Ok.ensures in
    Joins-older _ _ _ c.index-entry.result.now c.requires.rising place c.index-entry.ensures (let same = c.in-Same.ensures in omega arith)

pub returns-in-Newer : goal.returns-in-Newer
returns-in-Newer c =
    let place = rw c.deref.ensures.value at c.in-Ok.ensures in
    Joins-older _ _ _ c.index-entry.result.now c.requires.rising place c.index-entry.ensures (let newer = c.in-Newer.ensures in omega arith)

pub returns-in-Err : goal.returns-in-Err
returns-in-Err c =
    let gap = rw c.deref.ensures.value at c.in-Err.ensures in
    rw (c.insert.ensures.items, c.unwrap.ensures) (Joins-first _ _ _ c.requires.rising gap)
