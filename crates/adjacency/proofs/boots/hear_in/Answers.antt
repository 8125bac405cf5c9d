use Rattle.std.proofs.Common.{◌∙◌, sym, refl, arith}
use Rattle.adjacency.proofs.PairLemmas.{free-pair, free-gap, full-gap, kept-pair, kept-new_pair, boots-kept}
use Rattle.adjacency.proofs.boots.hear_in.Goals as goal

pub returns-then-len-ge-MOST-clause-full : goal.returns-then-len-ge-MOST-clause-full
returns-then-len-ge-MOST-clause-full c =
    let at = rw c.in-Err.is at (rw c.deref.ensures.value at c.place_in.ensures) in
    full-gap c.args.list.now.items _ c.in-Err.at c.len.result at (c.len.ensures ∙ c.args.list.now.ok.0) c.if-len-ge-MOST.true

pub returns-in-Ok-clause-boots : goal.returns-in-Ok-clause-boots
returns-in-Ok-clause-boots c =
    let at = rw c.in-Ok.is at (rw c.deref.ensures.value at c.place_in.ensures) in
    boots-kept c.args.list.now.items _ _ _ _ _ c.requires (free-pair c.args.list.now.items _ c.in-Ok.at (0, 0) at)
    (kept-pair c.args.list.now.items _ c.in-Ok.at _ c.args.boot _ c.index.result.now at c.system_to_number-number.ensures.value c.index.ensures c.greater.ensures) refl

pub returns-in-Ok-clause-full : goal.returns-in-Ok-clause-full
returns-in-Ok-clause-full c =
    let at = rw c.in-Ok.is at (rw c.deref.ensures.value at c.place_in.ensures) in
    sym (free-pair c.args.list.now.items _ c.in-Ok.at (0, 0) at)

pub returns-in-Ok-clause-kept : goal.returns-in-Ok-clause-kept
returns-in-Ok-clause-kept c =
    let at = rw c.in-Ok.is at (rw c.deref.ensures.value at c.place_in.ensures) in
    kept-pair c.args.list.now.items _ c.in-Ok.at _ c.args.boot _ c.index.result.now at c.system_to_number-number.ensures.value c.index.ensures c.greater.ensures

pub returns-else-len-ge-MOST-clause-boots : goal.returns-else-len-ge-MOST-clause-boots
returns-else-len-ge-MOST-clause-boots c =
    let at = rw c.in-Err.is at (rw c.deref.ensures.value at c.place_in.ensures) in
    let items = rw c.unwrap.ensures at c.insert.ensures.items in
    let len = c.len.ensures ∙ c.args.list.now.ok.0 in
    let short = c.if-len-ge-MOST.false in
    let room = c.requires.room in
    let same = c.insert.ensures.in_place (rw (c.args.list.now.ok.0) (omega (arith, len, short, room))) in
    boots-kept c.args.list.now.items _ _ _ _ _ c.requires (free-gap c.args.list.now.items _ c.len.result len (omega (arith, short)))
    (kept-new_pair c.args.list.now.items _ _ c.in-Err.at _ c.args.boot at c.system_to_number-number.ensures.value items) same.1.0

pub returns-else-len-ge-MOST-clause-kept : goal.returns-else-len-ge-MOST-clause-kept
returns-else-len-ge-MOST-clause-kept c =
    let at = rw c.in-Err.is at (rw c.deref.ensures.value at c.place_in.ensures) in
    kept-new_pair c.args.list.now.items _ _ c.in-Err.at _ c.args.boot at c.system_to_number-number.ensures.value (rw c.unwrap.ensures at c.insert.ensures.items)
