use Rattle.std.proofs.Common.{◌+◌, ◌∷◌, [], ◌++◌, List, map, take, sym, subst, arith}
use Rattle.weave_core.specs.declared.moves.Move.{Move as CoreMove}
use Rattle.weave_model.specs.Entries.{Entry}
use Rattle.weave_replay.specs.Entries.{entry_of}
use Rattle.weave_replay.proofs.PlaceLemmas.{nth-get, nth-map, take-more}
use Rattle.weave.specs.Coded.{HasPort, IsLettered, AreAdded}
use Rattle.weave.proofs.ItemLemmas.{all-at}
use Rattle.weave.proofs.TrackLemmas.{added-more}
use Rattle.weave.proofs.coding.add_entries.Goals as goal

pub move_of-requires-clause-on : goal.move_of-requires-clause-on
move_of-requires-clause-on c =
    let x = c.index-entries-place.result in
    all-at (λ (e : Entry). HasPort c.args.ports.now e.deed) (map entry_of c.args.entries.now) c.loop-place.place (entry_of x) c.requires.on
    (nth-map entry_of c.args.entries.now c.loop-place.place x (nth-get c.args.entries.now c.loop-place.place x (omega (arith, c.loop-place-test.true)) c.index-entries-place.is))

pub move_of-requires-clause-lettered : goal.move_of-requires-clause-lettered
move_of-requires-clause-lettered c =
    let x = c.index-entries-place.result in
    all-at (λ (e : Entry). IsLettered c.args.book.now c.args.ports.now e.deed) (map entry_of c.args.entries.now) c.loop-place.place (entry_of x) c.requires.lettered
    (nth-map entry_of c.args.entries.now c.loop-place.place x (nth-get c.args.entries.now c.loop-place.place x (omega (arith, c.loop-place-test.true)) c.index-entries-place.is))

pub loop-place-preserved : goal.loop-place-preserved
loop-place-preserved c =
    let x = c.index-entries-place.result in
    let es = map entry_of c.args.entries.now in
    let at = nth-map entry_of c.args.entries.now c.loop-place.place x (nth-get c.args.entries.now c.loop-place.place x (omega (arith, c.loop-place-test.true)) c.index-entries-place.is) in
    subst (λ (ms : List CoreMove). AreAdded c.args.book.now c.args.ports.now (take (c.loop-place.place + 1) es) c.args.moves.now.items ms) (sym c.in-Ok-push.ensures.items)
    (subst (λ (xs : List Entry). AreAdded c.args.book.now c.args.ports.now xs c.args.moves.now.items (c.loop-place.moves.items ++ c.in-Ok.next ∷ [])) (sym (take-more es c.loop-place.place (entry_of x) at))
    (added-more c.args.book.now c.args.ports.now (take c.loop-place.place es) (entry_of x) c.args.moves.now.items c.loop-place.moves.items c.in-Ok.next c.loop-place.invariant c.in-Ok.ensures))
