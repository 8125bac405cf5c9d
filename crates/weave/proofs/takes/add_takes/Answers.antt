use Rattle.std.proofs.Common.{List, map, take, sym, subst, arith}
use Rattle.weave_model.specs.Entries.{Entry}
use Rattle.weave_replay.specs.Entries.{entry_of}
use Rattle.weave_replay.proofs.PlaceLemmas.{nth-get, nth-map, take-more}
use Rattle.weave.specs.Coded.{HasPort, AreLettered}
use Rattle.weave.proofs.ItemLemmas.{all-at}
use Rattle.weave.proofs.LetterLemmas.{kept-on, all-lettered-kept, lettered-more}
use Rattle.weave.proofs.takes.add_takes.Goals as goal

pub add_take-requires : goal.add_take-requires
add_take-requires c =
    let x = c.index-entries-place.result in
    all-at (λ (e : Entry). HasPort c.args.ports.now e.deed) (map entry_of c.args.entries.now) c.loop-place.place (entry_of x) c.requires
    (nth-map entry_of c.args.entries.now c.loop-place.place x (nth-get c.args.entries.now c.loop-place.place x (omega (arith, c.loop-place-test.true)) c.index-entries-place.is))

pub loop-place-preserved : goal.loop-place-preserved
loop-place-preserved c =
    let x = c.index-entries-place.result in
    let at = nth-map entry_of c.args.entries.now c.loop-place.place x (nth-get c.args.entries.now c.loop-place.place x (omega (arith, c.loop-place-test.true)) c.index-entries-place.is) in
    record {
      kept = kept-on c.args.book.now c.loop-place.book c.add_take.new.book c.loop-place.invariant.kept c.in-Ok.ensures.kept;
      lettered =
          subst (λ (es : List Entry). AreLettered c.add_take.new.book c.args.ports.now es) (sym (take-more (map entry_of c.args.entries.now) c.loop-place.place (entry_of x) at))
          (lettered-more c.add_take.new.book c.args.ports.now (take c.loop-place.place (map entry_of c.args.entries.now)) (entry_of x)
          (all-lettered-kept c.loop-place.book c.add_take.new.book c.args.ports.now (take c.loop-place.place (map entry_of c.args.entries.now)) c.in-Ok.ensures.kept c.loop-place.invariant.lettered) c.in-Ok.ensures.lettered);
    }
