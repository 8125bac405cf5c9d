use Rattle.std.proofs.Common.{get_or, arith}
use Rattle.std.proofs.lemmas.List.Elements.{Contains-get_or}
use Rattle.spf_tree.specs.declared.row.Row.{Row}
use Rattle.spf_repair.specs.Feed.{IsOfferedOn}
use Rattle.spf_tree.proofs.SearchLemmas.{no_row}
use Rattle.spf_tree.proofs.SearchLemmas.{upto_more}
use Rattle.spf_repair.proofs.FeedLemmas.{given_fed, given_kept, given_covers, covers_kept}
use Rattle.spf_repair.proofs.feed.feed_added.Goals as goal

pub loop-place-preserved : goal.loop-place-preserved
loop-place-preserved g c =
    let labels = c.args.labels.now in
    let root = c.args.root in
    let added = c.args.added.now in
    let m = c.loop-place.place in
    let row = get_or added m no_row in
    let inv = c.loop-place.invariant in
    let old = c.loop-place.queue in
    let new = c.give.new.queue in
    let tick = c.tick.ensures in
    let count = inv.steps in
    let kept = given_kept labels root row old new c.in-Ok.ensures in
    record {
      fed = given_fed c.args.rows.now root labels row old new (c.requires.there row (Contains-get_or added m no_row c.loop-place-test.true)) inv.fed c.in-Ok.ensures;
      kept = λ o h. kept o (inv.kept o h);
      covers = upto_more added (λ (r : Row). IsOfferedOn labels root new r) m no_row c.loop-place-test.true (λ k d h. covers_kept root labels (get_or added k d) old new kept (inv.covers k d h)) (given_covers root labels row old new c.in-Ok.ensures);
      steps = omega arith;
    }
