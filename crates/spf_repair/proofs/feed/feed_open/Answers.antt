use Rattle.std.proofs.Common.{◌<◌, ℕ, List, get_or, length, sym, subst}
use Rattle.std.proofs.lemmas.List.Elements.{Contains-get_or}
use Rattle.spf_tree.specs.declared.row.Row.{Row}
use Rattle.spf_tree.specs.Walks.{end}
use Rattle.spf_tree.specs.Places.{IsEdge}
use Rattle.spf_repair.specs.Feed.{IsOpen, IsGivenIf, IsOfferedOn}
use Rattle.spf_tree.proofs.SearchLemmas.{no_row}
use Rattle.spf_tree.proofs.SearchLemmas.{upto_more}
use Rattle.spf_repair.proofs.FeedLemmas.{alike_itself, if_fed, if_kept, if_covers, covers_kept}
use Rattle.spf_repair.proofs.feed.feed_open.Goals as goal

pub give_open-requires : goal.give_open-requires
give_open-requires c =
    let place = c.loop-place.place in
    subst (λ (ns : List ℕ). IsEdge ns (get_or c.rows-rows.result.now place no_row) c.edge.result) (sym c.requires.names)
    (subst (λ (rs : List Row). IsEdge c.args.indexed.now.nodes (get_or rs place no_row) c.edge.result) (sym c.rows-rows.ensures) (c.edge.ensures no_row))

pub loop-place-preserved : goal.loop-place-preserved
loop-place-preserved c =
    let labels = c.args.labels.now in
    let root = c.args.root in
    let rows = c.args.indexed.now.rows in
    let m = c.loop-place.place in
    let row = get_or rows m no_row in
    let inv = c.loop-place.invariant in
    let old = c.loop-place.queue in
    let new = c.give_open.new.queue in
    let less : m < length rows = subst (λ (rs : List Row). m < length rs) c.rows-rows.ensures c.loop-place-test.true in
    let given : IsGivenIf labels root row old new = subst (λ (rs : List Row). IsGivenIf labels root (get_or rs m no_row) old new) c.rows-rows.ensures c.in-Ok.ensures in
    let kept = if_kept labels root row old new given in
    record {
      fed = if_fed rows root labels row old new (alike_itself rows row (Contains-get_or rows m no_row less)) inv.fed given;
      covers = upto_more rows (λ (r : Row). IsOpen labels (end r) → IsOfferedOn labels root new r) m no_row less (λ k d h free. covers_kept root labels (get_or rows k d) old new kept (inv.covers k d h free)) (if_covers root labels row old new given);
    }
