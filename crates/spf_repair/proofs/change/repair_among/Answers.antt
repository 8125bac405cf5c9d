use Rattle.std.proofs.Common.{◌≡◌, ◌+◌, ◌∙◌, ℕ, List, length, sym, subst, arith}
use Rattle.std.specs.List.{Contains}
use Rattle.spf_tree.specs.declared.row.Row.{Row}
use Rattle.spf_tree.specs.Walks.{start, end, AreLeast}
use Rattle.spf_tree.specs.Labels.{at, names}
use Rattle.spf_tree.specs.Search.{AreNamed}
use Rattle.spf_repair.specs.Erase.{HasParallel}
use Rattle.spf_repair.specs.Change.{AreChanged}
use Rattle.spf_repair.specs.Feed.{IsFed}
use Rattle.spf_repair.proofs.EraseLemmas.{struck_kept}
use Rattle.spf_repair.proofs.FeedLemmas.{covers_kept, marked_open}
use Rattle.spf_repair.proofs.ChangeLemmas.{loose_start, named_by, bound_is, none_marked}
use Rattle.spf_repair.proofs.change.repair_among.Goals as goal

pub carried-requires : goal.carried-requires
carried-requires g c = c.in-Ok-erase.ensures.names ∙ c.in-Ok-strike_all.ensures.grown.names ∙ c.in-Ok.ensures.names

pub relabel-requires-clause-named : goal.relabel-requires-clause-named
relabel-requires-clause-named g c =
    subst (λ (rs : List Row). AreNamed rs c.args.root (names c.in-Ok-carried.labels)) (sym c.rows-rows.ensures)
    (named_by c.args.indexed.now.rows c.args.indexed.now.nodes c.args.root c.in-Ok-carried.labels c.kept.ensures c.requires.among c.in-Ok-carried.ensures.names)

pub feed_added-requires-clause-fed : goal.feed_added-requires-clause-fed
feed_added-requires-clause-fed g c =
    subst (λ (rs : List Row). IsFed rs c.args.root c.in-Ok-carried.labels c.feed_given_up.new.queue) (sym c.rows-rows.ensures) c.in-Ok-feed_given_up.ensures.fed

pub feed_added-requires-clause-there : goal.feed_added-requires-clause-there
feed_added-requires-clause-there g c =
    let rows = c.rows-rows.result.now in
    let differ : AreChanged c.args.before.now rows c.args.removed.now c.args.added.now = subst (λ (rs : List Row). AreChanged c.args.before.now rs c.args.removed.now c.args.added.now) (sym c.rows-rows.ensures) c.requires.differ in
    differ.there

pub relabel-requires-clause-loose : goal.relabel-requires-clause-loose
relabel-requires-clause-loose g c =
    let rows = c.rows-rows.result.now in
    let differ : AreChanged c.args.before.now rows c.args.removed.now c.args.added.now = subst (λ (rs : List Row). AreChanged c.args.before.now rs c.args.removed.now c.args.added.now) (sym c.rows-rows.ensures) c.requires.differ in
    let named : AreNamed rows c.args.root (names c.in-Ok-carried.labels) =
    subst (λ (rs : List Row). AreNamed rs c.args.root (names c.in-Ok-carried.labels)) (sym c.rows-rows.ensures)
    (named_by c.args.indexed.now.rows c.args.indexed.now.nodes c.args.root c.in-Ok-carried.labels c.kept.ensures c.requires.among c.in-Ok-carried.ensures.names) in
    loose_start c.args.before.now rows c.args.removed.now c.args.added.now c.args.root c.args.old.now c.erase.new.marks c.in-Ok-carried.labels c.feed_given_up.new.queue c.feed_added.new.queue
    c.requires.least differ
    (λ row h. struck_kept rows c.args.root c.args.old.now c.strike_all.new.marks c.erase.new.marks row c.in-Ok-erase.ensures.kept (c.in-Ok-strike_all.ensures.struck row h))
    c.in-Ok-erase.ensures.closed named c.in-Ok-carried.ensures.from c.in-Ok-carried.ensures.into
    c.in-Ok-feed_added.ensures.fed
    (λ row there m. covers_kept c.args.root c.in-Ok-carried.labels row c.feed_given_up.new.queue c.feed_added.new.queue c.in-Ok-feed_added.ensures.kept
    (c.in-Ok-feed_given_up.ensures.covers row (subst (λ (rs : List Row). Contains rs row) c.rows-rows.ensures there)
    (subst (λ (ns : List ℕ). Contains ns (end row)) (sym c.as_slice.ensures.value) (c.in-Ok-erase.ensures.inside (end row) m))
    (marked_open c.args.old.now c.erase.new.marks c.in-Ok-carried.labels c.in-Ok-carried.ensures.from (end row) m)))
    c.in-Ok-feed_added.ensures.covers

pub returns-in-Ok-relabel-clause-least : goal.returns-in-Ok-relabel-clause-least
returns-in-Ok-relabel-clause-least g c = subst (λ (rs : List Row). AreLeast rs c.args.root (at c.relabel.new.labels)) c.rows-rows.ensures c.in-Ok-relabel.ensures.least

pub returns-in-Ok-relabel-clause-bound : goal.returns-in-Ok-relabel-clause-bound
returns-in-Ok-relabel-clause-bound g c = λ all.
    let rows = c.rows-rows.result.now in
    let here : (row : Row) → Contains c.args.removed.now row → HasParallel rows (start row) (end row) row.metric = subst (λ (rs : List Row). (row : Row) → Contains c.args.removed.now row → HasParallel rs (start row) (end row) row.metric) (sym c.rows-rows.ensures) all in
    let strike = c.in-Ok-strike_all.ensures.spared here in
    let erased = c.in-Ok-erase.ensures.spared (strike.1 ∙ c.new-nodes.ensures.items) in
    let first = c.in-Ok-strike_all.ensures.steps in
    let second = c.in-Ok-feed_added.ensures.steps in
    let middle : c.feed_added.new.steps ≡ c.args.steps.now + (length c.args.removed.now + length c.args.added.now) = omega arith in
    bound_is c.args.old.now c.in-Ok-carried.labels c.relabel.new.labels c.erase.new.marks c.relabel.new.queue (length c.args.removed.now + length c.args.added.now) c.args.steps.now c.feed_added.new.steps c.relabel.new.steps
    middle c.in-Ok-relabel.ensures.counted c.in-Ok-relabel.ensures.names (none_marked c.in-Ok.marks c.erase.new.marks c.in-Ok.ensures.none (erased ∙ strike.0)) c.in-Ok-carried.ensures.into
