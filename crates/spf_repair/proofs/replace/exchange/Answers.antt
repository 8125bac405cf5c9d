use Rattle.std.proofs.Common.{◌≡◌, ◌<◌, ℕ, get_or, length, sym, subst, arith}
use Rattle.spf_tree.proofs.SearchLemmas.{no_row}
use Rattle.spf_tree.specs.declared.row.Row.{Row}
use Rattle.spf_tree.specs.Walks.{start}
use Rattle.spf_repair.specs.Replace.{AreFrom, IsExchanged}
use Rattle.spf_repair.proofs.ReplaceLemmas.{strip_more, ends_both, ends_first, first_kept, first_strip, from_here, from_end, exchange_start, keep_between}
use Rattle.spf_repair.proofs.replace.exchange.Goals as goal

pub loop-place-init : goal.loop-place-init
loop-place-init c = record {
  exchanged =
      keep_between c.args.rows.now c.args.removed.now c.args.added.now c.args.merged.now.items c.keep.new.merged.items 0 c.quiet_rows-quiet.result 0 0 (omega arith) c.quiet_rows-quiet.ensures.within c.requires.bounded c.requires.rows
      c.quiet_rows-quiet.ensures.below c.in-Ok.ensures (exchange_start c.args.rows.now c.args.removed.now c.args.added.now c.args.merged.now.items c.requires.empty);
  first = first_kept c.args.rows.now c.args.merged.now.items c.keep.new.merged.items c.quiet_rows-quiet.result c.quiet_rows-quiet.ensures.within c.requires.empty c.in-Ok.ensures;
}

pub returns-in-Ok-keep-clause-exchanged : goal.returns-in-Ok-keep-clause-exchanged
returns-in-Ok-keep-clause-exchanged c =
    let rows = c.args.rows.now in
    let added = c.args.added.now in
    let x = c.loop-place.invariant.exchanged in
    let few = x.few_from in
    let past = c.if-from-added.true in
    let e : c.loop-place.from ≡ length added = omega (arith, few, past) in
    let in' = c.loop-place-test.true in
    let low : (k : ℕ) (d : Row) → k < length rows → AreFrom added c.loop-place.from (start (get_or rows k d)) = λ k d h. from_end added c.loop-place.from (start (get_or rows k d)) past in
    subst (λ (n : ℕ). IsExchanged rows c.args.removed.now added c.keep-then-from-added.new.merged.items (length rows) c.loop-place.found n) e
    (keep_between rows c.args.removed.now added c.loop-place.merged.items c.keep-then-from-added.new.merged.items c.loop-place.place (length rows) c.loop-place.found c.loop-place.from (omega (arith, in')) (omega arith) c.requires.bounded c.requires.rows low c.in-Ok-keep.ensures x)

pub loop-place-preserved : goal.loop-place-preserved
loop-place-preserved c =
    let rows = c.args.rows.now in
    let place = c.loop-place.place in
    record {
      exchanged = strip_more rows c.args.removed.now c.args.added.now c.put_below.new.merged.items c.strip.new.merged.items place c.loop-place.found c.in-Ok-strip.now c.in-Ok-put_below.now no_row c.loop-place-test.true c.requires.bounded c.requires.rows
          (subst (λ (n : ℕ). AreFrom c.args.added.now c.in-Ok-put_below.now n) c.number.ensures c.in-Ok-put_below.ensures.all)
          c.in-Ok-strip.ensures
          (c.in-Ok-put_below.ensures.put rows c.args.removed.now place c.loop-place.found (subst (λ (n : ℕ). AreFrom rows place n) (sym c.number.ensures) (from_here rows place no_row c.requires.rows c.loop-place-test.true)) c.loop-place.invariant.exchanged);
      first = first_strip rows c.args.removed.now c.put_below.new.merged.items c.strip.new.merged.items (get_or rows place no_row) c.loop-place.found c.in-Ok-strip.now c.quiet_rows-quiet.result c.in-Ok-strip.ensures
          (c.in-Ok-put_below.ensures.first rows c.quiet_rows-quiet.result c.loop-place.invariant.first);
    }

pub returns-in-Ok-put_rest-clause-exchanged : goal.returns-in-Ok-put_rest-clause-exchanged
returns-in-Ok-put_rest-clause-exchanged c =
    let end = c.loop-place.auto.place-end in
    let past = c.loop-place-test.false in
    let e : c.loop-place.place ≡ length c.args.rows.now = omega arith in
    c.in-Ok-put_rest.ensures.put c.args.rows.now c.args.removed.now c.loop-place.found (subst (λ (n : ℕ). IsExchanged c.args.rows.now c.args.removed.now c.args.added.now c.loop-place.merged.items n c.loop-place.found c.loop-place.from) e c.loop-place.invariant.exchanged)

pub returns-in-Ok-keep-clause-same : goal.returns-in-Ok-keep-clause-same
returns-in-Ok-keep-clause-same c =
    let in' = c.loop-place-test.true in
    ends_both c.args.rows.now c.loop-place.merged.items c.keep-then-from-added.new.merged.items c.quiet_rows-quiet.result c.loop-place.place c.loop-place.auto.place (omega arith) c.loop-place.invariant.first c.in-Ok-keep.ensures

pub returns-in-Ok-put_rest-clause-same : goal.returns-in-Ok-put_rest-clause-same
returns-in-Ok-put_rest-clause-same c =
    ends_first c.args.rows.now c.put_rest.new.merged.items c.quiet_rows-quiet.result c.quiet_rows-quiet.ensures.within (c.in-Ok-put_rest.ensures.first c.args.rows.now c.quiet_rows-quiet.result c.loop-place.invariant.first)
