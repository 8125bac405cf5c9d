use Rattle.std.proofs.Common.{◌≡◌, ◌≤◌, ◌+◌, List, length, take, ap, sym, subst, arith}
use Rattle.std.proofs.lemmas.List.Sorted.{length_permutation}
use Rattle.spf_tree.specs.declared.row.Row.{Row}
use Rattle.spf_tree.specs.Graphs.{times}
use Rattle.spf_repair.specs.Replace.{IsExchanged}
use Rattle.spf_repair.proofs.ReplaceLemmas.{exchanged_counts, moved_times, bounded_by}
use Rattle.spf_repair.proofs.replace.replaced.Goals as goal

pub without_rest-requires-clause-there : goal.without_rest-requires-clause-there
without_rest-requires-clause-there c = λ q.
    let out = c.in-Ok.out.items in
    let come = c.in-Ok-in_order.come.items in
    let rows = c.args.rows.now in
    let merged = c.exchange.new.merged.items in
    let found = c.in-Ok-exchange.findings.found in
    let x : IsExchanged rows out come merged (length rows) found (length come) =
    subst (λ (l : List Row). IsExchanged rows out l merged (length rows) found (length l)) c.as_slice-2.ensures.value
    (subst (λ (l : List Row). IsExchanged rows l c.as_slice-2.result.now merged (length rows) found (length c.as_slice-2.result.now)) c.as_slice.ensures.value c.in-Ok-exchange.ensures.exchanged) in
    let count = exchanged_counts rows c.args.removed.now c.args.added.now out come merged found q c.in-Ok.ensures.moved c.in-Ok-in_order.ensures.moved x in
    let fits = c.requires.there q in
    let moved = moved_times c.args.removed.now out q c.in-Ok.ensures.moved in
    let le : times out q ≤ times merged q + times (take found out) q = omega arith in
    subst (λ (l : List Row). times l q ≤ times merged q + times (take found l) q) (sym c.as_slice-in-Ok-exchange.ensures.value) le

pub returns-in-Ok-exchange-clause-times : goal.returns-in-Ok-exchange-clause-times
returns-in-Ok-exchange-clause-times c = λ q.
    let out = c.in-Ok.out.items in
    let come = c.in-Ok-in_order.come.items in
    let rows = c.args.rows.now in
    let merged = c.exchange.new.merged.items in
    let found = c.in-Ok-exchange.findings.found in
    let x : IsExchanged rows out come merged (length rows) found (length come) =
    subst (λ (l : List Row). IsExchanged rows out l merged (length rows) found (length l)) c.as_slice-2.ensures.value
    (subst (λ (l : List Row). IsExchanged rows l c.as_slice-2.result.now merged (length rows) found (length c.as_slice-2.result.now)) c.as_slice.ensures.value c.in-Ok-exchange.ensures.exchanged) in
    let count = exchanged_counts rows c.args.removed.now c.args.added.now out come merged found q c.in-Ok.ensures.moved c.in-Ok-in_order.ensures.moved x in
    let moved = moved_times c.args.removed.now out q c.in-Ok.ensures.moved in
    let left : times c.without_rest.result.rows.items q + times out q ≡ times merged q + times (take found out) q =
    subst (λ (l : List Row). times c.without_rest.result.rows.items q + times l q ≡ times merged q + times (take found l) q) c.as_slice-in-Ok-exchange.ensures.value (c.without_rest.ensures.times q) in
    omega arith

pub returns-in-Ok-exchange-clause-bounded : goal.returns-in-Ok-exchange-clause-bounded
returns-in-Ok-exchange-clause-bounded c =
    let out = c.in-Ok.out.items in
    let come = c.in-Ok-in_order.come.items in
    let rows = c.args.rows.now in
    let merged = c.exchange.new.merged.items in
    let found = c.in-Ok-exchange.findings.found in
    let x : IsExchanged rows out come merged (length rows) found (length come) =
    subst (λ (l : List Row). IsExchanged rows out l merged (length rows) found (length l)) c.as_slice-2.ensures.value
    (subst (λ (l : List Row). IsExchanged rows l c.as_slice-2.result.now merged (length rows) found (length c.as_slice-2.result.now)) c.as_slice.ensures.value c.in-Ok-exchange.ensures.exchanged) in
    let long = x.long in
    let of_out = length_permutation c.args.removed.now out c.in-Ok.ensures.moved in
    let of_come = length_permutation c.args.added.now come c.in-Ok-in_order.ensures.moved in
    let same = ap length c.as_slice-in-Ok-exchange.ensures.value in
    let left = c.without_rest.ensures.len in
    let few = c.requires.few in
    bounded_by c.without_rest.result.rows.items (omega arith) (c.without_rest.ensures.small x.small)
