use Rattle.std.proofs.Common.{◌≡◌, List, sym, subst}
use Rattle.std.proofs.lemmas.Result.{IfOk-weaker}
use Rattle.std.specs.List.Sorted.{IsPermutation}
use Rattle.spf_tree.specs.declared.row.Row.{Row}
use Rattle.spf_repair.proofs.ReplaceLemmas.{moved_times}
use Rattle.router_routes.proofs.DifferenceLemmas.{differences-by}
use Rattle.router_routes.proofs.differences.rest_apart.Goals as goal

moved-is : (rows copy sorted lent : List Row) → copy ≡ rows → IsPermutation copy sorted → lent ≡ sorted → IsPermutation rows lent
moved-is rows copy sorted lent e moved f = subst (λ (l : List Row). IsPermutation l lent) e (subst (IsPermutation copy) (sym f) moved)

pub returns : goal.returns
returns c =
    let old = c.args.old.now in
    let new = c.args.new.now in
    let old-lent = c.as_slice.result.now in
    let new-lent = c.as_slice-2.result.now in
    let of-old = moved-is old c.in_ok-copy_of.field-0.items c.in_order-old_rows.result.items old-lent c.in_ok-copy_of.ensures c.in_order-old_rows.ensures.moved c.as_slice.ensures.value in
    let of-new = moved-is new c.in_ok-copy_of-2.field-0.items c.in_order-new_rows.result.items new-lent c.in_ok-copy_of-2.ensures c.in_order-new_rows.ensures.moved c.as_slice-2.ensures.value in
    IfOk-weaker c.parted.result _ _ (λ parts is.
    differences-by old new old-lent new-lent parts.0.items parts.1.items (λ x. moved_times old old-lent x of-old) (λ x. moved_times new new-lent x of-new) is) c.parted.ensures
