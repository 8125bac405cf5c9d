use Rattle.std.proofs.Common.{◌≡◌, ◌↔◌, ℕ, true, List, sym, subst}
use Rattle.std.proofs.lemmas.Result.{IfOk-weaker}
use Rattle.route_table.specs.declared.patch.Patch.{Patch}
use Rattle.route_table.specs.Order.{IsListedHop}
use Rattle.route_table.specs.Patches.{ArePatches, IsListed, is_touched, PatchesOf}
use Rattle.route_table.proofs.PatchLemmas.{all_right, touched_as}
use Rattle.route_table.proofs.patch.patches_for.Goals as goal

pub returns-clause-patches : goal.returns-clause-patches
returns-clause-patches c =
    let H = IsListedHop c.args.one.now c.args.two.now in
    let have = rw (c.as_slice.ensures.value, c.as_slice-2.ensures.value) at c.in_ok-list.ensures in
    let right : ArePatches H c.args.candidates.now c.in_ok-list.list.items =
    all_right H c.in_ok-sorted.sorted.items c.args.candidates.now _ c.in_ok-list.list.items _ have c.in_ok-sorted.ensures.all c.in_ok-sorted.ensures.none in
    IfOk-weaker c.with_room.result (λ (p : PatchesOf). p.list ≡ c.in_ok-list.list.items) _ (λ p e. subst (λ (list : List Patch). ArePatches H c.args.candidates.now list) (sym e) right) c.with_room.ensures.list

pub returns-clause-touched : goal.returns-clause-touched
returns-clause-touched c =
    let H = IsListedHop c.args.one.now c.args.two.now in
    let have = rw (c.as_slice.ensures.value, c.as_slice-2.ensures.value) at c.in_ok-list.ensures in
    let ps = c.prefixes_in_order-prefixes.result.items in
    let each : (n : ℕ) → is_touched c.in_ok-list.list.items n ≡ true ↔ IsListed c.args.prefixes.items n = λ n.
    let t = touched_as H c.in_ok-sorted.sorted.items ps c.in_ok-list.list.items have n in
    let s = c.prefixes_in_order-prefixes.ensures.same n in
    ((λ h. s.1 (t.0 h)), (λ l. t.1 (s.0 l))) in
    IfOk-weaker c.with_room.result (λ (p : PatchesOf). p.list ≡ c.in_ok-list.list.items) _ (λ p e. subst (λ (list : List Patch). (n : ℕ) → is_touched list n ≡ true ↔ IsListed c.args.prefixes.items n) (sym e) each) c.with_room.ensures.list
