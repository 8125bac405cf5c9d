use Rattle.std.proofs.Common.{◌≡◌, ◌+◌, List, get_or, sym, ap, subst}
use Rattle.std.proofs.lemmas.List.{get_or_default}
use Rattle.isis_base.specs.declared.prefix.Prefix.{Prefix}
use Rattle.route_table.specs.declared.patch.Patch.{Patch}
use Rattle.route_table.specs.Ranks.{prefix_number}
use Rattle.route_table.specs.Order.{IsListedHop}
use Rattle.route_table.specs.Patches.{HavePatches, IsPatchOf}
use Rattle.route_table.proofs.PatchLemmas.{have_none, have_again, have_one}
use Rattle.route_table.proofs.patch.all_patches.Goals as goal

pub loop-place-init : goal.loop-place-init
loop-place-init c =
    subst (λ (list : List Patch). HavePatches (IsListedHop c.args.one.now c.args.two.now) c.args.sorted.now c.args.prefixes.now list 0) (sym c.new-list.ensures.items)
    (have_none (IsListedHop c.args.one.now c.args.two.now) c.args.sorted.now c.args.prefixes.now)

pub loop-place-preserved-then-is_again : goal.loop-place-preserved-then-is_again
loop-place-preserved-then-is_again c = have_again (IsListedHop c.args.one.now c.args.two.now) c.args.sorted.now c.args.prefixes.now c.loop-place.list.items c.loop-place.place c.loop-place.invariant c.if-is_again.ensures

pub loop-place-preserved : goal.loop-place-preserved
loop-place-preserved c =
    let H = IsListedHop c.args.one.now c.args.two.now in
    let ps = c.args.prefixes.now in
    let p = c.in-Ok.patch in
    let is = c.in-Ok.ensures in
    let at_place : (d : Prefix) → get_or ps c.loop-place.place d ≡ p.prefix = λ d. (let x = get_or_default ps c.loop-place.place d c.index-prefixes-place.result c.loop-place-test.true in let y = c.index-prefixes-place.is in let z = is.prefix in cc) in
    subst (λ (list : List Patch). HavePatches H c.args.sorted.now ps list (c.loop-place.place + 1)) (sym c.in-Ok-push.ensures.items)
    (have_one H c.args.sorted.now ps c.loop-place.list.items c.loop-place.place p c.requires.prefixes c.loop-place-test.true c.loop-place.invariant c.if-is_again.ensures
    (subst (λ (x : Prefix). IsPatchOf H c.args.sorted.now x p) (sym is.prefix) is)
    (λ d. ap prefix_number (at_place d)))
