use Rattle.std.proofs.Common.{ap, sym, ◌∙◌}
use Rattle.std.specs.List.{list_any}
use Rattle.std.proofs.lemmas.Result.{IfOk-weaker}
use Rattle.forward_views.specs.Looks.{Look}
use Rattle.walk_text.proofs.LookLemmas.{same-look}
use Rattle.walk_text.proofs.SettledLemmas.{items-are, attached-is, came_down, none-attached, none-down, settled-by}
use Rattle.walk_text.proofs.settled.SettledTest.passes.Goals as goal
use Rattle.walk_text.proofs.settled.SettledTest.passes.Goals.{then-is_attached-via-then-is_attached, then-is_attached-via-else-is_attached+then-has_down}

pub returns-then-is_attached : goal.returns-then-is_attached
returns-then-is_attached c = λ look e of settled.
    let r = c.args.router.now in
    let entries = c.level_one-store.result.now.entries in
    let system = c.system_of-system.result in
    elim c.then-is_attached.branch [
      | then-is_attached-via-then-is_attached w ↦
          none-attached look c.is_attached.result w.if-is_attached.true
          (c.is_attached.ensures ∙ sym (attached-is look r entries system e c.level_one-store.ensures.told c.system_of-system.ensures c.level_one-store.ensures.rises)) settled
      | then-is_attached-via-else-is_attached+then-has_down w ↦
          none-down look w.as_slice.result.now
          (items-are look r entries system e c.level_one-store.ensures.told c.system_of-system.ensures c.level_one-store.ensures.rises ∙ sym (w.as_slice.ensures.value ∙ c.in_ok-items.ensures))
          (sym w.has_down.ensures ∙ w.if-has_down.true) settled
    ]

pub returns : goal.returns
returns c =
    let r = c.args.router.now in
    let entries = c.level_one-store.result.now.entries in
    let system = c.system_of-system.result in
    IfOk-weaker c.lists_own.result _ _ (λ yes same look e of.
    settled-by yes look c.as_slice-2.result.now c.list.result.now
    (items-are look r entries system e c.level_one-store.ensures.told c.system_of-system.ensures c.level_one-store.ensures.rises ∙ sym (c.as_slice-2.ensures.value ∙ c.in_ok-items.ensures))
    (ap (λ (l : Look). l.routes) (same-look look (record { router = r; routes = c.routes.result.now }) e of c.routes.ensures) ∙ sym c.list.ensures.same)
    (ap (list_any came_down) (c.as_slice-2.ensures.value ∙ sym c.as_slice.ensures.value) ∙ (sym c.has_down.ensures ∙ c.if-has_down.false))
    (attached-is look r entries system e c.level_one-store.ensures.told c.system_of-system.ensures c.level_one-store.ensures.rises ∙ (sym c.is_attached.ensures ∙ c.if-is_attached.false))
    same) c.lists_own.ensures
