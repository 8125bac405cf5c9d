use Rattle.std.proofs.Common.{◌≡◌, ◌∙◌, ap, List, length, map, sym, subst}
use Rattle.std.proofs.lemmas.List.{with_items_is, length-map}
use Rattle.model_router.specs.Sorted.{RisesFrom}
use Rattle.lsp_fragments.specs.declared.kept.Kept.{Kept}
use Rattle.lsp_fragments.specs.Kept.{by_id, older_kept}
use Rattle.lsp_fragments.proofs.ShownLemmas.{older-rises}
use Rattle.lsp_fragments.proofs.by_id.age_all.Goals as goal

pub returns-clause-items : goal.returns-clause-items
returns-clause-items c =
    let aged = c.age.ensures ∙ ap (map older_kept) c.deref_mut.ensures.value in
    let count : length c.age.new.list ≡ c.args.list.now.len = ap length aged ∙ length-map c.args.list.now.items older_kept ∙ sym c.args.list.now.ok.0 in
    with_items_is c.args.list.now c.age.new.list count ∙ aged

pub returns-clause-rises : goal.returns-clause-rises
returns-clause-rises c =
    let aged = c.age.ensures ∙ ap (map older_kept) c.deref_mut.ensures.value in
    let count : length c.age.new.list ≡ c.args.list.now.len = ap length aged ∙ length-map c.args.list.now.items older_kept ∙ sym c.args.list.now.ok.0 in
    subst (λ (xs : List Kept). RisesFrom 0 (by_id xs)) (sym (with_items_is c.args.list.now c.age.new.list count ∙ aged)) (older-rises c.args.list.now.items 0 c.requires)
