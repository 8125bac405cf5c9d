use Rattle.std.proofs.Common.{List, ℕ, map, ap, refl, sym, subst, arith, ◌∙◌}
use Rattle.isis_tlv.specs.declared.prefix.PrefixItem.{PrefixItem}
use Rattle.model_router.specs.LspPrefixes.{Reach}
use Rattle.model_router.specs.Sorted.{RisesFrom}
use Rattle.lsp_fragments.specs.Entries.{reach_pair}
use Rattle.ordered.proofs.MapLemmas.{put-rises}
use Rattle.router_wanted.proofs.reaches.add_leak.Goals as goal

pub returns-in-Ok-clause-rises : goal.returns-in-Ok-clause-rises
returns-in-Ok-clause-rises c =
    let spot = rw c.deref.ensures.value at c.in-Some.ensures in
    let put = ap (λ (m : List PrefixItem). map reach_pair m) c.in-Ok.ensures.items ∙ spot.2 c.args.item refl in
    subst (λ (m : List (ℕ × Reach)). RisesFrom 0 m) (sym put) (put-rises _ 0 _ _ (omega arith) c.requires)
