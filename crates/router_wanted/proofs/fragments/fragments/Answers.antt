use Rattle.std.proofs.Common.{◌≤◌, ◌<◌, ◌^◌, length, subst}
use Rattle.std.proofs.lemmas.List.Elements.{All-take}
use Rattle.isis_tlv.specs.declared.neighbour.NeighbourItem.{NeighbourItem}
use Rattle.model_router.specs.Splits.{Split}
use Rattle.model_router.proofs.SplitLemmas.{split-few}
use Rattle.router_wanted.proofs.fragments.fragments.Goals as goal

pub returns-in-Ok-clause-few : goal.returns-in-Ok-clause-few
returns-in-Ok-clause-few c = subst (λ (s : Split). length s.fragments ≤ 256) c.in-Ok.ensures.ok (split-few _ _ _)

pub split-requires-2-clause-metrics : goal.split-requires-2-clause-metrics
split-requires-2-clause-metrics c =
    rw c.first_entries-content.ensures.neighbours (All-take (λ (item : NeighbourItem). item.metric < 2 ^ 24) _ _ c.requires.metrics)

pub returns-in-Ok-split-clause-few : goal.returns-in-Ok-split-clause-few
returns-in-Ok-split-clause-few c = subst (λ (s : Split). length s.fragments ≤ 256) c.in-Ok-split.ensures.ok (split-few _ _ _)
