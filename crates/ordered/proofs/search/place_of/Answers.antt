use Rattle.std.proofs.Common.{rules}
use Rattle.std.proofs.lemmas.List.Sorted.{answers_always}
use Rattle.ordered.proofs.SearchLemmas.{searched}
use Rattle.ordered.proofs.search.place_of.Goals as goal

pub returns : goal.returns
returns g c =
    let by_number = c.binary_search_by_key.ensures.position g.T.Keyed.key (answers_always _ _ _ (λ f a r i h. search rules)) in
    searched g.T.Keyed.key _ _ _ c.requires c.binary_search_by_key.ensures.bound by_number
