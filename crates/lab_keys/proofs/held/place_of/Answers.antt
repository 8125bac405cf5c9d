use Rattle.std.proofs.Common.{rules}
use Rattle.std.proofs.lemmas.List.Sorted.{answers_always}
use Rattle.lab_keys.specs.Held.{entry_number}
use Rattle.lab_keys.proofs.HeldLemmas.{searched}
use Rattle.lab_keys.proofs.held.place_of.Goals as goal

pub returns : goal.returns
returns c =
    let by_number = c.binary_search_by_key.ensures.position entry_number (answers_always _ _ _ (λ f a r g h. search rules)) in
    let n = c.to_number.ensures in
    rw (← n) (searched _ _ _ c.requires c.binary_search_by_key.ensures.bound by_number)
