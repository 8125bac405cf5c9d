use Rattle.std.proofs.Common.{[], ◌++◌, List, map, take, sym, ap, ◌∙◌, arith}
use Rattle.std.proofs.lemmas.List.{map-append}
use Rattle.weave_model.specs.Entries.{Entry}
use Rattle.weave_model.specs.Weavings.{entries_before}
use Rattle.weave_replay.specs.Entries.{entry_of}
use Rattle.weave_replay.proofs.PlaceLemmas.{nth-get, nth-map, take-more}
use Rattle.weave.specs.Moves.{move_of}
use Rattle.weave.proofs.PlanLemmas.{steps-more}
use Rattle.weave.proofs.plans.add_entries.Goals as goal

pub loop-place-preserved : goal.loop-place-preserved
loop-place-preserved c =
    let x = c.index-entries-place.result in
    let es = map entry_of c.args.entries.now in
    let old = map move_of c.args.steps.now.items in
    let at = nth-map entry_of c.args.entries.now c.loop-place.place x (nth-get c.args.entries.now c.loop-place.place x (omega (arith, c.loop-place-test.true)) c.index-entries-place.is) in
    ap (map move_of) c.in-Ok.ensures.items
    ∙ (map-append move_of c.loop-place.steps.items _
    ∙ (steps-more (take c.loop-place.place es) (entry_of x) old (map move_of c.loop-place.steps.items) c.loop-place.invariant
    ∙ ap (λ (xs : List Entry). old ++ entries_before xs []) (sym (take-more es c.loop-place.place (entry_of x) at))))
