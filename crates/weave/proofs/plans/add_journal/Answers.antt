use Rattle.std.proofs.Common.{◌≡◌, List, [], ◌∷◌, ◌++◌, Vec, Global, map, sym, ap, ◌∙◌, subst}
use Rattle.std.proofs.lemmas.List.{map-append}
use Rattle.std.proofs.lemmas.Result.{on_ok_weaker}
use Rattle.journal_text.specs.declared.entry.WovenEntry.{WovenEntry}
use Rattle.weave_model.specs.Entries.{Entry}
use Rattle.weave_model.specs.Weavings.{Move, entries_before, track_of}
use Rattle.weave_replay.specs.Entries.{entry_of, entries_of}
use Rattle.weave.specs.Coded.{has_some}
use Rattle.weave.specs.declared.step.Step.{Step}
use Rattle.weave.specs.declared.step.Step.TheVariants as step
use Rattle.weave.specs.Moves.{move_of}
use Rattle.weave.proofs.PlanLemmas.{plan-first, plan-more}
use Rattle.weave.proofs.plans.add_journal.Goals as goal
use Rattle.weave.proofs.plans.add_journal.Goals.{then-begun+in-Ok, else-begun}

pub returns : goal.returns
returns c =
    let es = entries_of c.args.journal.now in
    let old = map move_of c.args.steps.now.items in
    let new = map move_of c.add_entries.new.steps.items in
    on_ok_weaker c.add_entries.result
    (λ (added : new ≡ map move_of c.if-begun.steps.items ++ entries_before (map entry_of c.as_slice.result.now) []) (js : List (List Entry)) (begun : c.args.begun ≡ has_some js) (same : old ≡ track_of js).
    let behind : new ≡ map move_of c.if-begun.steps.items ++ entries_before es [] = subst (λ (xs : List WovenEntry). new ≡ map move_of c.if-begun.steps.items ++ entries_before (map entry_of xs) []) c.as_slice.ensures.value added in
    elim c.if-begun.branch [
      | then-begun+in-Ok w ↦
          behind
          ∙ (ap (λ (v : List Step). map move_of v ++ entries_before es []) (ap (λ (v : Vec Step Global). v.items) w.steps-is ∙ w.in-Ok.ensures.items)
          ∙ (ap (λ (ms : List Move). ms ++ entries_before es []) (map-append move_of c.args.steps.now.items (step.Restart ∷ []))
          ∙ plan-more js es old (sym begun ∙ w.if-begun.true) same))
      | else-begun w ↦
          behind
          ∙ (ap (λ (v : Vec Step Global). map move_of v.items ++ entries_before es []) w.steps-is
          ∙ plan-first js es old (sym begun ∙ w.if-begun.false) same)
    ])
    c.add_entries.ensures
