use Rattle.std.proofs.Common.{◌≡◌, ℕ, ◌+◌, ◌∷◌, [], ◌++◌, List, Vec, Global, take, sym, ap, subst, ◌∙◌, arith}
use Rattle.weave_core.specs.declared.moves.Move.{Move as CoreMove}
use Rattle.weave_model.specs.Entries.{Entry}
use Rattle.weave_replay.specs.Entries.{entries_of}
use Rattle.weave_replay.specs.Replays.{journals_of}
use Rattle.weave_replay.proofs.PlaceLemmas.{nth-get, take-more}
use Rattle.weave_replay.proofs.JournalLemmas.{own-more, other-more}
use Rattle.weave.specs.Coded.{AreCoded, has_some}
use Rattle.weave.proofs.TrackLemmas.{has-more}
use Rattle.weave.proofs.coding.code_router.Goals as goal
use Rattle.weave.proofs.coding.code_router.Goals.{then-journal-router+in-Ok, else-journal-router}

pub loop-place-preserved : goal.loop-place-preserved
loop-place-preserved c =
    let wires = c.args.book.now in
    let ports = c.args.ports.now in
    let router = c.args.router in
    let j = c.index-journals-place.result in
    let before = take c.loop-place.place c.args.journals.now in
    let js = journals_of router before in
    let taken = take-more c.args.journals.now c.loop-place.place j (nth-get c.args.journals.now c.loop-place.place j (omega (arith, c.loop-place-test.true)) c.index-journals-place.is) in
    elim c.if-journal-router.branch [
      | then-journal-router+in-Ok w ↦
          let more : journals_of router (take (c.loop-place.place + 1) c.args.journals.now) ≡ js ++ entries_of j ∷ [] =
          ap (journals_of router) taken ∙ subst (λ (i : ℕ). journals_of i (before ++ j ∷ []) ≡ journals_of i before ++ entries_of j ∷ []) w.if-journal-router.true (own-more before j) in
          record {
            begun = w.begun-is ∙ sym (ap has_some more ∙ has-more js (entries_of j));
            coded =
                subst (λ (xs : List (List Entry)). AreCoded wires ports router xs c.if-journal-router.moves.items) (sym more)
                (subst (λ (v : Vec CoreMove Global). AreCoded wires ports router (js ++ entries_of j ∷ []) v.items) (sym w.moves-is)
                (w.in-Ok.ensures router js c.loop-place.invariant.begun c.loop-place.invariant.coded));
          }
      | else-journal-router w ↦
          let same : journals_of router (take (c.loop-place.place + 1) c.args.journals.now) ≡ js =
          ap (journals_of router) taken ∙ other-more router before j w.if-journal-router.false in
          record {
            begun = w.begun-is ∙ c.loop-place.invariant.begun ∙ sym (ap has_some same);
            coded =
                subst (λ (xs : List (List Entry)). AreCoded wires ports router xs c.if-journal-router.moves.items) (sym same)
                (subst (λ (v : Vec CoreMove Global). AreCoded wires ports router js v.items) (sym w.moves-is) c.loop-place.invariant.coded);
          }
    ]
