use Rattle.std.proofs.Common.{◌≡◌, ℕ, List, Vec, Global, map, sym, ap, subst, ◌∙◌}
use Rattle.std.proofs.lemmas.Result.{on_ok_weaker}
use Rattle.weave_replay.specs.Passed.WovenEntry.{WovenEntry}
use Rattle.weave_core.specs.declared.moves.Move.{Move as CoreMove}
use Rattle.weave_model.specs.Entries.{Entry}
use Rattle.weave_replay.specs.Entries.{entry_of, entries_of}
use Rattle.weave.specs.Coded.{AreAdded, AreCoded, has_some}
use Rattle.weave.proofs.TrackLemmas.{coded-first, coded-more}
use Rattle.weave.proofs.coding.add_journal.Goals as goal
use Rattle.weave.proofs.coding.add_journal.Goals.{then-begun+in-Ok, else-begun}

pub returns : goal.returns
returns c =
    let wires = c.args.book.now in
    let ports = c.args.ports.now in
    let es = entries_of c.args.journal.now in
    let old = c.args.moves.now.items in
    let new = c.add_entries.new.moves.items in
    on_ok_weaker c.add_entries.result
    (λ (added : AreAdded wires ports (map entry_of c.as_slice.result.now) c.if-begun.moves.items new) (router : ℕ) (js : List (List Entry)) (begun : c.args.begun ≡ has_some js) (coded : AreCoded wires ports router js old).
    let behind : AreAdded wires ports es c.if-begun.moves.items new = subst (λ (xs : List WovenEntry). AreAdded wires ports (map entry_of xs) c.if-begun.moves.items new) c.as_slice.ensures.value added in
    elim c.if-begun.branch [
      | then-begun+in-Ok w ↦
          coded-more wires ports router js es old new w.quiet.result (sym begun ∙ w.if-begun.true) w.quiet.ensures
          (subst (λ (ms : List CoreMove). AreAdded wires ports es ms new) (ap (λ (v : Vec CoreMove Global). v.items) w.moves-is ∙ w.in-Ok.ensures.items) behind) coded
      | else-begun w ↦
          coded-first wires ports router js es old new (sym begun ∙ w.if-begun.false)
          (subst (λ (ms : List CoreMove). AreAdded wires ports es ms new) (ap (λ (v : Vec CoreMove Global). v.items) w.moves-is) behind) coded
    ])
    c.add_entries.ensures
