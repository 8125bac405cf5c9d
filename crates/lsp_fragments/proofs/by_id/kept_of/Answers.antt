use Rattle.std.proofs.Common.{◌∙◌, ap, sym, Some}
use Rattle.std.specs.Option.{option_map}
use Rattle.lsp_fragments.specs.declared.kept.Kept.{Kept}
use Rattle.lsp_fragments.specs.Kept.{kept_id, by_id, issued_of}
use Rattle.ordered.proofs.MapLemmas.{find-place, find-gap}
use Rattle.lsp_fragments.proofs.ShownLemmas.{find-shown}
use Rattle.lsp_fragments.proofs.by_id.kept_of.Goals as goal

pub returns-in-Ok : goal.returns-in-Ok
returns-in-Ok c =
    find-shown (by_id c.args.list.now) _
    ∙ ap (option_map issued_of) (find-place kept_id c.args.list.now _ c.in-Ok.at c.index-list-at.result (rw c.in-Ok.is at c.place_of.ensures))
    ∙ ap (λ (k : Kept). Some (issued_of k)) (sym c.index-list-at.is)

pub returns-in-Err : goal.returns-in-Err
returns-in-Err c = find-shown (by_id c.args.list.now) _ ∙ ap (option_map issued_of) (find-gap kept_id c.args.list.now _ c.in-Err.field-0 (rw c.in-Err.is at c.place_of.ensures))
