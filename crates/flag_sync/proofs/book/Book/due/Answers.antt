use Rattle.std.proofs.Common.{[], sym, ◌≡◌, ◌-◌, ℕ, List, subst, ap₂, ◌∙◌}
use Rattle.isis_base.specs.declared.identifiers.LspId.{LspId}
use Rattle.model_router.specs.Cells.{Cell}
use Rattle.model_router.specs.Pulls.{srm_due}
use Rattle.flag_sync.specs.declared.flag_row.FlagRow.{FlagRow}
use Rattle.flag_sync.specs.Walks.{due_of, numbers_of, ids_where}
use Rattle.flag_sync.specs.BookStates.{BookState, book_of}
use Rattle.flag_sync.proofs.WalkLemmas.{due-cells}
use Rattle.flag_sync.proofs.AmongLemmas.{none-due}
use Rattle.flag_sync.proofs.book.Book.due.Goals as goal

pub returns-clause-cells : goal.returns-clause-cells
returns-clause-cells c =
    let s : BookState = record {
      store = c.self.inside.store;
      rows = c.self.inside.flags.entries;
      opened = c.self.inside.opened;
      points = c.self.inside.points;
      circuits = c.self.inside.circuits;
    } in
    let i = c.self.invariant in
    let p = c.args.circuit - 1 in
    subst (λ (t : BookState). numbers_of (due_of c.place-place.result c.pairs-rows.result) ≡ ids_where (λ (cell : Cell). srm_due p cell) (book_of t).cells) c.self.view_is
    (ap₂ (λ (q : ℕ) (rs : List (LspId × FlagRow)). numbers_of (due_of q rs)) c.place-place.ensures.place c.pairs-rows.ensures ∙ due-cells p c.self.inside.store.entries c.self.inside.flags.entries i.beside)

pub invariant_of-result : goal.invariant_of-result
invariant_of-result c =
    let p = c.place-place.result in (
      c.place-place.ensures.few,
      (
        λ none. subst (λ (rs : List (LspId × FlagRow)). due_of p rs ≡ []) (sym c.pairs-rows.ensures)
            (none-due p c.self.inside.flags.entries (c.may_flood-some.ensures none)),
        tt,
      ),
    )
