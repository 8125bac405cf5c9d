use Rattle.std.proofs.Common.{[], sym, ◌≡◌, ◌-◌, ℕ, List, subst, ap, ap₂, ◌∙◌}
use Rattle.isis_base.specs.declared.identifiers.LspId.{LspId}
use Rattle.model_router.specs.Good.{IsGoodBook}
use Rattle.model_router.specs.SnpLists.{owed}
use Rattle.lsp_store.specs.declared.entry.Entry.{Entry}
use Rattle.flag_sync.specs.declared.flag_row.FlagRow.{FlagRow}
use Rattle.flag_sync.specs.Heard.{entries_of}
use Rattle.flag_sync.specs.Said.{said_owed}
use Rattle.flag_sync.specs.BookStates.{BookState, book_of}
use Rattle.flag_sync.proofs.AgeLemmas.{cells-rise}
use Rattle.flag_sync.proofs.SaidLemmas.{all-good, good-cells, owed-said}
use Rattle.flag_sync.proofs.AmongLemmas.{none-said}
use Rattle.flag_sync.proofs.book.Book.said_owed.Goals as goal

pub returns-clause-owed : goal.returns-clause-owed
returns-clause-owed c =
    let s : BookState = record {
      store = c.self.inside.store;
      rows = c.self.inside.flags.entries;
      opened = c.self.inside.opened;
      points = c.self.inside.points;
      circuits = c.self.inside.circuits;
    } in
    let i = c.self.invariant in
    let p = c.args.circuit - 1 in
    let rises = cells-rise 0 s.store.entries s.rows i.rises i.beside in
    let walk = ap (λ (q : ℕ). said_owed q c.pairs-entries.result c.pairs-rows.result) c.place-place.ensures.place
    ∙ ap₂ (λ (es : List (LspId × Entry)) (rs : List (LspId × FlagRow)). said_owed p es rs) (c.pairs-entries.ensures ∙ c.pages.ensures.entries) c.pairs-rows.ensures in
    subst (λ (t : BookState). IsGoodBook (book_of t) → entries_of (said_owed c.place-place.result c.pairs-entries.result c.pairs-rows.result) ≡ owed p (book_of t)) c.self.view_is
    (λ g. ap entries_of walk ∙ owed-said p s.store.entries s.rows i.beside (all-good (book_of s).cells 0 rises (good-cells (book_of s) g)))

pub invariant_of-result : goal.invariant_of-result
invariant_of-result c =
    let p = c.place-place.result in (
      c.place-place.ensures.few,
      (
        λ none. subst (λ (rs : List (LspId × FlagRow)). said_owed p c.pairs-entries.result rs ≡ []) (sym c.pairs-rows.ensures)
            (none-said p c.pairs-entries.result c.self.inside.flags.entries (c.may_answer-some.ensures none)),
        tt,
      ),
    )
