use Rattle.std.proofs.Common.{◌≡◌, List, sym, subst, ap, ◌∙◌}
use Rattle.isis_base.specs.declared.identifiers.LspId.{LspId}
use Rattle.model_router.specs.Good.{IsGoodBook}
use Rattle.model_router.specs.SnpLists.{held_keys}
use Rattle.lsp_store.specs.declared.entry.Entry.{Entry}
use Rattle.flag_sync.specs.Heard.{entries_of}
use Rattle.flag_sync.specs.Said.{said_keys, SaidRise}
use Rattle.flag_sync.specs.BookStates.{BookState, book_of}
use Rattle.flag_sync.proofs.AgeLemmas.{cells-rise}
use Rattle.flag_sync.proofs.SaidLemmas.{all-good, good-cells, keys-cells, keys-rise}
use Rattle.flag_sync.proofs.book.Book.keys.Goals as goal

pub returns-clause-held : goal.returns-clause-held
returns-clause-held c =
    let s : BookState = record {
      store = c.self.inside.store;
      rows = c.self.inside.flags.entries;
      opened = c.self.inside.opened;
      points = c.self.inside.points;
      circuits = c.self.inside.circuits;
    } in
    let i = c.self.invariant in
    let rises = cells-rise 0 s.store.entries s.rows i.rises i.beside in
    subst (λ (t : BookState). IsGoodBook (book_of t) → entries_of (said_keys c.pairs.result) ≡ held_keys (book_of t)) c.self.view_is
    (λ g. ap (λ (es : List (LspId × Entry)). entries_of (said_keys es)) (c.pairs.ensures ∙ c.pages.ensures.entries) ∙ keys-cells s.store.entries s.rows i.beside (all-good (book_of s).cells 0 rises (good-cells (book_of s) g)))

pub returns-clause-rise : goal.returns-clause-rise
returns-clause-rise c =
    subst (λ (es : List (LspId × Entry)). SaidRise 0 (said_keys es)) (sym (c.pairs.ensures ∙ c.pages.ensures.entries)) (keys-rise 0 c.self.inside.store.entries c.self.invariant.rises)
