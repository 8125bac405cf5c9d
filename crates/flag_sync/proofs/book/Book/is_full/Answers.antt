use Rattle.std.proofs.Common.{◌≡◌, subst, sym, ap, eqb, ℕ, ◌∙◌}
use Rattle.model_router.specs.Books.{is_full}
use Rattle.flag_sync.specs.BookStates.{BookState, book_of}
use Rattle.flag_sync.proofs.BookLemmas.{full-is}
use Rattle.flag_sync.proofs.book.Book.is_full.Goals as goal

pub returns : goal.returns
returns c =
    let s : BookState = record {
      store = c.self.inside.store;
      rows = c.self.inside.flags.entries;
      opened = c.self.inside.opened;
      points = c.self.inside.points;
      circuits = c.self.inside.circuits;
    } in
    let i = c.self.invariant in
    subst (λ (t : BookState). eqb c.len.result 65536 ≡ is_full (book_of t)) c.self.view_is
    (ap (λ (n : ℕ). eqb n 65536) c.len.ensures.same ∙ sym (full-is s i.beside i.rises))
