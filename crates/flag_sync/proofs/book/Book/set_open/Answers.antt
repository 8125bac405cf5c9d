use Rattle.std.proofs.Common.{◌-◌, ℕ, ap, ◌∙◌}
use Rattle.model_router.specs.Sets.{without}
use Rattle.model_router.specs.Books.{Book}
use Rattle.model_router.specs.Openings.{close}
use Rattle.flag_sync.specs.BookStates.{BookState, book_of}
use Rattle.flag_sync.proofs.book.Book.set_open.Goals as goal

pub returns-clause-book : goal.returns-clause-book
unfolding close
returns-clause-book c =
    let b = book_of c.args.self.now in
    let p = c.args.circuit - 1 in
    let s : BookState = record {
      store = c.self-2.inside.store;
      rows = c.self-2.inside.flags.entries;
      opened = c.self-2.inside.opened;
      points = c.self-2.inside.points;
      circuits = c.self-2.inside.circuits;
    } in
    let cut = c.without_bit-self-inside.ensures ∙ ap (without c.self-2.inside.opened) c.place-place.ensures.place in
    let same = ap book_of c.self-2.view_is ∙ c.clear_circuit.ensures.book in
    rw c.if-up.false
    (ap (λ (o : ℕ). let n : Book = record (book_of s) { opened = o } in n) cut ∙ ap (λ (x : Book). let n : Book = record x { opened = without x.opened p } in n) same)
