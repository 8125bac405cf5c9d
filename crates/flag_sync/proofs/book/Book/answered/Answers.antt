use Rattle.std.proofs.Common.{ℕ, ap, ◌∙◌}
use Rattle.model_router.specs.Maps.{each}
use Rattle.model_router.specs.Cells.{Cell, ssn_off}
use Rattle.model_router.specs.Books.{Book}
use Rattle.model_router.specs.Pulls.{answered}
use Rattle.flag_sync.specs.BookStates.{book_of}
use Rattle.flag_sync.proofs.book.Book.answered.Goals as goal

pub returns-clause-book : goal.returns-clause-book
unfolding answered
returns-clause-book c =
    let b = book_of c.args.self.now in
    c.flag_all.ensures.book ∙ ap (λ (p : ℕ). let n : Book = record b { cells = each (λ (_ : ℕ) (cell : Cell). ssn_off cell p) b.cells } in n) c.place.ensures.place
