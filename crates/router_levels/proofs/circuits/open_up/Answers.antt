use Rattle.std.proofs.Common.{◌-◌, sym, ◌∙◌}
use Rattle.flag_sync.specs.BookStates.{book_of}
use Rattle.router_levels.proofs.PointLemmas.{lan-opens}
use Rattle.router_levels.proofs.circuits.open_up.Goals as goal

pub returns-else-point-clause-book : goal.returns-else-point-clause-book
returns-else-point-clause-book c =
    c.set_open.ensures.book ∙ lan-opens (book_of c.args.book.now) (c.args.circuit - 1) (sym c.is_point-point.ensures ∙ c.if-point.false)
