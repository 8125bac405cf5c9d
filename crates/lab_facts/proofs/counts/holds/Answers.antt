use Rattle.std.proofs.Common.{ℕ, nat_lt, ap, ◌∙◌}
use Rattle.isis_base.specs.Identifiers.{lsp_number}
use Rattle.flag_sync.specs.BookStates.{book_of}
use Rattle.lab_facts.proofs.CellLemmas.{held_is}
use Rattle.lab_facts.proofs.counts.holds.Goals as goal

pub returns : goal.returns
returns c =
    c.has_key.ensures ∙ (ap (λ (n : ℕ). nat_lt 0 n) c.key.ensures
    ∙ held_is 0 (book_of c.args.book.now).cells (lsp_number c.args.id) c.order_law.ensures)
