use Rattle.std.proofs.Common.{subst, arith}
use Rattle.isis_base.specs.Identifiers.{lsp_number}
use Rattle.isis_base.specs.Keys.{StandsAgainst, rank}
use Rattle.model_router.specs.Books.{cell_at}
use Rattle.flag_sync.specs.BookStates.{book_of}
use Rattle.flag_sync.specs.Heard.{entry_of}
use Rattle.router_core.proofs.CalmLemmas.{unlike-calm}
use Rattle.router_core.proofs.plan_snp.is_calm_entry.Goals as goal

-- src/plan_snp.rt
pub returns-in-Older : goal.returns-in-Older
returns-in-Older c =
    let less = subst (λ o. StandsAgainst o (rank c.key.result) (rank c.key-2.result)) c.in-Older.is c.newer.ensures in
    let held = c.key.ensures in
    let said = c.key-2.ensures.rank in
    λ whose e. unlike-calm whose (cell_at (book_of c.args.book.now) (lsp_number c.args.entry.now.id)) (entry_of c.args.entry.now) (λ same. absurd (omega (arith, less, held, said, same)))

-- src/plan_snp.rt
pub returns-in-Newer : goal.returns-in-Newer
returns-in-Newer c =
    let more = subst (λ o. StandsAgainst o (rank c.key.result) (rank c.key-2.result)) c.in-Newer.is c.newer.ensures in
    let held = c.key.ensures in
    let said = c.key-2.ensures.rank in
    λ whose e. unlike-calm whose (cell_at (book_of c.args.book.now) (lsp_number c.args.entry.now.id)) (entry_of c.args.entry.now) (λ same. absurd (omega (arith, more, held, said, same)))
