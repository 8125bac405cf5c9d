use Rattle.std.proofs.Common.{[], ℕ, List, ap, ap₂, ◌∙◌}
use Rattle.isis_base.specs.declared.entry.LspEntry.{LspEntry}
use Rattle.flag_sync.specs.Said.{said_keys}
use Rattle.flag_sync.specs.BookStates.{book_of}
use Rattle.snp_exchange.specs.PieceLists.{said_sent, said_pieces}
use Rattle.snp_exchange.proofs.WalkLemmas.{all-said, all-same}
use Rattle.snp_exchange.proofs.pieces.csnp_pieces.Goals as goal

pub returns-clause-set : goal.returns-clause-set
returns-clause-set c level =
    let keys = said_keys c.args.book.now.store.entries in
    ap₂ (λ (n : ℕ) (ks : List LspEntry). said_sent level (said_pieces n [] ks)) c.from_number.ensures c.keys.ensures.said ∙ all-said level keys

pub returns-clause-same : goal.returns-clause-same
returns-clause-same c good level =
    ap (λ (n : ℕ). said_sent level (said_pieces n [] c.keys.result)) c.from_number.ensures
    ∙ all-same level (book_of c.args.book.now) c.keys.result (c.keys.ensures.held good)
