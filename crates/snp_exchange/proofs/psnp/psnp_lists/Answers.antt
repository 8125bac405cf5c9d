use Rattle.std.proofs.Common.{◌∙◌, ◌-◌, ◌++◌, List, sym, ap}
use Rattle.std.proofs.lemmas.Result.{IfOk-weaker}
use Rattle.isis_base.specs.declared.entry.LspEntry.{LspEntry}
use Rattle.flag_sync.specs.Heard.{entries_of}
use Rattle.flag_sync.specs.Said.{said_owed}
use Rattle.flag_sync.specs.BookStates.{book_of}
use Rattle.snp_exchange.specs.Pieces.{lists_of, listed}
use Rattle.snp_exchange.proofs.PieceLemmas.{lists-said, lists-same}
use Rattle.snp_exchange.proofs.psnp.psnp_lists.Goals as goal

pub returns-clause-lists : goal.returns-clause-lists
returns-clause-lists c =
    let l = c.loop-said in
    let xs = said_owed (c.args.circuit - 1) c.args.book.now.store.entries c.args.book.now.rows in
    IfOk-weaker c.finish.result _ _ (λ all e.
    e ∙ sym (ap (λ (ks : List LspEntry). lists_of l.lists.items ++ listed (entries_of l.entries.items) (entries_of ks)) c.in_default.ensures.steps.0)
    ∙ l.invariant.lists ∙ lists-said xs) c.finish.ensures

pub returns-clause-same : goal.returns-clause-same
returns-clause-same c =
    let l = c.loop-said in
    let place = c.args.circuit - 1 in
    let xs = said_owed place c.args.book.now.store.entries c.args.book.now.rows in
    IfOk-weaker c.finish.result _ _ (λ all e good.
    e ∙ sym (ap (λ (ks : List LspEntry). lists_of l.lists.items ++ listed (entries_of l.entries.items) (entries_of ks)) c.in_default.ensures.steps.0)
    ∙ l.invariant.lists ∙ lists-same (book_of c.args.book.now) place xs (sym (ap entries_of c.said_owed-owed.ensures.said) ∙ c.said_owed-owed.ensures.owed good)) c.finish.ensures
