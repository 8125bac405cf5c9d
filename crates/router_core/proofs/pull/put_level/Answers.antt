use Rattle.std.proofs.Common.{◌-◌, ◌∙◌, sym}
use Rattle.flag_sync.specs.BookStates.{book_of}
use Rattle.router_core.proofs.SendingLemmas.{level-out}
use Rattle.router_core.proofs.pull.put_level.Goals as goal

-- src/pull.rt
pub returns-then-opened : goal.returns-then-opened
returns-then-opened c config boot sends due =
    level-out c.put_due_psnps.result c.args.sender.now config (c.args.sender.now.circuit - 1) c.args.on.now c.args.level (book_of c.args.book.now)
    c.args.out.now c.put_due_csnps.new.out c.put_lsps.new.out c.put_due_psnps.new.out
    (sym due.opened ∙ c.if-opened.true) (c.in_ok-put_due_csnps.ensures config boot sends due.csnps) c.in_ok-put_lsps.ensures (c.put_due_psnps.ensures due.psnps)
