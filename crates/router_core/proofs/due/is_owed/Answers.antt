use Rattle.std.proofs.Common.{◌-◌, ◌∙◌, sym}
use Rattle.router_core.proofs.PullLemmas.{owed-some, owed-none}
use Rattle.router_core.proofs.due.is_owed.Goals as goal

-- src/due.rt
pub returns-in-Some : goal.returns-in-Some
returns-in-Some c = owed-some (c.args.circuit - 1) c.args.book.now.store.entries c.args.book.now.rows c.in-Some.field-0 c.next.new.self (sym c.said_owed-owed.ensures.said ∙ c.in-Some.ensures.steps)

-- src/due.rt
pub returns-in-None : goal.returns-in-None
returns-in-None c = owed-none (c.args.circuit - 1) c.args.book.now.store.entries c.args.book.now.rows (sym c.said_owed-owed.ensures.said ∙ c.in-None.ensures.steps.0)
