use Rattle.std.proofs.Common.{◌-◌, ◌==◌, ◌&&◌, nat_lt, length, arith}
use Rattle.model_router.specs.Both.{at}
use Rattle.model_router.specs.Routers.{book_of}
use Rattle.model_router.specs.SnpLists.{owed}
use Rattle.model_router.specs.Places.{nth}
use Rattle.model_router.specs.Pulls.{with_part}
use Rattle.router_core.specs.Pulled.{after_psnps, answer_gone}
use Rattle.router_core.proofs.PullLemmas.{gone-then, gone-else, then-answered}
use Rattle.router_core.proofs.parts.Parts.psnps_gone.Goals as goal

-- src/pull_parts.rt
pub returns-then-due : goal.returns-then-due
unfolding after_psnps
returns-then-due c =
    gone-then c.args.self.now c.answered.new.self (c.args.circuit - 1) c.args.due
    (λ x. nat_lt 0 (length (owed (c.args.circuit - 1) (book_of c.args.self.now c.args.level))) && (at x.levels c.args.level).psnp == 0)
    (λ x. answer_gone c.args.self.now (c.args.circuit - 1) c.args.level x)
    (omega (arith, c.requires.there)) c.if-due.true c.requires.due
    (then-answered (nth c.args.self.now.circuits (c.args.circuit - 1)) c.args.self.now c.answer_sent.new.self c.answered.new.self (c.args.circuit - 1) c.args.level (λ x. with_part x c.args.level (record (at x.levels c.args.level) { psnp = 2 })) c.answer_sent.ensures c.answered.ensures)

-- src/pull_parts.rt
pub returns-else-due : goal.returns-else-due
unfolding after_psnps
returns-else-due c =
    gone-else c.args.self.now (c.args.circuit - 1) c.args.due
    (λ x. nat_lt 0 (length (owed (c.args.circuit - 1) (book_of c.args.self.now c.args.level))) && (at x.levels c.args.level).psnp == 0)
    (λ x. answer_gone c.args.self.now (c.args.circuit - 1) c.args.level x)
    (omega (arith, c.requires.there)) c.if-due.false c.requires.due
