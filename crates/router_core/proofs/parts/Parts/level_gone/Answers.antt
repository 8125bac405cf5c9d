use Rattle.std.proofs.Common.{◌≡◌, ◌-◌, ◌∙◌, ◌==◌, ◌&&◌, nat_lt, length, IfSome, sym, ap, subst, arith}
use Rattle.model_router.specs.Both.{at}
use Rattle.model_router.specs.Places.{nth}
use Rattle.model_router.specs.Routers.{Router, book_of}
use Rattle.model_router.specs.SnpLists.{owed}
use Rattle.router_core.specs.Pulled.{after_lsps}
use Rattle.router_core.proofs.DueLemmas.{csnps-at, open-at, psnps-stay}
use Rattle.router_core.proofs.PullLemmas.{csnps-length, level-then, level-else}
use Rattle.router_core.proofs.parts.Parts.level_gone.Goals as goal

-- src/pull_parts.rt
pub lsps_sent-requires : goal.lsps_sent-requires
lsps_sent-requires c =
    let there = c.requires.there in
    let same = ap (λ (r : Router). length r.circuits) c.csnps_gone.ensures ∙ csnps-length c.args.self.now (c.args.circuit - 1) c.args.level in
    (there.0, omega (arith, there, same))

-- src/pull_parts.rt
pub csnps_gone-requires-clause-due : goal.csnps_gone-requires-clause-due
csnps_gone-requires-clause-due c = csnps-at c.args.self.now (c.args.circuit - 1) c.args.level c.args.due c.requires.due

-- src/pull_parts.rt
pub psnps_gone-requires-clause-due : goal.psnps_gone-requires-clause-due
psnps_gone-requires-clause-due c =
    let r = c.args.self.now in
    let place = c.args.circuit - 1 in
    let l = c.args.level in
    let after = c.lsps_sent.ensures ∙ ap (λ (q : Router). after_lsps q place l) c.csnps_gone.ensures in
    subst (λ (q : Router). IfSome (nth q.circuits place) (λ x. c.args.due.psnps ≡ (nat_lt 0 (length (owed place (book_of q l))) && (at x.levels l).psnp == 0))) (sym after)
    (psnps-stay r place l c.args.due (omega (arith, c.requires.there)) c.requires.due)

-- src/pull_parts.rt
pub psnps_gone-requires-clause-there : goal.psnps_gone-requires-clause-there
psnps_gone-requires-clause-there c =
    let there = c.requires.there in
    let same = ap (λ (r : Router). length r.circuits) c.lsps_sent.ensures ∙ (ap (λ (r : Router). length r.circuits) c.csnps_gone.ensures ∙ csnps-length c.args.self.now (c.args.circuit - 1) c.args.level) in
    (there.0, omega (arith, there, same))

-- src/pull_parts.rt
pub returns-then-opened : goal.returns-then-opened
returns-then-opened c =
    level-then c.args.self.now c.csnps_gone.new.self c.lsps_sent.new.self c.psnps_gone.new.self (c.args.circuit - 1) c.args.level
    (sym (open-at c.args.self.now (c.args.circuit - 1) c.args.level c.args.due (omega (arith, c.requires.there)) c.requires.due) ∙ c.if-opened.true)
    c.csnps_gone.ensures c.lsps_sent.ensures c.psnps_gone.ensures

-- src/pull_parts.rt
pub returns-else-opened : goal.returns-else-opened
returns-else-opened c =
    level-else c.args.self.now (c.args.circuit - 1) c.args.level
    (sym (open-at c.args.self.now (c.args.circuit - 1) c.args.level c.args.due (omega (arith, c.requires.there)) c.requires.due) ∙ c.if-opened.false)
