use Rattle.std.proofs.Common.{ℕ, ◌+◌, ◌≤◌, inl, inr, subst, arith}
use Rattle.std.proofs.lemmas.Result.{IfOk-weaker}
use Rattle.router_core.specs.Plans.{IsIssuedAt}
use Rattle.router_core.proofs.OutbidLemmas.{is-last, not-last}
use Rattle.router_core.proofs.parts.Parts.entry_above.Goals as goal

-- src/plan_outbid.rt
pub returns-in-Some : goal.returns-in-Some
returns-in-Some c =
    IfOk-weaker c.entry_at.result _ _
    (λ e says. inr (not-last c.args.above c.in-Some.ensures.0, subst (λ (n : ℕ). IsIssuedAt c.args.self.now c.args.level c.args.id n e) c.in-Some.ensures.1 says))
    c.entry_at.ensures

-- src/plan_outbid.rt
pub returns-in-None : goal.returns-in-None
returns-in-None c =
    let most : 4294967296 ≤ c.args.above + 1 = (let h = c.in-None.ensures in omega (arith, h)) in
    inl (is-last c.args.above most c.ranges.above.fits, c.no_entry.ensures)
