use Rattle.std.proofs.Common.{◌-◌, subst}
use Rattle.model_router.specs.Events as model
use Rattle.model_router.specs.Numbers.{system_number}
use Rattle.model_router.specs.Routers.{Router}
use Rattle.flag_sync.specs.Heard.{entries_of}
use Rattle.router_desk.specs.Heard.{range_of}
use Rattle.router_desk.specs.Opening.{envelope_of}
use Rattle.router_levels.specs.Drafts as levels
use Rattle.router_routes.specs.Outlooks.{outlook_of}
use Rattle.router_core.specs.Plans.{AreTold}
use Rattle.router_core.proofs.PlanLemmas.{snp-planned}
use Rattle.router_core.proofs.parts.Parts.told_by_snp.Goals as goal

-- src/plan_snp.rt
pub returns-then-are_clear-clause-told : goal.returns-then-are_clear-clause-told
returns-then-are_clear-clause-told c _ =
    let m : model.Message = model.SnpHeard c.args.level (envelope_of c.args.from.0) (system_number c.args.from.1) (range_of c.args.range) (entries_of c.args.entries.now) in
    c.outlook_laws.ensures.calm c.args.self.now (model.Take (c.args.circuit - 1) m) c.requires.reached (c.are_clear.ensures c.if-are_clear.true)

-- src/plan_snp.rt
pub returns-then-are_clear-clause-marks : goal.returns-then-are_clear-clause-marks
returns-then-are_clear-clause-marks c =
    let m : model.Message = model.SnpHeard c.args.level (envelope_of c.args.from.0) (system_number c.args.from.1) (range_of c.args.range) (entries_of c.args.entries.now) in
    let calm = c.are_clear.ensures c.if-are_clear.true in
    c.after.ensures c.args.self.now (model.Take (c.args.circuit - 1) m) c.requires.marks tt (c.outlook_laws.ensures.calm c.args.self.now (model.Take (c.args.circuit - 1) m) c.requires.reached calm) calm

-- src/plan_snp.rt
pub returns-in-Ok-clause-told : goal.returns-in-Ok-clause-told
returns-in-Ok-clause-told c _ =
    let r = c.args.self.now in
    let both = snp-planned r c.args.circuit c.args.level (envelope_of c.args.from.0) (system_number c.args.from.1) c.args.range (entries_of c.args.entries.now) c.requires.there c.requires.reached.idle c.requires.kept in
    subst (λ (q : Router). AreTold (outlook_of r) (outlook_of q) c.in-Ok.told) both.0 (c.in-Ok.ensures (c.args.circuit - 1) (levels.range_of c.args.range))

-- src/plan_snp.rt
pub returns-in-Ok-clause-marks : goal.returns-in-Ok-clause-marks
returns-in-Ok-clause-marks c = c.none-in-Ok.ensures _
