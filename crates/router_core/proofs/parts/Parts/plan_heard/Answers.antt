use Rattle.std.proofs.Common.{◌-◌, List, is_some, IfOk, IfSome, sym, subst}
use Rattle.isis_base.specs.declared.entry.LspEntry.{LspEntry}
use Rattle.model_router.specs.Events as model
use Rattle.model_router.specs.Numbers.{system_number}
use Rattle.model_router.specs.Places.{nth}
use Rattle.flag_sync.specs.Heard.{entries_of}
use Rattle.router_desk.specs.Heard.{message_of, range_of}
use Rattle.router_desk.specs.Opening.{envelope_of}
use Rattle.router_desk.specs.declared.heard.Heard.{Heard}
use Rattle.router_core.specs.Machines.{FitsKind}
use Rattle.router_core.specs.Plans.{IsPlan}
use Rattle.router_core.proofs.parts.Parts.plan_heard.Goals as goal

-- src/plan.rt
pub plan_point_hello-requires-clause-kind : goal.plan_point_hello-requires-clause-kind
plan_point_hello-requires-clause-kind c = subst (λ (h : Heard). IfSome (nth c.args.self.now.circuits (c.args.circuit - 1)) (λ x. FitsKind x (message_of h))) c.in-PointHello.is c.requires.fits.kind

-- src/plan.rt
pub plan_lan_hello-requires-clause-kind : goal.plan_lan_hello-requires-clause-kind
plan_lan_hello-requires-clause-kind c = subst (λ (h : Heard). IfSome (nth c.args.self.now.circuits (c.args.circuit - 1)) (λ x. FitsKind x (message_of h))) c.in-LanHello.is c.requires.fits.kind

-- src/plan.rt
pub returns-in-PointHello : goal.returns-in-PointHello
returns-in-PointHello c = subst (λ (h : Heard). IsPlan (is_some c.args.following) c.args.self.now (model.Take (c.args.circuit - 1) (message_of h)) c.plan_point_hello.result) (sym c.in-PointHello.is) (c.plan_point_hello.ensures (is_some c.args.following))

-- src/plan.rt
pub returns-in-LanHello : goal.returns-in-LanHello
returns-in-LanHello c = subst (λ (h : Heard). IsPlan (is_some c.args.following) c.args.self.now (model.Take (c.args.circuit - 1) (message_of h)) c.plan_lan_hello.result) (sym c.in-LanHello.is) (c.plan_lan_hello.ensures (is_some c.args.following))

-- src/plan.rt
pub returns-in-Lsp : goal.returns-in-Lsp
returns-in-Lsp c = subst (λ (h : Heard). IfOk c.plan_lsp.result (IsPlan (is_some c.args.following) c.args.self.now (model.Take (c.args.circuit - 1) (message_of h)))) (sym c.in-Lsp.is) c.plan_lsp.ensures

-- src/plan.rt
pub returns-in-Snp : goal.returns-in-Snp
returns-in-Snp c =
    let r = c.args.self.now in
    let place = c.args.circuit - 1 in
    subst (λ (h : Heard). IfOk c.plan_snp.result (IsPlan (is_some c.args.following) r (model.Take place (message_of h)))) (sym c.in-Snp.is)
    (subst (λ (entries : List LspEntry). IfOk c.plan_snp.result (IsPlan (is_some c.args.following) r (model.Take place (model.SnpHeard c.in-Snp.level (envelope_of c.in-Snp.from) (system_number c.in-Snp.source) (range_of c.in-Snp.range) (entries_of entries)))))
    c.deref.ensures.value c.plan_snp.ensures)
