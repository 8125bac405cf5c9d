use Rattle.std.proofs.Common.{ℕ, ◌+◌, List, map, take, drop, sym, ap, ◌∙◌, subst}
use Rattle.network_lab.specs.LabNets.{LabNet, with_router}
use Rattle.lab_script.specs.declared.setup.LabRouter.{LabRouter}
use Rattle.lab_script.specs.LabSound.{AreDistinct}
use Rattle.lab_text.specs.Layouts as layout
use Rattle.lab_text.specs.Setups.{HasRouters}
use Rattle.lab_text.proofs.SetupLemmas.{systems-fresh}
use Rattle.lab_text.proofs.TurnLemmas.{routers-at, routers-turn}
use Rattle.lab_text.proofs.lay_out.add_routers.Goals as goal

pub add_router-requires-clause-fresh : goal.add_router-requires-clause-fresh
add_router-requires-clause-fresh c =
    let routers = c.routers-routers.result.now in
    let told = c.router-item.result in
    systems-fresh routers c.loop-router.router-index told c.loop-router.net.configs c.loop-router-test.true c.router-item.is
    (subst (λ (rs : List LabRouter). AreDistinct (map (λ (r : LabRouter). r.system) rs)) (sym c.routers-routers.ensures.routers) c.routers-routers.ensures.sound.systems)
    c.loop-router.invariant.has.systems

pub loop-router-preserved : goal.loop-router-preserved
loop-router-preserved c =
    let keys = c.keys-keys.result.now in
    let routers = c.routers-routers.result.now in
    let told = c.router-item.result in
    let i = c.loop-router.router-index in
    let net = c.loop-router.net in
    let new = c.in-Ok.ensures ∙ ap (λ (n : ℕ). with_router net (layout.config_of keys n told)) c.loop-router.invariant.number in
    record {
      number = ap (λ (n : ℕ). n + 1) c.loop-router.invariant.number;
      left = ap (λ (a : LabNet). layout.with_routers keys (i + 1) (drop (i + 1) routers) a) new ∙ sym (routers-at keys i routers net i told c.loop-router-test.true c.router-item.is) ∙ c.loop-router.invariant.left;
      has = subst (λ (a : LabNet). HasRouters (take (i + 1) routers) a) (sym new)
          (routers-turn keys i routers net i told c.loop-router-test.true c.router-item.is c.loop-router.invariant.has);
    }
