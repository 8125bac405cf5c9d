use Rattle.std.proofs.Common.{◌≡◌, sym, refl, subst}
use Rattle.isis_base.specs.declared.level.Level.TheVariants as level
use Rattle.model_router.specs.Both.{at}
use Rattle.model_router.specs.Elections.{idle_level, is_designated}
use Rattle.model_router.specs.Routers.{Circuit}
use Rattle.router_circuits.specs.Views.{level_in}
use Rattle.router_circuits.proofs.circuit.Circuit.idle.Goals as goal

pub returns : goal.returns
returns c config place here =
    let one = subst (λ (s : Circuit). level_in (at s.levels level.One).heard c.idled-one.result ≡ idle_level (is_designated config place s level.One) (at s.levels level.One)) (sym c.self.view_is) (c.idled-one.ensures config place here) in
    let two = subst (λ (s : Circuit). level_in (at s.levels level.Two).heard c.idled-two.result ≡ idle_level (is_designated config place s level.Two) (at s.levels level.Two)) (sym c.self.view_is) (c.idled-two.ensures config place here) in
    rw (one, two, ← c.self.view_is) refl
