use Rattle.std.proofs.Common.{ℕ, get_or, ap, ◌∙◌}
use Rattle.model_router.specs.Drops.{drop_place, drops_of}
use Rattle.model_router.specs.Routers.{Router}
use Rattle.router_core.proofs.ChangeLemmas.{index-nth}
use Rattle.router_core.proofs.parts.Parts.drops.Goals as goal

-- src/asked.rt
pub returns : goal.returns
returns c =
    ap (λ (i : ℕ). get_or c.self.inside.drops i 0) c.place.ensures
    ∙ (index-nth c.self.inside.drops (drop_place c.args.cause) ∙ ap (λ (r : Router). drops_of r.drops c.args.cause) c.self.view_is)
