use Rattle.std.proofs.Common.{◌≡◌, ℕ, List, map, is_some, IfOk, refl, sym, subst, ◌∙◌, ap}
use Rattle.std.specs.List.{AllByRecursion}
use Rattle.model_router.specs.Both.{at}
use Rattle.model_router.specs.Configs.{Config}
use Rattle.model_router.specs.Good.{IsIssuable}
use Rattle.model_router.specs.Routers.{Contents, Router}
use Rattle.router_wanted.specs.Views.{contents_of, prefix_pair, wanted_of}
use Rattle.router_core.specs.Givens.{given}
use Rattle.router_core.specs.Machines.{machine_of}
use Rattle.router_core.proofs.FaceLemmas.{fit-metrics, none-wanted, wanted-faces}
use Rattle.router_core.proofs.ShapeLemmas.{signed-by}
use Rattle.router_core.proofs.parts.Parts.wanted_with.Goals as goal

-- src/renewal.rt
pub returns-clause-wanted : goal.returns-clause-wanted
returns-clause-wanted c r e f =
    let before = c.args.self.now in
    let same : r.config ≡ (machine_of c.self.inside).config = e ∙ sym (ap (λ (q : Router). q.config) c.self.view_is) in
    subst (λ (wants : List (ℕ × Contents)). IfOk c.wanted_lsps.result (λ list. map wanted_of list.items ≡ wants)) (sym (wanted-faces given before told r c.args.level refl f))
    (c.wanted_lsps.ensures.wanted given before told (record {
      system = ap (λ (config : Config). config.system) same ∙ sym c.system.ensures;
      areas = ap (λ (config : Config). config.areas) same ∙ sym c.as_slice.ensures;
      runs = ap (λ (config : Config). config.runs) same ∙ sym c.levels.ensures;
      leak = ap (λ (config : Config). config.leak) same;
      overload = ap (λ (config : Config). config.overload) same;
      prefixes = ap (λ (config : Config). config.prefixes) same ∙ sym c.as_slice-2.ensures.pairs;
      signed = ap (λ (config : Config). is_some (at config.keys c.args.level)) same ∙ signed-by _ _ _ c.key.ensures c.is_some.ensures;
      circuits = refl;
      leaks = sym (ap (map prefix_pair) c.as_slice-3.ensures.value ∙ c.in_ok-leaked.ensures.prefixes);
      attached = sym c.in_ok-leaked.ensures.attached;
    }))
  where
    told : Router
    told = record r { circuits = c.args.circuits.now }

-- src/renewal.rt
pub returns-clause-issuable : goal.returns-clause-issuable
returns-clause-issuable c =
    subst (λ (r : Router). IfOk c.wanted_lsps.result (λ list. AllByRecursion (λ w. IsIssuable (at r.config.keys c.args.level) (contents_of w)) list.items)) c.self.view_is
    (c.wanted_lsps.ensures.issuable (at (machine_of c.self.inside).config.keys c.args.level) (signed-by _ _ _ c.key.ensures c.is_some.ensures))

-- src/renewal.rt
pub returns-then-not-runs-clause-wanted : goal.returns-then-not-runs-clause-wanted
returns-then-not-runs-clause-wanted c r e f =
    ap (map wanted_of) c.new.ensures.items
    ∙ sym (none-wanted given c.args.self.now r c.args.level (ap (λ (config : Config). at config.runs c.args.level) e ∙ sym c.runs.ensures ∙ c.if-not-runs.true))

-- src/renewal.rt
pub wanted_lsps-requires-clause-metrics : goal.wanted_lsps-requires-clause-metrics
wanted_lsps-requires-clause-metrics c = fit-metrics c.args.circuits.now c.requires.fit
