use Rattle.std.proofs.Common.{List, ℕ, ◌++◌, map, sym, ap, ◌∙◌}
use Rattle.model_router.specs.Routers.{Contents}
use Rattle.model_router.specs.Wanted.{pseudonode_lsps, system_lsp}
use Rattle.router_wanted.specs.declared.wanted.Wanted.{Wanted}
use Rattle.router_wanted.specs.Lent.{given_of, router_of}
use Rattle.router_wanted.specs.Views.{wanted_of}
use Rattle.router_wanted.proofs.WantedLemmas.{wanted-none, wanted-some}
use Rattle.router_wanted.proofs.building.build.Goals as goal

pub returns-then-not-has_level : goal.returns-then-not-has_level
returns-then-not-has_level c =
    let r = router_of c.args.base.now c.args.circuits.now in
    let given = given_of c.args.leaks.now c.args.attached in
    ap (λ (ws : List Wanted). map wanted_of ws) c.new-list.ensures.items
    ∙ sym (wanted-none given r r c.args.level (sym c.has_level.ensures ∙ c.if-not-has_level.true))

pub returns-in-Ok-add_pseudonodes : goal.returns-in-Ok-add_pseudonodes
returns-in-Ok-add_pseudonodes c =
    let r = router_of c.args.base.now c.args.circuits.now in
    let given = given_of c.args.leaks.now c.args.attached in
    let rest = pseudonode_lsps r c.args.level 0 c.args.circuits.now in
    let system = system_lsp given r r c.args.level in
    c.in-Ok-add_pseudonodes.ensures c.args.circuits.now
    ∙ ap (λ (m : List (ℕ × Contents)). m ++ rest)
    (c.in-Ok.ensures ∙ ap (λ (ws : List Wanted). map wanted_of ws ++ system) c.new-list.ensures.items)
    ∙ sym (wanted-some given r r c.args.level (sym c.has_level.ensures ∙ c.if-not-has_level.false))
