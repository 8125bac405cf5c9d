use Rattle.std.proofs.Common.{◌≡◌, ◌∙◌, ℕ, List, ◌++◌, not, filter, Option, ap, append-nil, sym, subst}
use Rattle.std.specs.Prelude.{OnOk}
use Rattle.route_table.specs.Patches.{is_moved}
use Rattle.router_routes.specs.declared.coming.LevelAfter.{LevelAfter}
use Rattle.router_routes.specs.Coming.{apart_in}
use Rattle.router_routes.proofs.touched.add_apart.Goals as goal

pub returns-in-None : goal.returns-in-None
returns-in-None c =
    let numbers = c.args.numbers.now.items in
    sym (ap (λ (q : Option LevelAfter). numbers ++ filter (λ n. not (is_moved c.args.moved.now n)) (apart_in q)) c.in-None.is ∙ append-nil numbers)

pub returns-in-Some : goal.returns-in-Some
returns-in-Some c =
    let numbers = c.args.numbers.now.items in
    let beside = λ (l : List ℕ). filter (λ n. not (is_moved c.args.moved.now n)) l in
    subst (λ (q : Option LevelAfter). OnOk c.add_others.result (c.add_others.new.numbers.items ≡ numbers ++ beside (apart_in q))) (sym c.in-Some.is)
    (subst (λ (l : List ℕ). OnOk c.add_others.result (c.add_others.new.numbers.items ≡ numbers ++ beside l)) c.as_slice.ensures.value c.add_others.ensures)
