use Rattle.std.proofs.Common.{◌≡◌, ◌++◌, ℕ, List, [], false, subst}
use Rattle.isis_base.specs.declared.identifiers.LspId.{LspId}
use Rattle.lsp_store.specs.declared.entry.Entry.{Entry}
use Rattle.spf_tree.specs.Distances.{cost_at}
use Rattle.std.specs.List.{flat_map}
use Rattle.router_routes.specs.Candidates.{reached_by}
use Rattle.router_routes.specs.Kept.{AreSame}
use Rattle.router_routes.specs.Moved.{is_one, told_by_nodes, told_of}
use Rattle.router_routes.specs.Told.{told_in}
use Rattle.router_routes.proofs.SystemLemmas.{reached-alone, reached-parts}
use Rattle.router_routes.proofs.systems.reached.Goals as goal

pub returns-in-Ok : goal.returns-in-Ok
returns-in-Ok c =
    let reach = reached_by (cost_at c.args.distances.now) c.number-start.result in
    subst (λ (n : ℕ). AreSame c.add_those.new.list.items (flat_map (reached_by (cost_at c.args.distances.now) n) (told_of c.args.told.now))) c.number-start.ensures
    (reached-alone reach c.args.told.now c.in-None.is c.in_ok-list.list.items c.add_those.new.list.items c.in_ok-list.ensures
    (subst (λ (es : List (LspId × Entry)). c.add_those.new.list.items ≡ c.in_ok-list.list.items ++ flat_map reach (told_by_nodes (is_one false []) (told_in es))) c.of-held.ensures c.in-Ok.ensures))

pub returns-in_ok-add_those-in-Some-2 : goal.returns-in_ok-add_those-in-Some-2
returns-in_ok-add_those-in-Some-2 c =
    let reach = reached_by (cost_at c.args.distances.now) c.number-start.result in
    subst (λ (n : ℕ). AreSame c.add_those-in-Some-2.new.list.items (flat_map (reached_by (cost_at c.args.distances.now) n) (told_of c.args.told.now))) c.number-start.ensures
    (reached-parts reach c.args.told.now c.in-Some.moved c.in-Some.is c.requires c.in_ok-list.list.items c.add_those-in-Some.new.list.items c.add_those-in-Some-2.new.list.items c.in_ok-list.ensures
    (subst (λ (es : List (LspId × Entry)). c.add_those-in-Some.new.list.items ≡ c.in_ok-list.list.items ++ flat_map reach (told_by_nodes (is_one false c.in-Some.moved.nodes.now) (told_in es))) c.of-held.ensures c.in_ok-add_those-in-Some.ensures)
    c.in_ok-add_those-in-Some-2.ensures)
