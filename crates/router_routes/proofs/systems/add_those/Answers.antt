use Rattle.std.proofs.Common.{◌≡◌, ◌++◌, ℕ, Bool, List, subst}
use Rattle.std.specs.List.{flat_map}
use Rattle.isis_base.specs.declared.identifiers.LspId.{LspId}
use Rattle.lsp_store.specs.declared.entry.Entry.{Entry}
use Rattle.lsp_view.specs.Lsps.{entries_in}
use Rattle.spf_tree.specs.Distances.{cost_at}
use Rattle.router_routes.specs.Told.{told_in}
use Rattle.router_routes.specs.Moved.{is_one, told_by_nodes}
use Rattle.router_routes.specs.Candidates.{reached_by}
use Rattle.router_routes.proofs.SystemLemmas.{those-turn}
use Rattle.router_routes.proofs.systems.add_those.Goals as goal

pub loop-id-preserved : goal.loop-id-preserved
loop-id-preserved c =
    let reach = reached_by (cost_at c.args.distances.now) c.args.root in
    let those : ℕ → Bool = is_one c.args.there c.args.nodes.now in
    let whole = c.args.list.now.items ++ flat_map reach (told_by_nodes those (told_in (entries_in c.args.lsps))) in
    those-turn reach those (c.in-Some.id, c.in-Some.entry.now) c.next.new.self c.loop-id.list.items _ whole c.in-Ok.ensures
    (subst (λ (left : List (LspId × Entry)). c.loop-id.list.items ++ flat_map reach (told_by_nodes those (told_in left)) ≡ whole) c.in-Some.ensures.steps c.loop-id.invariant)
