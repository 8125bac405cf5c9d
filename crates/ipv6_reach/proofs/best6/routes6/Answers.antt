use Rattle.std.proofs.Common.{◌≡◌, ◌∙◌, List, ap, subst}
use Rattle.isis_base.specs.declared.identifiers.LspId.{LspId}
use Rattle.isis_base.specs.declared.identifiers.NodeId.{NodeId}
use Rattle.lsp_store.specs.declared.entry.Entry.{Entry}
use Rattle.spf_tree.specs.Nodes.{node_number}
use Rattle.spf_tree.specs.Distances.{AreDistances}
use Rattle.ipv6_reach.specs.declared.candidate6.Candidate6.{Candidate6}
use Rattle.ipv6_reach.specs.Reach6.{candidates6}
use Rattle.ipv6_reach.specs.Routes6.{IsHopTo6, AreRoutes6}
use Rattle.ipv6_reach.proofs.NumberLemmas6.{same_candidates}
use Rattle.ipv6_reach.proofs.best6.routes6.Goals as goal

pub returns-in-Ok-routes_by : goal.returns-in-Ok-routes_by
returns-in-Ok-routes_by c =
    let root = c.args.root in
    let graph = c.in-Ok.graph in
    let costs = c.in-Ok-distances_from.distances in
    let list = c.in-Ok-routes_by.routes.items in
    let H = IsHopTo6 graph in
    let made : c.in-Ok-candidates6.candidates.items ≡ candidates6 c.args.capture.now.entries root costs = c.in-Ok-candidates6.ensures ∙ ap (λ (entries : List (LspId × Entry)). candidates6 entries root costs) c.store.ensures in
    let sorted : AreRoutes6 H c.in_order6-candidates.result.items list = subst (λ (cs : List Candidate6). AreRoutes6 H cs list) c.as_slice.ensures.value c.in-Ok-routes_by.ensures in
    let given = same_candidates H c.in-Ok-candidates6.candidates.items c.in_order6-candidates.result.items list c.in_order6-candidates.ensures.all c.in_order6-candidates.ensures.none sorted in
    record {
      graph = graph;
      usable = c.in-Ok.ensures;
      costs = costs;
      least = subst (λ (node : NodeId). AreDistances graph.rows (node_number node) costs) c.own_node.ensures c.in-Ok-distances_from.ensures.least;
      best = subst (λ (cs : List Candidate6). AreRoutes6 H cs list) made given;
    }
