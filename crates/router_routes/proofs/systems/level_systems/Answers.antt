use Rattle.std.proofs.Common.{◌∙◌, ap, subst, sym}
use Rattle.std.proofs.lemmas.Result.{IfOk-weaker}
use Rattle.spf_tree.specs.Graphs.{GraphOf}
use Rattle.spf_tree.specs.Nodes.{node_number}
use Rattle.router_routes.specs.Candidates.{LeaveRoom}
use Rattle.router_routes.specs.Moved.{told_of}
use Rattle.router_routes.proofs.GraphLemmas.{level-none}
use Rattle.router_routes.proofs.BesideLemmas.{same-refl}
use Rattle.router_routes.proofs.SystemLemmas.{level-same}
use Rattle.router_routes.proofs.RoomLemmas.{reached-room}
use Rattle.router_routes.proofs.systems.level_systems.Goals as goal

pub returns-clause-same : goal.returns-clause-same
returns-clause-same c =
    let told = told_of c.args.told.now in
    let repaired = c.args.repaired.now in
    let from = c.root.ensures ∙ ap (λ (g : GraphOf). g.root) c.graph.ensures in
    IfOk-weaker c.reached.result _ _ (λ list same.
    level-same c.args.runs told repaired.root c.root.result repaired.graph c.distances.result.now list.items c.if-not-runs.false c.requires.graph from c.distances.ensures.distances same) c.reached.ensures

pub returns-then-not-runs-clause-same : goal.returns-then-not-runs-clause-same
returns-then-not-runs-clause-same c = same-refl c.new.result.items _ (level-none c.args.runs (told_of c.args.told.now) c.args.repaired.now.root c.new.result.items c.if-not-runs.true c.new.ensures.items)

pub returns-clause-room : goal.returns-clause-room
returns-clause-room c =
    IfOk-weaker c.reached.result _ _ (λ list same. reached-room c.distances.result.now (node_number c.root.result) (told_of c.args.told.now) list.items c.distances.ensures.small same) c.reached.ensures

pub returns-then-not-runs-clause-room : goal.returns-then-not-runs-clause-room
returns-then-not-runs-clause-room c = subst LeaveRoom (sym c.new.ensures.items) tt
