-- Whether a router is attached, where nothing else is told in level 2.
use Rattle.std.proofs.Common.{◌≡◌, ℕ, ◌&&◌, List, map, None, sym}
use Rattle.isis_base.specs.declared.identifiers.SystemId.{SystemId}
use Rattle.isis_base.specs.declared.identifiers.NodeId.{NodeId}
use Rattle.lsp_view.specs.Views.{areas_at, lead_of, own_node}
use Rattle.route_leaking.specs.Attachment.{is_attached}
use Rattle.router_routes.specs.declared.lent.Lent.{Lent}
use Rattle.router_routes.specs.declared.view.View.{View}
use Rattle.router_routes.specs.Outlooks.{Outlook, outlook_in, where_run}
use Rattle.router_routes.specs.Candidates.{attached_of, reached_in}
use Rattle.router_routes.specs.Kept.{AreBeside}
use Rattle.router_routes.specs.Moved.{outlook_at, told_moved}
use Rattle.router_routes.specs.Told.{told_in}

attached-same : (o p : Outlook) → p.root ≡ o.root → p.areas ≡ o.areas → p.runs ≡ o.runs → p.told.two ≡ o.told.two → attached_of p ≡ attached_of o
unfolding attached_of
attached-same o p root areas runs two = λ i.
    ((runs i).one && (runs i).two) && is_attached (areas i) (map (λ (s : SystemId × ℕ). areas_at (lead_of (two i) (own_node s.0))) (reached_in (two i) (root i)))

two-stays : (lent : Lent) (view : View) → (outlook_at view).runs ≡ (outlook_in lent).runs → view.two.store ≡ lent.two → view.two.moved ≡ None → (outlook_at view).told.two ≡ (outlook_in lent).told.two
unfolding outlook_at outlook_in
two-stays lent view runs store none = λ i. where_run (runs i).two (told_moved (told_in (store i).now.entries) (none i))

-- so it is attached as before
pub attached-stays : (lent : Lent) (view : View) (nodes : List NodeId) → AreBeside nodes (outlook_in lent) (outlook_at view) → view.two.store ≡ lent.two → view.two.moved ≡ None → attached_of (outlook_in lent) ≡ attached_of (outlook_at view)
attached-stays lent view nodes beside store none =
    sym (attached-same (outlook_in lent) (outlook_at view) beside.root beside.areas beside.runs (two-stays lent view beside.runs store none))
