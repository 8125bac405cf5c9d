-- What is still to come of a report, and how many calls make it at most (own).
use Rattle.std.specs.Prelude.{ℕ, ◌+◌, List, [], ◌++◌, length, map, if◌then◌else◌}
use Rattle.std.specs.Borrow.{Bor}
use Rattle.route_table.specs.declared.route.Route.{Route}
use Rattle.lab_report.specs.declared.left.LabReport.{LabReport}
use Rattle.lab_report.specs.Names.{texts}
use Rattle.lab_report.specs.Reports.{router_blocks, link_blocks, net_lines, datagram_lines}

-- the routes of lent tables
abbrev pub routes_of : List (Bor (List Route)) → List (List Route)
routes_of tables = map (λ table. table.now) tables

-- the head, the routers and links behind it, the lines of the network, and the datagrams
abbrev pub lines_left : LabReport → List ℕ
lines_left left =
    left.head.now ++ (router_blocks left.net.now.seen (routes_of left.routes.items) left.router (texts left.router_names.now)
    ++ (link_blocks (texts left.routers.now) left.net.now.seen left.link (texts left.link_names.now)
    ++ ((if left.is_open then net_lines left.net.now.seen else [])
    ++ datagram_lines (texts left.routers.now) (texts left.links.now) left.net.now.seen
    left.dumps.now)))

-- a call for each router, link and datagram, and one for the network
abbrev pub calls_left : LabReport → ℕ
calls_left left =
    length left.router_names.now + length left.link_names.now
    + (if left.is_open then 1 else 0) + length left.dumps.now
