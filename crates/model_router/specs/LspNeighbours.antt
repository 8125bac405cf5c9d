-- The neighbours of own LSPs: those of the system from its circuits (ISO 10589 7.3.7, 7.3.9), those
-- of a pseudonode from its LAN (ISO 10589 7.3.8, 7.3.10), and their TLVs (RFC 5305 3).
use Rattle.std.specs.Prelude.{ℕ, ◌+◌, ◌*◌, ◌/◌, ◌%◌, ◌^◌, ◌==◌, nat_lt, ◌&&◌, List, [], ◌∷◌, ◌++◌, Option, Some, None, if◌then◌else◌}
use Rattle.isis_base.specs.declared.level.Level.{Level}
use Rattle.isis_base.specs.Fields.{u24_octets, u32_octets}
use Rattle.model_router.specs.Configs.{Config}
use Rattle.model_router.specs.Adjacencies.{Neighbour, point_open}
use Rattle.model_router.specs.Routers.{LanNeighbour, Circuit}
use Rattle.model_router.specs.Elections.{Candidate, designated}
use Rattle.model_router.specs.Splits.{Item}

-- a node's seven octets (ISO 10589 9.8)
abbrev pub u56_octets : ℕ → List ℕ
u56_octets node = u24_octets (node / 2 ^ 32) ++ u32_octets node

-- the pseudonode of a LAN's designated system, where its LAN ID names it (7.3.7, 7.3.9)
abbrev pub lan_node : ℕ → Option Candidate → List (ℕ × ℕ)
lan_node metric None = []
lan_node metric (Some d) =
    if d.lan / 256 == d.system && nat_lt 0 (d.lan % 256) then (d.lan, metric) ∷ [] else []

-- 7.3.7, 7.3.9
abbrev pub point_node : ℕ → Option Neighbour → List (ℕ × ℕ)
point_node metric None = []
point_node metric (Some n) = (256 * n.system, metric) ∷ []

-- what a circuit gives the system's LSP: a node and a metric (7.3.7, 7.3.9)
abbrev pub nodes_of : Config → ℕ → Circuit → Level → List (ℕ × ℕ)
nodes_of config place c l =
    if c.lan then lan_node c.metric (designated config place c l)
    else (if point_open c.point l then point_node c.metric c.point.neighbour else [])

-- a node is put behind those of no greater number (own)
abbrev pub put_node : List (ℕ × ℕ) → ℕ × ℕ → List (ℕ × ℕ)
put_node [] node = node ∷ []
put_node (x ∷ nodes) node = if nat_lt node.0 x.0 then node ∷ x ∷ nodes else x ∷ put_node nodes node

-- own
abbrev pub put_nodes : List (ℕ × ℕ) → List (ℕ × ℕ) → List (ℕ × ℕ)
put_nodes nodes [] = nodes
put_nodes nodes (node ∷ more) = put_nodes (put_node nodes node) more

-- the neighbours of all circuits, by node, those of one node in order of circuits (own)
abbrev pub all_nodes : Config → Level → ℕ → List Circuit → List (ℕ × ℕ) → List (ℕ × ℕ)
all_nodes config l place [] nodes = nodes
all_nodes config l place (c ∷ circuits) nodes =
    all_nodes config l (place + 1) circuits (put_nodes nodes (nodes_of config place c l))

-- a pseudonode's neighbours beside those that are there: all up neighbours, at metric 0, by node
-- (7.3.8, 7.3.10)
abbrev pub lan_nodes : List (ℕ × LanNeighbour) → List (ℕ × ℕ) → List (ℕ × ℕ)
lan_nodes [] nodes = nodes
lan_nodes (pair ∷ heard) nodes =
    lan_nodes heard (if pair.1.up then put_node nodes (256 * pair.1.neighbour.system, 0) else nodes)

-- their entries of TLV 22 (RFC 5305 3)
abbrev pub node_items : List (ℕ × ℕ) → List Item
node_items [] = []
node_items (node ∷ nodes) =
    record { code = 22; octets = u56_octets node.0 ++ u24_octets node.1 ++ 0 ∷ [] }
    ∷ node_items nodes
