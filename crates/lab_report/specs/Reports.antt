-- The report of a network of routers (own).
use Rattle.std.specs.Prelude.{◌≡◌, ℕ, ◌+◌, Bool, List, [], ◌∷◌, ◌++◌, length, Option, Some, None, codes, decimal, if◌then◌else◌}
use Rattle.std.specs.List.{flat_map}
use Rattle.std.specs.Option.{unwrap_or}
use Rattle.isis_base.specs.Texts.{hex_pair, lsp_text}
use Rattle.isis_base.specs.Levels.{level_text}
use Rattle.isis_base.specs.declared.level.Level.{Level}
use Rattle.isis_base.specs.declared.level.Level.TheVariants as level
use Rattle.model_router.specs.Places.{nth}
use Rattle.model_router.specs.Routers.{Router}
use Rattle.model_router.specs.Numbers.{lsp_id}
use Rattle.model_network.specs.Networks.{numbered}
use Rattle.network_lab.specs.Passed.{doubled_in}
use Rattle.route_table.specs.declared.route.Route.{Route}
use Rattle.router_routes.specs.Outlooks.{outlook_of}
use Rattle.router_routes.specs.Candidates.{AreRoutesOf}
use Rattle.network_lab.specs.declared.sent.SentDatagram.{SentDatagram}
use Rattle.network_lab.specs.LabNets.{Seen}
use Rattle.network_lab.specs.LinkStates.{runs_of, groups_at}
use Rattle.lab_report.specs.Names.{name_at}
use Rattle.lab_report.specs.RouterLines.{router_lines}
use Rattle.lab_report.specs.LinkLines.{link_lines, agree_line}

abbrev pub head_line : List ℕ
head_line = codes "isis-report 1\n"

-- ---- routers and links

-- the routes of a router, by its number, where each router's are listed
abbrev pub routes_at : List (List Route) → ℕ → List Route
routes_at routes router = unwrap_or (nth routes router) []

-- a list holds the routes of each router (RFC 5302 3.2)
abbrev pub AreAllRoutes : List Router → List (List Route) → Type 0
AreAllRoutes routers routes = (i : ℕ) (r : Router) → nth routers i ≡ Some r
    → AreRoutesOf (outlook_of r) (routes_at routes i)

abbrev pub router_block : List ℕ → Option Router → List Route → List ℕ
router_block name None routes = []
router_block name (Some r) routes = router_lines name r routes

-- the blocks of the routers from this number on, whose names these are
abbrev pub router_blocks : Seen → List (List Route) → ℕ → List (List ℕ) → List ℕ
router_blocks s routes router [] = []
router_blocks s routes router (name ∷ names) =
    router_block name (nth s.routers router) (routes_at routes router)
    ++ router_blocks s routes (router + 1) names

-- the lines of the links and LANs from this number on, whose names these are; the routers have
-- those names
abbrev pub link_blocks : List (List ℕ) → Seen → ℕ → List (List ℕ) → List ℕ
link_blocks routers s link [] = []
link_blocks routers s link (name ∷ names) =
    link_lines routers name s link ++ link_blocks routers s (link + 1) names

-- ---- the network

-- how many routers run a level
abbrev pub count_on : List Bool → ℕ
count_on [] = 0
count_on (on ∷ runs) = (if on then 1 else 0) + count_on runs

-- which routers run a level, and in how many groups they agree
abbrev pub agree_lines : Seen → Level → List ℕ
agree_lines s level =
    agree_line level (count_on (runs_of s.routers level)) (length (groups_at s level))

-- `doubled LEVEL LSPID`
unfoldable pub doubled_line : Level → ℕ → List ℕ
doubled_line level id =
    codes "doubled " ++ level_text level ++ codes " " ++ lsp_text (lsp_id id) ++ codes "\n"

-- the LSP IDs of a level of which their own router held two contents live under one number, in order
abbrev pub doubled_lines : Seen → Level → List ℕ
doubled_lines s level = flat_map (doubled_line level) (doubled_in s.noted.past level)

-- how many datagrams were injected, and how many were sent
unfoldable pub total_lines : Seen → List ℕ
total_lines s =
    codes "injected " ++ decimal s.injected ++ codes "\ndatagrams " ++ decimal (length s.sent)
    ++ codes "\n"

abbrev pub net_lines : Seen → List ℕ
net_lines s =
    agree_lines s level.One ++ (agree_lines s level.Two
    ++ (doubled_lines s level.One ++ (doubled_lines s level.Two ++ total_lines s)))

-- ---- datagrams that are told

-- `datagram K ROUTER LINK HEX`
unfoldable pub datagram_line : List (List ℕ) → List (List ℕ) → ℕ → ℕ → ℕ → List ℕ → List ℕ
datagram_line routers links number sender link octets =
    codes "datagram " ++ decimal number ++ codes " " ++ name_at routers sender
    ++ codes " " ++ name_at links link ++ codes " " ++ flat_map hex_pair octets ++ codes "\n"

abbrev pub datagram_at : List (List ℕ) → List (List ℕ) → ℕ → Option SentDatagram → List ℕ
datagram_at routers links number None = []
datagram_at routers links number (Some d) =
    datagram_line routers links number d.sender d.link d.octets

abbrev pub datagram_lines : List (List ℕ) → List (List ℕ) → Seen → List ℕ → List ℕ
datagram_lines routers links s [] = []
datagram_lines routers links s (number ∷ numbers) =
    datagram_at routers links number (numbered s.sent number)
    ++ datagram_lines routers links s numbers

-- ---- the whole

-- the report of a network whose routers and links have these names and whose routers these routes,
-- with the datagrams of these numbers
abbrev pub report_text : List (List ℕ) → List (List ℕ) → List ℕ → List (List Route) → Seen → List ℕ
report_text routers links dumps routes s =
    head_line ++ (router_blocks s routes 0 routers ++ (link_blocks routers s 0 links
    ++ (net_lines s ++ datagram_lines routers links s dumps)))
