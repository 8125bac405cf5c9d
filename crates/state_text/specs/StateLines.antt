-- The lines of a router's state (own).
use Rattle.std.specs.Prelude.{ℕ, zero, suc, ◌+◌, ◌-◌, ◌==◌, nat_lt, Bool, true, false, List, [], ◌∷◌, ◌++◌, Option, Some, None, codes, decimal, if◌then◌else◌}
use Rattle.std.specs.List.{flat_map}
use Rattle.std.specs.Option.{option_map}
use Rattle.std.specs.Borrow.{Bor}
use Rattle.isis_base.specs.declared.identifiers.SystemId.{SystemId}
use Rattle.isis_base.specs.declared.level.Level.{Level}
use Rattle.isis_base.specs.declared.level.Level.TheVariants as level
use Rattle.isis_base.specs.Fields.{u16_octets}
use Rattle.isis_base.specs.Levels.{level_text}
use Rattle.isis_base.specs.Texts.{hex_pair, system_text, lsp_text}
use Rattle.isis_tlv.specs.declared.three_way.Adj.{Adj}
use Rattle.isis_tlv.specs.declared.three_way.Adj.TheVariants as adj
use Rattle.model_router.specs.declared.drop_name.DropName.{DropName}
use Rattle.model_router.specs.declared.drop_name.DropName.TheVariants as drop
use Rattle.model_router.specs.Adjacencies.{Neighbour, PointAdj}
use Rattle.model_router.specs.Both.{Both, at}
use Rattle.model_router.specs.Cells.{Cell}
use Rattle.model_router.specs.Configs.{Config}
use Rattle.model_router.specs.Drops.{drops_of, drop_word}
use Rattle.model_router.specs.LetGos.{LetGo}
use Rattle.model_router.specs.Numbers.{system_id, lsp_id}
use Rattle.model_router.specs.Ranks.{number_of, is_purge}
use Rattle.model_router.specs.Routers.{Circuit, LanNeighbour, Router, level_of, book_of}
use Rattle.model_router.specs.Sets.{has}
use Rattle.adjacency.specs.Lans.{neighbours, ups}
use Rattle.adjacency.specs.Views.{neighbour_of}
use Rattle.adjacency.specs.declared.neighbour.Neighbour as code
use Rattle.route_table.specs.declared.route.Route.{Route}
use Rattle.route_text.specs.RouteLine.{route_line}
use Rattle.router_core.specs.Designated.{designated_system}

-- `router SYSTEM boot B entries N`
unfoldable pub router_line : ℕ → SystemId → ℕ → List ℕ
router_line entries system boot =
    codes "router " ++ system_text system ++ codes " boot " ++ decimal boot ++ codes " entries "
    ++ decimal entries ++ codes "\n"

unfoldable pub head_line : List ℕ
head_line = codes "isis-state 1\n"

-- ---- circuits and neighbours

abbrev pub kind_text : Bool → List ℕ
kind_text true = codes " lan"
kind_text false = codes " p2p"

-- `circuit C lan|p2p metric M priority P`
unfoldable pub circuit_line : ℕ → Circuit → List ℕ
circuit_line number c =
    (codes "circuit " ++ decimal number) ++ kind_text c.lan ++ (codes " metric " ++ decimal c.metric)
    ++ (codes " priority " ++ decimal c.priority) ++ codes "\n"

abbrev pub adjacency_word : Adj → List ℕ
adjacency_word adj.Down = codes " down"
adjacency_word adj.Initializing = codes " initializing"
adjacency_word adj.Up = codes " up"

unfoldable pub runs_text : Both Bool → List ℕ
runs_text runs =
    codes " levels " ++ (if runs.one then codes "L1" else []) ++ (if runs.two then codes "L2" else [])

-- ` SYSTEM boot B`
unfoldable pub who_words : SystemId → ℕ → List ℕ
who_words system boot =
    codes " " ++ system_text system ++ codes " boot " ++ decimal boot

-- ` SYSTEM boot B levels L priority P holding H`
unfoldable pub neighbour_words : Neighbour → List ℕ
neighbour_words n =
    who_words (system_id n.system) n.boot ++ runs_text n.levels ++ codes " priority " ++ decimal n.priority
    ++ codes " holding " ++ decimal n.left

unfoldable pub kept_words : Option Neighbour → List ℕ
kept_words None = []
kept_words (Some n) = neighbour_words n

abbrev pub kept_of : Option (Bor code.Neighbour) → Option Neighbour
kept_of kept = option_map (λ n. neighbour_of n.now) kept

-- `adjacency C down|initializing|up ..`
unfoldable pub adjacency_line : ℕ → PointAdj → List ℕ
adjacency_line number a =
    (codes "adjacency " ++ decimal number) ++ adjacency_word a.state ++ kept_words a.neighbour
    ++ codes "\n"

-- a LAN has none
unfoldable pub point_lines : ℕ → Circuit → List ℕ
point_lines number c = if c.lan then [] else adjacency_line number c.point

-- `up|heard C LEVEL ..`
unfoldable pub lan_line : List ℕ → ℕ → Level → Neighbour → List ℕ
lan_line word number level n =
    (word ++ decimal number) ++ codes " " ++ level_text level ++ neighbour_words n ++ codes "\n"

-- the neighbours in state Up, then all that are heard, each by SNPA
unfoldable pub lan_lines : ℕ → Level → List (ℕ × LanNeighbour) → List ℕ
lan_lines number level heard =
    flat_map (lan_line (codes "up ") number level) (ups heard)
    ++ flat_map (lan_line (codes "heard ") number level) (neighbours heard)

-- ` SYSTEM`
unfoldable pub system_word : SystemId → List ℕ
system_word system = codes " " ++ system_text system

-- `WORD C LEVEL`
unfoldable pub at_words : List ℕ → ℕ → Level → List ℕ
at_words word number level = (word ++ decimal number) ++ codes " " ++ level_text level

-- `designated C LEVEL SYSTEM` (ISO 10589 8.4.5)
unfoldable pub designated_words : ℕ → Level → SystemId → List ℕ
designated_words number level system =
    at_words (codes "designated ") number level ++ system_word system ++ codes "\n"

-- the same by the system's number; nothing where no system is designated
abbrev pub designated_line : ℕ → Level → Option ℕ → List ℕ
designated_line number level None = []
designated_line number level (Some system) = designated_words number level (system_id system)

-- a LAN and level: its neighbours, and the system that is designated
unfoldable pub lan_block : Config → ℕ → Level → Circuit → List ℕ
lan_block config number level c =
    lan_lines number level (at c.levels level).heard
    ++ designated_line number level (designated_system config (number - 1) c level)

-- `WORD C SYSTEM`
unfoldable pub of_words : List ℕ → ℕ → SystemId → List ℕ
of_words word number system = (word ++ decimal number) ++ system_word system

-- `heard-boot C SYSTEM B` (own)
unfoldable pub boot_words : ℕ → SystemId → ℕ → List ℕ
boot_words number system boot =
    of_words (codes "heard-boot ") number system ++ (codes " " ++ decimal boot) ++ codes "\n"

-- the greatest boot number that was heard of a system on the circuit (own)
abbrev pub boot_line : ℕ → ℕ × ℕ → List ℕ
boot_line number heard = boot_words number (system_id heard.0) heard.1

unfoldable pub circuit_block : Config → ℕ → Circuit → List ℕ
circuit_block config number c =
    circuit_line number c ++ (point_lines number c ++ (lan_block config number level.One c
    ++ (lan_block config number level.Two c ++ flat_map (boot_line number) c.boots)))

-- the circuits from this number on
abbrev pub circuit_blocks : Config → ℕ → List Circuit → List ℕ
circuit_blocks config number [] = []
circuit_blocks config number (c ∷ cs) =
    circuit_block config number c ++ circuit_blocks config (number + 1) cs

-- ---- what a level holds, with its flags, and what it has forgotten

unfoldable pub place_words : ℕ → ℕ → List ℕ
place_words set place = if has set place then codes " " ++ decimal (place + 1) else []

-- the circuits of a set at places below this one, counted from 1
unfoldable pub set_below : ℕ → ℕ → List ℕ
set_below set zero = []
set_below set (suc place) = set_below set place ++ place_words set place

-- a word and the circuits of a set; nothing where there is none
unfoldable pub set_words : List ℕ → ℕ → List ℕ
set_words word set = if set == 0 then [] else word ++ set_below set 64

unfoldable pub lsp_words : Level → ℕ → List ℕ
lsp_words level id = level_text level ++ codes " " ++ lsp_text (lsp_id id)

abbrev pub key_text : Bool → List ℕ
key_text true = codes " purged"
key_text false = codes " live"

unfoldable pub key_words : ℕ → List ℕ
key_words rank =
    if nat_lt 0 rank then codes " " ++ decimal (number_of rank) ++ key_text (is_purge rank)
    else codes " empty"

unfoldable pub hex_field : ℕ → List ℕ
hex_field number = flat_map hex_pair (u16_octets number)

unfoldable pub checksum_words : ℕ → List ℕ
checksum_words checksum = codes " checksum " ++ hex_field checksum

-- what is held, without its flags
unfoldable pub held_words : Level → ℕ → Cell → List ℕ
held_words level id cell =
    codes "lsp " ++ lsp_words level id ++ key_words cell.rank ++ codes " left " ++ decimal cell.left
    ++ checksum_words cell.checksum

unfoldable pub flag_words : Cell → List ℕ
flag_words cell = set_words (codes " srm") cell.srm ++ set_words (codes " ssn") cell.ssn

-- `lsp LEVEL LSPID NUMBER live|purged left T checksum X [srm C ..] [ssn C ..]`
unfoldable pub lsp_line : Level → ℕ → Cell → List ℕ
lsp_line level id cell = held_words level id cell ++ flag_words cell ++ codes "\n"

-- by LSP ID, empty entries too
abbrev pub lsp_lines : Level → List (ℕ × Cell) → List ℕ
lsp_lines level [] = []
lsp_lines level (pair ∷ cells) = lsp_line level pair.0 pair.1 ++ lsp_lines level cells

-- `letgo LEVEL LSPID`
unfoldable pub gone_line : Level → ℕ → List ℕ
gone_line level id = codes "letgo " ++ lsp_words level id ++ codes "\n"

-- `letgo LEVEL all`, or a line for each LSP ID
unfoldable pub gone_lines : Level → LetGo → List ℕ
gone_lines level None = codes "letgo " ++ level_text level ++ codes " all\n"
gone_lines level (Some ids) = flat_map (gone_line level) ids

-- a level that is run
unfoldable pub level_lines : Router → Level → List ℕ
level_lines r level =
    if at r.config.runs level
    then lsp_lines level (book_of r level).cells ++ gone_lines level (level_of r level).gone
    else []

-- ---- what was dropped

-- `drop WORD COUNT`; a cause that wasn't met has no line
unfoldable pub drop_line : Router → DropName → List ℕ
drop_line r cause =
    let count = drops_of r.drops cause in
    if nat_lt 0 count
    then codes "drop " ++ drop_word cause ++ codes " " ++ decimal count ++ codes "\n" else []

-- the causes of a drop, in the order in which they are tested
abbrev pub causes : List DropName
causes =
    drop.Frame ∷ drop.Version ∷ drop.Pdu ∷ drop.TooLong ∷ drop.WrongKind ∷ drop.WrongLevel ∷ drop.Auth
    ∷ drop.Value ∷ drop.ZeroNumber ∷ drop.BadChecksum ∷ drop.OwnId ∷ drop.OtherSnpa ∷ drop.OldBoot
    ∷ drop.NoLevel ∷ drop.NoArea ∷ drop.NoThreeWay ∷ drop.OtherNeighbour ∷ drop.TooMany
    ∷ drop.NoAdjacency ∷ drop.NotDesignated ∷ drop.StoreFull ∷ []

-- ---- the whole

-- a router's state after so many entries of its journal, with these routes
unfoldable pub state_text : ℕ → Router → List Route → List ℕ
state_text entries r routes =
    head_line ++ (router_line entries (system_id r.config.system) r.boot ++ (circuit_blocks r.config 1 r.circuits
    ++ (level_lines r level.One ++ (level_lines r level.Two
    ++ (flat_map route_line routes ++ flat_map (drop_line r) causes)))))
