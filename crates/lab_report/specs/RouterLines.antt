-- The lines of a router in a report (own).
use Rattle.std.specs.Prelude.{ℕ, nat_lt, List, [], ◌∷◌, ◌++◌, Some, None, codes, decimal, if◌then◌else◌}
use Rattle.std.specs.List.{flat_map}
use Rattle.isis_base.specs.declared.identifiers.SystemId.{SystemId}
use Rattle.isis_base.specs.declared.level.Level.{Level}
use Rattle.isis_base.specs.declared.level.Level.TheVariants as level
use Rattle.isis_base.specs.Levels.{level_text}
use Rattle.isis_base.specs.Texts.{system_text, lsp_text}
use Rattle.model_router.specs.declared.drop_name.DropName.{DropName}
use Rattle.model_router.specs.declared.drop_name.DropName.TheVariants as drop
use Rattle.model_router.specs.Both.{at}
use Rattle.model_router.specs.Ranks.{number_of, is_purge}
use Rattle.model_router.specs.Cells.{Cell}
use Rattle.model_router.specs.LetGos.{LetGo}
use Rattle.model_router.specs.Drops.{drops_of, drop_word}
use Rattle.model_router.specs.Routers.{Router, level_of, book_of}
use Rattle.model_router.specs.Numbers.{system_id, lsp_id}
use Rattle.route_table.specs.declared.route.Route.{Route}
use Rattle.lab_report.specs.RouteLines.{route_line}

-- `router NAME SYSTEM boot B`
unfoldable pub router_words : List ℕ → SystemId → ℕ → List ℕ
router_words name system boot =
    codes "router " ++ name ++ codes " " ++ system_text system ++ codes " boot " ++ decimal boot
    ++ codes "\n"

abbrev pub router_line : List ℕ → Router → List ℕ
router_line name r = router_words name (system_id r.config.system) r.boot

-- ---- what a level holds, and what it let go

-- a name, a level and an LSP ID
unfoldable pub lsp_words : List ℕ → Level → ℕ → List ℕ
lsp_words name level id =
    name ++ codes " " ++ level_text level ++ codes " " ++ lsp_text (lsp_id id)

-- `lsp NAME LEVEL LSPID NUMBER live|purged`
unfoldable pub lsp_line : List ℕ → Level → ℕ → ℕ → List ℕ
lsp_line name level id rank =
    codes "lsp " ++ lsp_words name level id ++ codes " " ++ decimal (number_of rank)
    ++ (if is_purge rank then codes " purged\n" else codes " live\n")

-- an LSP that has a key has a line; an empty entry has none
abbrev pub line_of : List ℕ → Level → ℕ → ℕ → List ℕ
line_of name level id rank = if nat_lt 0 rank then lsp_line name level id rank else []

-- by LSP ID
abbrev pub lsp_lines : List ℕ → Level → List (ℕ × Cell) → List ℕ
lsp_lines name level [] = []
lsp_lines name level (pair ∷ cells) =
    line_of name level pair.0 pair.1.rank ++ lsp_lines name level cells

-- `letgo NAME LEVEL LSPID`
unfoldable pub gone_line : List ℕ → Level → ℕ → List ℕ
gone_line name level id = codes "letgo " ++ lsp_words name level id ++ codes "\n"

-- `letgo NAME LEVEL all`, or a line for each LSP ID
unfoldable pub gone_lines : List ℕ → Level → LetGo → List ℕ
gone_lines name level None =
    codes "letgo " ++ name ++ codes " " ++ level_text level ++ codes " all\n"
gone_lines name level (Some ids) = flat_map (gone_line name level) ids

-- a level that is run
unfoldable pub level_lines : List ℕ → Router → Level → List ℕ
level_lines name r level =
    if at r.config.runs level
    then lsp_lines name level (book_of r level).cells ++ gone_lines name level (level_of r level).gone
    else []

-- ---- what was dropped

-- `drop NAME WORD COUNT`; a cause that wasn't met has no line
unfoldable pub drop_line : List ℕ → Router → DropName → List ℕ
drop_line name r cause =
    let count = drops_of r.drops cause in
    if nat_lt 0 count
    then codes "drop " ++ name ++ codes " " ++ drop_word cause ++ codes " " ++ decimal count
    ++ codes "\n" else []

-- the causes of a drop, in the order in which they are tested
abbrev pub causes : List DropName
causes =
    drop.Frame ∷ drop.Version ∷ drop.Pdu ∷ drop.TooLong ∷ drop.WrongKind ∷ drop.WrongLevel ∷ drop.Auth
    ∷ drop.Value ∷ drop.ZeroNumber ∷ drop.BadChecksum ∷ drop.OwnId ∷ drop.OtherSnpa ∷ drop.OldBoot
    ∷ drop.NoLevel ∷ drop.NoArea ∷ drop.NoThreeWay ∷ drop.OtherNeighbour ∷ drop.TooMany
    ∷ drop.NoAdjacency ∷ drop.NotDesignated ∷ drop.StoreFull ∷ []

-- a router's block, with its routes
unfoldable pub router_lines : List ℕ → Router → List Route → List ℕ
router_lines name r routes =
    router_line name r ++ (level_lines name r level.One ++ (level_lines name r level.Two
    ++ (flat_map (route_line name) routes ++ flat_map (drop_line name r) causes)))
