-- The IPv4 routes of a system in captured LSPs (RFC 5302 3.2).

use Rattle.std.specs.Prelude.{ℕ, List, [], map}
use Rattle.isis_base.specs.declared.level.Level.{Level}
use Rattle.isis_base.specs.declared.level.Level.TheVariants as level
use Rattle.isis_base.specs.declared.level.LevelSet.{LevelSet}
use Rattle.isis_base.specs.declared.level.LevelSet.TheVariants as levels
use Rattle.isis_base.specs.declared.identifiers.SystemId.{SystemId}
use Rattle.isis_base.specs.declared.identifiers.LspId.{LspId}
use Rattle.isis_base.specs.declared.prefix.Prefix.{Prefix}
use Rattle.isis_tlv.specs.declared.prefix.PrefixItem.{PrefixItem}
use Rattle.lsp_store.specs.declared.entry.Entry.{Entry}
use Rattle.lsp_view.specs.Views.{own_node, reach_in}
use Rattle.model_router.specs.Both.{runs_of}
use Rattle.route_table.specs.declared.route.Route.{Route}
use Rattle.router_routes.specs.Told.{told_in}
use Rattle.router_routes.specs.Outlooks.{Outlook, where_run}
use Rattle.router_routes.specs.Candidates.{AreRoutesOf}

-- one level alone
abbrev pub only : Level → LevelSet
only level.One = levels.One
only level.Two = levels.Two

-- a prefix and its metric
abbrev pub own_of : PrefixItem → Prefix × ℕ
own_of item = (item.prefix, item.metric)

-- what a router looks at for its routes that has this system ID, runs this level alone, and holds these LSPs; its own
-- prefixes are those that its LSPs list (own)
unfoldable pub outlook_of : Level → SystemId → List (LspId × Entry) → Outlook
outlook_of level system entries = record {
  root = own_node system;
  areas = [];
  runs = runs_of (only level);
  prefixes = map own_of (reach_in entries system);
  told = record {
    one = where_run (runs_of (only level)).one (told_in entries);
    two = where_run (runs_of (only level)).two (told_in entries);
  };
}

-- the routes of such a router
abbrev pub AreRoutesAt : Level → SystemId → List (LspId × Entry) → List Route → Type 0
AreRoutesAt level system entries routes = AreRoutesOf (outlook_of level system entries) routes
