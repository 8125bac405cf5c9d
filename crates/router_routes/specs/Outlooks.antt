-- What routes look at of a router, and the graph of each level (own).
use Rattle.std.specs.Prelude.{ℕ, ◌/◌, ◌%◌, Bool, List, [], ◌∷◌, ◌++◌, filter, Option, Some, None, if◌then◌else◌}
use Rattle.isis_base.specs.declared.identifiers.NodeId.{NodeId}
use Rattle.isis_base.specs.declared.identifiers.LspId.{LspId}
use Rattle.isis_base.specs.declared.level.Level.{Level}
use Rattle.isis_base.specs.declared.level.Level.TheVariants as level
use Rattle.isis_base.specs.declared.prefix.Prefix.{Prefix}
use Rattle.isis_base.specs.Prefixes.{prefix_from}
use Rattle.model_router.specs.Both.{Both, at, runs_of}
use Rattle.model_router.specs.Routers.{Router, book_of}
use Rattle.model_router.specs.Numbers.{system_id}
use Rattle.lsp_store.specs.declared.entry.Entry.{Entry}
use Rattle.lsp_view.specs.Views.{own_node, rows_in, overloaded_in}
use Rattle.spf_tree.specs.declared.row.Row.{Row}
use Rattle.spf_tree.specs.Nodes.{node_number}
use Rattle.spf_tree.specs.Walks.{start, end}
use Rattle.spf_tree.specs.Graphs.{GraphOf, AreUsable, is_usable}
use Rattle.router_routes.specs.declared.lent.Lent.{Lent}
use Rattle.router_routes.specs.Told.{told_in, told_by}

-- the router's own node, its area addresses, the levels that it runs, its own prefixes with their
-- metrics, and what the live LSPs of each level that it runs tell (own)
pub record Outlook : Type 0 where
  pub root : NodeId
  pub areas : List (List ℕ)
  pub runs : Both Bool
  pub prefixes : List (Prefix × ℕ)
  pub told : Both (List (LspId × Entry))

-- what a level tells: nothing where it isn't run (own)
abbrev pub where_run : Bool → List (LspId × Entry) → List (LspId × Entry)
where_run runs told = if runs then told else []

-- ---- of a router as the model has it

abbrev pub with_metric : Option Prefix → ℕ → List (Prefix × ℕ)
with_metric None metric = []
with_metric (Some prefix) metric = (prefix, metric) ∷ []

-- prefixes of their numbers (own)
abbrev pub prefixes_by : List (ℕ × ℕ) → List (Prefix × ℕ)
prefixes_by [] = []
prefixes_by (own ∷ prefixes) =
    with_metric (prefix_from (own.0 / 64) (own.0 % 64)) own.1 ++ prefixes_by prefixes

unfoldable pub outlook_of : Router → Outlook
outlook_of r = record {
  root = own_node (system_id r.config.system);
  areas = r.config.areas;
  runs = r.config.runs;
  prefixes = prefixes_by r.config.prefixes;
  told = record {
    one = where_run r.config.runs.one (told_by (book_of r level.One).cells);
    two = where_run r.config.runs.two (told_by (book_of r level.Two).cells);
  };
}

-- ---- of what is lent

unfoldable pub outlook_in : Lent → Outlook
outlook_in lent = record {
  root = own_node lent.system;
  areas = lent.areas.now;
  runs = runs_of lent.levels;
  prefixes = lent.prefixes.now;
  told = record {
    one = where_run (runs_of lent.levels).one (told_in lent.one.now.entries);
    two = where_run (runs_of lent.levels).two (told_in lent.two.now.entries);
  };
}

-- ---- the graph of a level

-- the rows that may be walked (ISO 10589 7.2.8)
abbrev pub usable_rows : List (LspId × Entry) → NodeId → List Row
usable_rows told root =
    filter (λ row. is_usable (rows_in told) (overloaded_in told) (node_number root) (start row)
    (end row) row.metric) (rows_in told)

unfoldable pub graph_in : List (LspId × Entry) → NodeId → GraphOf
graph_in told root = record { rows = usable_rows told root; root = root }

-- a graph is that of the level, its rows in any order (ISO 10589 7.2.8)
abbrev pub IsGraph : Outlook → Level → GraphOf → Type 0
IsGraph o level graph =
    AreUsable (rows_in (at o.told level)) (overloaded_in (at o.told level)) o.root graph
