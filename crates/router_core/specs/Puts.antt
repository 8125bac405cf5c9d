-- Routers that differ in what is held of one LSP ID, as routes see it (own).
use Rattle.std.specs.Prelude.{◌≡◌, true}
use Rattle.isis_base.specs.declared.identifiers.LspId.{LspId}
use Rattle.isis_base.specs.declared.level.Level.{Level}
use Rattle.isis_base.specs.Identifiers.{lsp_number}
use Rattle.lsp_store.specs.declared.entry.Entry.{Entry}
use Rattle.lsp_store.specs.Databases as store
use Rattle.model_router.specs.Cells.{Cell}
use Rattle.model_router.specs.Maps.{put}
use Rattle.model_router.specs.Ranks.{is_live}
use Rattle.model_router.specs.Routers.{Router, book_of}
use Rattle.router_routes.specs.Moved.{beside}
use Rattle.router_routes.specs.Told.{told}

-- a cell tells what an entry tells: nothing where it isn't live (own)
pub record Tells (cell : Cell) (e : Entry) : Type 0 where
  pub live : is_live cell.rank ≡ store.is_live e
  pub says : store.is_live e ≡ true → told cell.flags cell.octets ≡ told e.flags e.octets

-- one cell is put in a level's book, which tells what an entry tells; the configuration and the other level's book stay (own)
pub record IsWith (r t : Router) (level : Level) (id : LspId) (e : Entry) : Type 0 where
  pub cell : Cell
  pub config : t.config ≡ r.config
  pub cells : (book_of t level).cells ≡ put (book_of r level).cells (lsp_number id) cell
  pub other : book_of t (beside level) ≡ book_of r (beside level)
  pub tells : Tells cell e
