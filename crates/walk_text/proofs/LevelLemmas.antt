-- The database of level 1 that a router has, and what the router's model says of it.
use Rattle.std.proofs.Common.{◌≡◌, ◌||◌, ◌∷◌, [], Bool, true, false, List, length, refl, sym, ap, ◌∙◌, subst, arith}
use Rattle.std.specs.List.{AllByRecursion}
use Rattle.isis_base.specs.declared.identifiers.SystemId.{SystemId}
use Rattle.isis_base.specs.declared.identifiers.LspId.{LspId}
use Rattle.isis_base.specs.declared.level.Level.TheVariants as level
use Rattle.isis_base.specs.Identifiers.{IsId}
use Rattle.isis_base.specs.Keys.{rank}
use Rattle.model_router.specs.Books.{Book}
use Rattle.model_router.specs.Ranks.{is_live}
use Rattle.model_router.specs.Routers.{Router, book_of}
use Rattle.model_router.specs.Numbers.{system_id, system_number}
use Rattle.lsp_store.specs.declared.entry.Entry.{Entry}
use Rattle.lsp_store.specs.Databases.{Database, live_of}
use Rattle.lsp_store.specs.Databases as store
use Rattle.flag_sync.specs.declared.flag_row.FlagRow.{FlagRow}
use Rattle.flag_sync.specs.BookStates.{BookState, AreBeside, cells_of}
use Rattle.flag_sync.specs.BookStates as sync
use Rattle.lsp_view.specs.Views.{own_node}
use Rattle.router_routes.specs.Told.{told_by, told_in}
use Rattle.router_routes.specs.Outlooks.{where_run, outlook_of}
use Rattle.router_core.proofs.RouteLemmas.{live-is, told-cells}
use Rattle.walk_text.specs.Views.{Held, stored, view_in, view_stored}

pub own-root : (r : Router) (system : SystemId) → system_number system ≡ r.config.system → system_id (system_number system) ≡ system → own_node system ≡ (outlook_of r).root
unfolding outlook_of
own-root r system e f = ap own_node (sym f ∙ ap system_id e)

pub runs-one : (a b : Bool) → (a || b) ≡ true → b ≡ false → a ≡ true
runs-one true b e f = refl
runs-one false b e f = absurd (let clash : true ≡ false = sym e ∙ f in cc)

pub told-is : (r : Router) → r.config.runs.one ≡ true → (outlook_of r).told.one ≡ told_by (book_of r level.One).cells
unfolding outlook_of
told-is r e = ap (λ (b : Bool). where_run b (told_by (book_of r level.One).cells)) e

pub none-told : (r : Router) → r.config.runs.two ≡ false → (outlook_of r).told.two ≡ []
unfolding outlook_of
none-told r e = ap (λ (b : Bool). where_run b (told_by (book_of r level.Two).cells)) e

beside-long : (entries : List (LspId × Entry)) (rows : List (LspId × FlagRow)) → AreBeside entries rows → length rows ≡ length entries
beside-long [] [] h = refl
beside-long [] (row ∷ rows) h = absurd h
beside-long (e ∷ entries) [] h = absurd h
beside-long (e ∷ entries) (row ∷ rows) h = let n = beside-long entries rows h.1 in omega (arith, n)

view-step : (e : LspId × Entry) (row : LspId × FlagRow) (entries : List (LspId × Entry)) (rows : List (LspId × FlagRow)) → view_in (cells_of entries rows) ≡ view_stored entries
    → (t : Bool) → store.is_live e.1 ≡ t → view_in (cells_of (e ∷ entries) (row ∷ rows)) ≡ view_stored (e ∷ entries)
view-step e row entries rows rest true is =
    let live : is_live (rank e.1.key) ≡ true = live-is e.1.key ∙ is in
    rw (live, is) (ap (λ (l : List Held). stored e ∷ l) rest)
view-step e row entries rows rest false is =
    let live : is_live (rank e.1.key) ≡ false = live-is e.1.key ∙ is in
    rw (live, is) rest

view-cells : (entries : List (LspId × Entry)) (rows : List (LspId × FlagRow)) → length rows ≡ length entries → view_in (cells_of entries rows) ≡ view_stored entries
view-cells [] rows long = refl
view-cells (e ∷ entries) [] long = absurd (omega (arith, long))
view-cells (e ∷ entries) (row ∷ rows) long = view-step e row entries rows (view-cells entries rows (omega (arith, long))) (store.is_live e.1) refl

pub book-told : (r : Router) (b : BookState) (lent : Database) (rows : List (LspId × FlagRow)) → r.config.runs.one ≡ true → sync.book_of b ≡ book_of r level.One → lent ≡ b.store → rows ≡ b.rows → AreBeside b.store.entries rows → AllByRecursion (λ (p : LspId × Entry). IsId p.0) lent.entries
    → (outlook_of r).told.one ≡ told_in lent.entries
book-told r b lent rows runs e f g beside ids =
    let long : length b.rows ≡ length b.store.entries = ap length (sym g) ∙ beside-long b.store.entries rows beside in
    told-is r runs ∙ (ap (λ (x : Book). told_by x.cells) (sym e)
    ∙ (told-cells b.store.entries b.rows long (subst (λ (d : Database). AllByRecursion (λ (p : LspId × Entry). IsId p.0) d.entries) f ids) ∙ ap (λ (d : Database). told_in d.entries) (sym f)))

pub book-view : (r : Router) (b : BookState) (lent : Database) (rows : List (LspId × FlagRow)) → sync.book_of b ≡ book_of r level.One → lent ≡ b.store → rows ≡ b.rows → AreBeside b.store.entries rows
    → view_in (book_of r level.One).cells ≡ view_stored lent.entries
book-view r b lent rows e f g beside =
    let long : length b.rows ≡ length b.store.entries = ap length (sym g) ∙ beside-long b.store.entries rows beside in
    ap (λ (x : Book). view_in x.cells) (sym e) ∙ (view-cells b.store.entries b.rows long ∙ ap (λ (d : Database). view_stored d.entries) (sym f))
