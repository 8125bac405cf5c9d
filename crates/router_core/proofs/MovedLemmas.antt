-- What a node tells once an LSP of it met a row, and that nothing else changes of what routes look at.
use Rattle.std.specs.Prelude.{IfSome}
use Rattle.std.proofs.Common.{◌≡◌, ◌∙◌, ℕ, ◌==◌, ◌&&◌, nat_lt, Bool, true, false, List, [], ◌∷◌, length, MatchOption, Option, Some, None, refl, sym, ap, subst, arith, if◌then◌else◌}
use Rattle.std.specs.Prelude.{◌||◌}
use Rattle.std.specs.Option.{option_map}
use Rattle.std.specs.List.{AllByRecursion}
use Rattle.std.proofs.lemmas.Bool.Decides.{nat_tests}
use Rattle.isis_base.specs.declared.identifiers.NodeId.{NodeId}
use Rattle.isis_base.specs.declared.identifiers.LspId.{LspId}
use Rattle.isis_base.specs.Identifiers.{IsId, lsp_number}
use Rattle.isis_base.specs.Keys.{rank}
use Rattle.model_router.specs.Ranks.{is_live, is_purge, number_of as rank_number, purge_rank}
use Rattle.isis_base.specs.declared.level.Level.{Level}
use Rattle.isis_base.specs.declared.level.Level.TheVariants as level
use Rattle.model_router.specs.declared.whose.Whose.{Whose}
use Rattle.model_router.specs.declared.lsp_case.LspCase.{LspCase}
use Rattle.model_router.specs.declared.lsp_case.LspCase.TheVariants as lsp
use Rattle.model_router.specs.Both.{Both, at}
use Rattle.model_router.specs.Sets.{without}
use Rattle.model_router.specs.Places.{nth}
use Rattle.model_router.specs.Cells.{Cell, Heard, flagged, kept, purge_of, purged}
use Rattle.model_router.specs.Books.{Book, cell_at, set_cell}
use Rattle.model_router.specs.LspTable.{differs, hear_lsp, is_issued, is_newer, is_unissued, lsp_case, lsp_row, met, ssn_stored}
use Rattle.model_router.specs.Takes.{Scene, whose_of, lsp_taken, take_lsp}
use Rattle.model_router.specs.Routers.{Circuit, LevelState, Router, book_of, level_of, with_level}
use Rattle.model_router.specs.Givens.{Given}
use Rattle.model_router.specs.Receiving.{scene_of, lsp_drop, taken}
use Rattle.model_router.specs.Events.{Envelope, LspHeard, Take, Outcome, settled}
use Rattle.model_router.specs.Steps.{step}
use Rattle.model_router.specs.Maps as model
use Rattle.model_router.specs.Numbers.{system_id}
use Rattle.lsp_store.specs.declared.entry.Entry.{Entry}
use Rattle.lsp_store.specs.Databases as store
use Rattle.lsp_store.specs.Databases.{Database}
use Rattle.lsp_store.specs.Maps.{RisesFrom, pair_number, put}
use Rattle.flag_sync.specs.declared.flag_row.FlagRow.{FlagRow}
use Rattle.flag_sync.specs.FlagRows.{cell_of}
use Rattle.flag_sync.specs.declared.heard.LspHeard as heard
use Rattle.flag_sync.specs.Heard.{heard_of, answer_of}
use Rattle.flag_sync.specs.BookStates as sync
use Rattle.flag_sync.specs.BookStates.{BookState, cells_of}
use Rattle.router_sending.proofs.DraftLemmas.{id-again}
use Rattle.lsp_view.specs.Views.{own_node}
use Rattle.spf_tree.specs.Nodes.{node_number}
use Rattle.router_routes.specs.Told.{told, told_in, told_by}
use Rattle.router_routes.specs.Following.{FollowingOf, IsFollowing}
use Rattle.router_routes.specs.declared.coming.Coming.{Coming}
use Rattle.router_routes.specs.Coming.{FitsIn, IsComing, IsPut as IsNextPut}
use Rattle.router_routes.specs.Outlooks.{Outlook, outlook_of, prefixes_by, where_run}
use Rattle.router_routes.specs.Moved.{told_put, beside, IsPutAt}
use Rattle.router_routes.proofs.PutLemmas.{told-put}
use Rattle.router_core.proofs.RouteLemmas.{live-is, told-cells, SameConfig, config-same, take-config}
use Rattle.router_core.specs.Givens.{given}
use Rattle.router_core.specs.Plans.{IsTeller, is_moving}
use Rattle.router_core.specs.Puts.{IsWith, Tells}

abbrev pub Entries : Type 0
Entries = List (LspId × Entry)

abbrev pub is_at : NodeId → LspId × Entry → Bool
is_at node pair = node_number pair.0.node == node_number node

-- ---- what is told of a cell and of an entry

one-told : (id : LspId) (cell : Cell) (e : Entry) (cells : List (ℕ × Cell)) (entries : Entries) → IsId id → Tells cell e → told_by cells ≡ told_in entries → told_by ((lsp_number id, cell) ∷ cells) ≡ told_in ((id, e) ∷ entries)
one-told id cell e cells entries is tells rest = by-test (store.is_live e) refl
  where
    by-test : (t : Bool) → store.is_live e ≡ t → told_by ((lsp_number id, cell) ∷ cells) ≡ told_in ((id, e) ∷ entries)
    by-test true h =
        let live : is_live cell.rank ≡ true = tells.live ∙ h in
        let says = tells.says h in
        let again = id-again id is in
        rw (live, h) (λ i. (again i, says i) ∷ rest i)
    by-test false h =
        let live : is_live cell.rank ≡ false = tells.live ∙ h in
        rw (live, h) rest

pub own-tells : (e : Entry) (row : FlagRow) → Tells (cell_of e row) e
own-tells e row = record { live = live-is e.key; says = λ _. refl }

module _ (id : LspId) (cell : Cell) (e : Entry) (is : IsId id) (tells : Tells cell e) (x : LspId × Entry) (xs : Entries) (rs : List (LspId × FlagRow)) (row : LspId × FlagRow) (long : length rs ≡ length xs) (own : IsId x.0) (ids : AllByRecursion (λ (p : LspId × Entry). IsId p.0) xs) (rest : told_by (model.put (cells_of xs rs) (lsp_number id) cell) ≡ told_in (put xs id e)) where
  put-told-step : (a b : Bool) → (pair_number x == lsp_number id) ≡ a → nat_lt (lsp_number id) (pair_number x) ≡ b → told_by (model.put (cells_of (x ∷ xs) (row ∷ rs)) (lsp_number id) cell) ≡ told_in (put (x ∷ xs) id e)
  unfolding model.put
  put-told-step true b p q = rw p (one-told id cell e (cells_of xs rs) xs is tells (told-cells xs rs long ids))
  put-told-step false true p q = rw (p, q) (one-told id cell e (cells_of (x ∷ xs) (row ∷ rs)) (x ∷ xs) is tells (told-cells (x ∷ xs) (row ∷ rs) (omega (arith, long)) (own, ids)))
  put-told-step false false p q = rw (p, q) (one-told x.0 (cell_of x.1 row.1) x.1 (model.put (cells_of xs rs) (lsp_number id) cell) (put xs id e) own (own-tells x.1 row.1) rest)

pub put-told : (id : LspId) (cell : Cell) (e : Entry) (entries : Entries) (rows : List (LspId × FlagRow)) → IsId id → Tells cell e → length rows ≡ length entries → AllByRecursion (λ (p : LspId × Entry). IsId p.0) entries → told_by (model.put (cells_of entries rows) (lsp_number id) cell) ≡ told_in (put entries id e)
unfolding model.put
put-told id cell e [] rows is tells long ids = one-told id cell e [] [] is tells refl
put-told id cell e (x ∷ xs) [] is tells long ids = absurd (omega (arith, long))
put-told id cell e (x ∷ xs) (r ∷ rs) is tells long ids =
    let short : length rs ≡ length xs = omega (arith, long) in
    put-told-step id cell e is tells x xs rs r short ids.0 ids.1 (put-told id cell e xs rs is tells short ids.1) (pair_number x == lsp_number id) (nat_lt (lsp_number id) (pair_number x)) refl refl

-- ---- through a step

-- the row's cell is put where it was
put-heard : (book : Book) (place : ℕ) (w : Whose) (h : Heard) (cell : Cell) → lsp_row (met book w h) book.opened book.p2p place (cell_at book h.id) h ≡ Some cell → hear_lsp book place w h ≡ set_cell book h.id (Some cell)
unfolding hear_lsp
put-heard book place w h cell e = ap (λ (o : Option Cell). set_cell book h.id o) e

taken-heard : (scene : Scene) (state : LevelState) (place : ℕ) (w : Whose) (h : Heard) (row : LspCase) → (row ≡ lsp.Outbid → ⊥) → (lsp_taken scene state place w h row).book ≡ hear_lsp state.book place w h
taken-heard scene state place w h lsp.Outbid apart = absurd (apart refl)
taken-heard scene state place w h lsp.PurgedOwn apart = refl
taken-heard scene state place w h lsp.AckPurge apart = refl
taken-heard scene state place w h lsp.Confused apart = refl
taken-heard scene state place w h lsp.Stored apart = refl
taken-heard scene state place w h lsp.Same apart = refl
taken-heard scene state place w h lsp.Older apart = refl

put-book : (scene : Scene) (state : LevelState) (place : ℕ) (w : Whose) (h : Heard) (cell : Cell) → (met state.book w h ≡ lsp.Outbid → ⊥) → lsp_row (met state.book w h) state.book.opened state.book.p2p place (cell_at state.book h.id) h ≡ Some cell → (take_lsp scene state place w h).book ≡ set_cell state.book h.id (Some cell)
unfolding take_lsp
put-book scene state place w h cell apart e = taken-heard scene state place w h (met state.book w h) apart ∙ put-heard state.book place w h cell e

pub set-cells : (book : Book) (id : ℕ) (cell : Cell) → (set_cell book id (Some cell)).cells ≡ model.put book.cells id cell
unfolding set_cell
set-cells book id cell = refl

pub record IsPut (r t : Router) (l : Level) (id : ℕ) (cell : Cell) : Type 0 where
  pub cells : (book_of t l).cells ≡ model.put (book_of r l).cells id cell
  pub other : book_of t (beside l) ≡ book_of r (beside l)

pub put-level : (r : Router) (l : Level) (id : ℕ) (cell : Cell) (s : LevelState) → s.book ≡ set_cell (book_of r l) id (Some cell) → IsPut r (with_level r l s) l id cell
put-level r level.One id cell s e = record { cells = ap (λ (b : Book). b.cells) e ∙ set-cells (book_of r level.One) id cell; other = refl }
put-level r level.Two id cell s e = record { cells = ap (λ (b : Book). b.cells) e ∙ set-cells (book_of r level.Two) id cell; other = refl }

pub settled-put : (r : Router) (o : Outcome) (l : Level) (id : ℕ) (cell : Cell) → IsPut r o.router l id cell → IsPut r (settled o).router l id cell
settled-put r o level.One id cell s = record { cells = s.cells; other = s.other }
settled-put r o level.Two id cell s = record { cells = s.cells; other = s.other }

pub step-put : (given : Given) (r : Router) (place : ℕ) (l : Level) (from : Envelope) (h : Heard) (c : Circuit) (cell : Cell) → nth r.circuits place ≡ Some c → lsp_drop r place c l from h ≡ None → (met (book_of r l) (whose_of r.config.system (level_of r l) h.id) h ≡ lsp.Outbid → ⊥)
    → lsp_row (met (book_of r l) (whose_of r.config.system (level_of r l) h.id) h) (book_of r l).opened (book_of r l).p2p place (cell_at (book_of r l) h.id) h ≡ Some cell → IsPut r (step given r (Take place (LspHeard l from h))).router l h.id cell
unfolding step
step-put given r place l from h c cell there kept apart row =
    let state = level_of r l in
    let w = whose_of r.config.system state h.id in
    let book = put-book (scene_of given r l) state place w h cell apart row in
    let after = put-level r l h.id cell (take_lsp (scene_of given r l) state place w h) book in
    rw (there, kept) (settled-put r (taken given r place c (LspHeard l from h)) l h.id cell after)

-- ---- what routes look at

put-at : (r t : Router) → SameConfig r t → (l : Level) → at r.config.runs l ≡ true → (id : LspId) (e : Entry) → told_by (book_of t (beside l)).cells ≡ told_by (book_of r (beside l)).cells → told_by (book_of t l).cells ≡ told_put (told_by (book_of r l).cells) id e
    → IsPutAt (outlook_of r) (outlook_of t) l id e
unfolding outlook_of
put-at r t same level.One runs id e other here =
    let still : t.config.runs.one ≡ true = ap (λ (b : Both Bool). b.one) same.runs ∙ runs in
    record {
      root = ap (λ (n : ℕ). own_node (system_id n)) same.system;
      areas = same.areas;
      runs = same.runs;
      prefixes = ap prefixes_by same.prefixes;
      run = runs;
      other = ap (λ (b : Both Bool). where_run b.two (told_by (book_of t level.Two).cells)) same.runs ∙ ap (where_run r.config.runs.two) other;
      here = rw (still, runs) here;
    }
put-at r t same level.Two runs id e other here =
    let still : t.config.runs.two ≡ true = ap (λ (b : Both Bool). b.two) same.runs ∙ runs in
    record {
      root = ap (λ (n : ℕ). own_node (system_id n)) same.system;
      areas = same.areas;
      runs = same.runs;
      prefixes = ap prefixes_by same.prefixes;
      run = runs;
      other = ap (λ (b : Both Bool). where_run b.one (told_by (book_of t level.One).cells)) same.runs ∙ ap (where_run r.config.runs.one) other;
      here = rw (still, runs) here;
    }

-- an entry takes the place of what is held of an LSP ID
module _ (r t : Router) (l : Level) (runs : at r.config.runs l ≡ true) (id : LspId) (e : Entry) (w : IsWith r t l id e) (v : BookState) (of_book : sync.book_of v ≡ book_of r l) (long : length v.rows ≡ length v.store.entries)
    (is : IsId id) (ids : AllByRecursion (λ (p : LspId × Entry). IsId p.0) v.store.entries) (rises : RisesFrom 0 v.store.entries) where
  pub put-tells : IsPutAt (outlook_of r) (outlook_of t) l id e
  put-tells =
      let entries = v.store.entries in
      let b = book_of r l in
      let cells : b.cells ≡ cells_of entries v.rows = ap (λ (x : Book). x.cells) (sym of_book) in
      let later : told_by (book_of t l).cells ≡ told_in (put entries id e) =
      ap told_by w.cells ∙ ap (λ (m : List (ℕ × Cell)). told_by (model.put m (lsp_number id) w.cell)) cells ∙ put-told id w.cell e entries v.rows is w.tells long ids in
      let before : told_by b.cells ≡ told_in entries = ap told_by cells ∙ told-cells entries v.rows long ids in
      put-at r t (config-same r t w.config) l runs id e
      (ap (λ (x : Book). told_by x.cells) w.other)
      (later ∙ told-put id e 0 entries rises ∙ ap (λ (es : Entries). told_put es id e) (sym before))

-- ---- the cell of a row, and what tells what it does

pub live-whole : (rank : ℕ) → is_live rank ≡ true → is_purge rank ≡ false
live-whole rank live = grind (arith, nat_tests, live)

-- what an LSP that is stored tells is what an entry of it tells
stored-tells : (h : Heard) (e : Entry) (srm ssn : ℕ) → rank e.key ≡ h.rank → e.flags ≡ h.flags → e.octets ≡ h.octets → Tells (flagged (kept h) srm ssn) e
stored-tells h e srm ssn key flags octets = record {
  live = live;
  says = λ is. let whole : is_purge h.rank ≡ false = live-whole h.rank (live ∙ is) in rw whole (λ i. told (sym flags i) (sym octets i));
}
  where
    live : is_live h.rank ≡ store.is_live e
    live = ap is_live (sym key) ∙ live-is e.key

pub not-live : (n : ℕ) → is_live (purge_rank n) ≡ false
not-live n = grind (arith, nat_tests)

-- a purge tells nothing, nor does an empty entry
purge-tells : (number flags : ℕ) (octets : List ℕ) (srm ssn : ℕ) (e : Entry) → e.key ≡ None → Tells (flagged (purge_of number flags octets) srm ssn) e
purge-tells number flags octets srm ssn e key = record {
  live = not-live number ∙ sym empty;
  says = λ is. absurd (clash (sym empty ∙ is));
}
  where
    empty : store.is_live e ≡ false
    empty = ap store.is_live_key key

    clash : false ≡ true → ⊥
    clash e = cc

fourth-of : (a b c d e f : Bool) → (if a then lsp.Outbid else (if b then lsp.PurgedOwn else (if c then lsp.AckPurge else (if d then lsp.Confused else (if e then lsp.Stored else (if f then lsp.Same else lsp.Older)))))) ≡ lsp.Confused → d ≡ true
fourth-of true b c d e f h = cc
fourth-of false true c d e f h = cc
fourth-of false false true d e f h = cc
fourth-of false false false true e f h = refl
fourth-of false false false false true f h = cc
fourth-of false false false false false true h = cc
fourth-of false false false false false false h = cc

none-differs : (rank checksum : ℕ) → differs None rank checksum ≡ true → ⊥
none-differs rank checksum h = grind (arith, nat_tests, h)

-- what is confused is held
confused-held : (w : Whose) (held : Option Cell) (h : Heard) → lsp_case w held h ≡ lsp.Confused → (c : Cell) × (held ≡ Some c)
unfolding lsp_case
confused-held w None h e = absurd (none-differs h.rank h.checksum (fourth-of (is_issued w && (is_newer None h.rank || differs None h.rank h.checksum)) (is_unissued w && is_newer None h.rank && is_live h.rank) (is_purge h.rank && 0 == 0) (differs None h.rank h.checksum) (is_newer None h.rank) (0 == h.rank) e))
confused-held w (Some c) h e = (c, refl)

-- the cell that a row puts
pub record Puts (row : LspCase) (opened p2p place : ℕ) (held : Option Cell) (h : Heard) (e : Entry) : Type 0 where
  pub cell : Cell
  pub is : lsp_row row opened p2p place held h ≡ Some cell
  pub tells : Tells cell e
  pub apart : row ≡ lsp.Outbid → ⊥

row-puts : (row : LspCase) (l : heard.LspHeard) (w : Whose) (opened p2p place : ℕ) (held : Option Cell) (e : Entry) → is_moving (answer_of row l) ≡ true → IsTeller (answer_of row l) l e → lsp_case w held (heard_of l) ≡ row → Puts row opened p2p place held (heard_of l) e
row-puts lsp.Outbid l w opened p2p place held e moving tells is = absurd (cc)
row-puts lsp.PurgedOwn l w opened p2p place held e moving tells is = record {
  cell = flagged (purge_of (rank_number (heard_of l).rank) l.flags l.octets.now) opened 0;
  is = refl;
  tells = purge-tells (rank_number (heard_of l).rank) l.flags l.octets.now opened 0 e tells;
  apart = λ f. absurd (cc);
}
row-puts lsp.AckPurge l w opened p2p place held e moving tells is = absurd (cc)
row-puts lsp.Confused l w opened p2p place held e moving tells is =
    let c = confused-held w held (heard_of l) is in
    record {
      cell = flagged (purged c.0) opened 0;
      is = ap (option_map (λ (x : Cell). flagged (purged x) opened 0)) c.1;
      tells = purge-tells (rank_number c.0.rank) c.0.flags c.0.octets opened 0 e tells;
      apart = λ f. absurd (cc);
    }
row-puts lsp.Stored l w opened p2p place held e moving tells is = record {
  cell = flagged (kept (heard_of l)) (without opened place) (ssn_stored p2p place held);
  is = refl;
  tells = stored-tells (heard_of l) e (without opened place) (ssn_stored p2p place held) tells.0 tells.1 tells.2;
  apart = λ f. absurd (cc);
}
row-puts lsp.Same l w opened p2p place held e moving tells is = absurd (cc)
row-puts lsp.Older l w opened p2p place held e moving tells is = absurd (cc)

-- ---- an LSP that met a row

module _ (r : Router) (place : ℕ) (l : Level) (from : Envelope) (lsp_in : heard.LspHeard) (c : Circuit) (e : Entry)
    (there : nth r.circuits place ≡ Some c) (kept : lsp_drop r place c l from (heard_of lsp_in) ≡ None)
    (moving : is_moving (answer_of (met (book_of r l) (whose_of r.config.system (level_of r l) (lsp_number lsp_in.entry.id)) (heard_of lsp_in)) lsp_in) ≡ true)
    (teller : IsTeller (answer_of (met (book_of r l) (whose_of r.config.system (level_of r l) (lsp_number lsp_in.entry.id)) (heard_of lsp_in)) lsp_in) lsp_in e) where
  pub heard-with : IsWith r (step given r (Take place (LspHeard l from (heard_of lsp_in)))).router l lsp_in.entry.id e
  heard-with =
      let h = heard_of lsp_in in
      let b = book_of r l in
      let w = whose_of r.config.system (level_of r l) h.id in
      let puts = row-puts (met b w h) lsp_in w b.opened b.p2p place (cell_at b h.id) e moving teller refl in
      let s = step-put given r place l from h c puts.cell there kept puts.apart puts.is in
      record { cell = puts.cell; config = take-config given r place (LspHeard l from h); cells = s.cells; other = s.other; tells = puts.tells }

-- ---- what follows then

pub follows-next : (o : Outlook) (next : Option Coming) (old new : FollowingOf) → MatchOption next (IsFollowing o old) (λ c. IsComing o old c) → MatchOption next (new ≡ old) (λ c. IsNextPut old c new) → IsFollowing o new
follows-next o None old new follows is = subst (IsFollowing o) (sym is) follows
follows-next o (Some c) old new comes is = comes.follows new is

-- there is room for what comes
pub next-fits : (o : Outlook) (next : Option Coming) (old : FollowingOf) → MatchOption next (IsFollowing o old) (λ c. IsComing o old c) → IfSome next (λ c. FitsIn old c)
next-fits o None old follows = tt
next-fits o (Some c) old comes = comes.fits
