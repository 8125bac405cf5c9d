-- What a node tells once an own LSP of it is outbid.
use Rattle.std.proofs.Common.{◌≡◌, ◌∙◌, ◌+◌, ◌*◌, ◌/◌, ◌<◌, ◌≤◌, ◌==◌, ℕ, nat_lt, Bool, true, false, Option, Some, None, refl, sym, ap, subst, inl, inr, if◌then◌else◌, arith}
use Rattle.std.specs.Prelude.{IfSome}
use Rattle.std.proofs.lemmas.Bool.{eq-eqb, ne_eqb}
use Rattle.std.proofs.lemmas.Bool.Decides.{nat_tests}
use Rattle.isis_base.specs.declared.entry.LspEntry.{LspEntry}
use Rattle.isis_base.specs.declared.identifiers.LspId.{LspId}
use Rattle.isis_base.specs.declared.level.Level.{Level}
use Rattle.isis_base.specs.Identifiers.{lsp_number}
use Rattle.isis_base.specs.Keys.{entry_rank}
use Rattle.lsp_store.specs.declared.entry.Entry.{Entry}
use Rattle.lsp_store.specs.Databases as store
use Rattle.model_router.specs.declared.whose.Whose.{Whose}
use Rattle.model_router.specs.declared.lsp_case.LspCase.{LspCase}
use Rattle.model_router.specs.declared.lsp_case.LspCase.TheVariants as lsp
use Rattle.model_router.specs.Places.{nth}
use Rattle.model_router.specs.Ranks.{is_live, number_of}
use Rattle.model_router.specs.Cells.{Cell, Heard, flagged, purge_of, purged}
use Rattle.model_router.specs.Books.{cell_at, set_cell}
use Rattle.model_router.specs.LspTable.{met}
use Rattle.model_router.specs.OwnLsps.{install, issue_cell, last_number, outbid, retire}
use Rattle.model_router.specs.Takes.{Scene, answer_of, last_purge, lsp_taken, take_lsp, whose_of}
use Rattle.model_router.specs.Routers.{Circuit, Contents, LevelState, Router, book_of, level_of}
use Rattle.model_router.specs.Receiving.{scene_of, lsp_drop, taken}
use Rattle.model_router.specs.Events.{Envelope, LspHeard, Take}
use Rattle.model_router.specs.Steps.{step}
use Rattle.flag_sync.specs.FlagRows.{no_flags}
use Rattle.flag_sync.specs.Heard.{answer_of as row_answer, heard_of}
use Rattle.flag_sync.specs.declared.heard.LspHeard as heard
use Rattle.flag_sync.specs.declared.heard.LspAnswer.TheVariants as answer
use Rattle.router_routes.specs.Told.{told}
use Rattle.router_core.specs.Givens.{given}
use Rattle.router_core.specs.Plans.{IsAbove}
use Rattle.router_core.specs.Puts.{IsWith, Tells}
use Rattle.router_core.proofs.MovedLemmas.{IsPut, not-live, own-tells, put-level, settled-put}
use Rattle.router_core.proofs.RouteLemmas.{take-config}

-- ---- the cell that is put

-- what an own LSP is once it is outbid
abbrev pub above_cell : Scene → LevelState → Heard → Cell
above_cell scene state h =
    if number_of h.rank == last_number
    then flagged (last_purge (cell_at state.book h.id) h) state.book.opened 0
    else flagged (issue_cell scene.given scene.router scene.level h.id (number_of h.rank + 1) (answer_of scene h.id)) state.book.opened 0

retire-book : (s : LevelState) (id : ℕ) (c : Cell) → (retire s id c).book ≡ set_cell s.book id (Some (flagged c s.book.opened 0))
unfolding retire
retire-book s id c = refl

install-book : (s : LevelState) (id : ℕ) (contents : Contents) (c : Cell) → (install s id contents c).book ≡ set_cell s.book id (Some (flagged c s.book.opened 0))
unfolding install
install-book s id contents c = refl

either-book : (t : Bool) (s a b : LevelState) (id : ℕ) (x y : Cell) → a.book ≡ set_cell s.book id (Some x) → b.book ≡ set_cell s.book id (Some y) → (if t then a else b).book ≡ set_cell s.book id (Some (if t then x else y))
either-book true s a b id x y f g = f
either-book false s a b id x y f g = g

outbid-book : (scene : Scene) (state : LevelState) (place : ℕ) (w : Whose) (h : Heard) → met state.book w h ≡ lsp.Outbid → (take_lsp scene state place w h).book ≡ set_cell state.book h.id (Some (above_cell scene state h))
unfolding take_lsp outbid
outbid-book scene state place w h e =
    let purge = last_purge (cell_at state.book h.id) h in
    let contents = answer_of scene h.id in
    let cell = issue_cell scene.given scene.router scene.level h.id (number_of h.rank + 1) contents in
    ap (λ (row : LspCase). (lsp_taken scene state place w h row).book) e
    ∙ either-book (number_of h.rank == last_number) state (retire state h.id purge) (install state h.id contents cell) h.id (flagged purge state.book.opened 0) (flagged cell state.book.opened 0) (retire-book state h.id purge) (install-book state h.id contents cell)

pub outbid-put : (r : Router) (place : ℕ) (l : Level) (from : Envelope) (h : Heard) (c : Circuit) → nth r.circuits place ≡ Some c → lsp_drop r place c l from h ≡ None → met (book_of r l) (whose_of r.config.system (level_of r l) h.id) h ≡ lsp.Outbid
    → IsPut r (step given r (Take place (LspHeard l from h))).router l h.id (above_cell (scene_of given r l) (level_of r l) h)
unfolding step
outbid-put r place l from h c there kept bid =
    let state = level_of r l in
    let w = whose_of r.config.system state h.id in
    let book = outbid-book (scene_of given r l) state place w h bid in
    let after = put-level r l h.id (above_cell (scene_of given r l) state h) (take_lsp (scene_of given r l) state place w h) book in
    rw (there, kept) (settled-put r (taken given r place c (LspHeard l from h)) l h.id (above_cell (scene_of given r l) state h) after)

-- ---- what it tells

purge-after : (t : Bool) (a b : Cell) → is_live a.rank ≡ false → is_live b.rank ≡ false → is_live (if t then a else b).rank ≡ false
purge-after true a b f g = f
purge-after false a b f g = g

last-dead : (held : Option Cell) (h : Heard) → is_live (last_purge held h).rank ≡ false
last-dead None h = not-live (number_of h.rank)
last-dead (Some cell) h = purge-after (nat_lt cell.rank h.rank) (purge_of (number_of h.rank) h.flags h.octets) (purged cell) (not-live (number_of h.rank)) (not-live (number_of cell.rank))

clash : false ≡ true → ⊥
clash e = cc

pub above-tells : (r : Router) (l : Level) (id : LspId) (h : Heard) (above : ℕ) (e : Entry) → h.id ≡ lsp_number id → number_of h.rank ≡ above → IsAbove r l id above e → Tells (above_cell (scene_of given r l) (level_of r l) h) e
above-tells r l id h above e named same (inl is) =
    let state = level_of r l in
    let empty : store.is_live e ≡ false = ap store.is_live_key is.1 in
    let at-last : (number_of h.rank == last_number) ≡ true = eq-eqb (number_of h.rank) last_number (same ∙ is.0) in
    let cell = flagged (last_purge (cell_at state.book h.id) h) state.book.opened 0 in
    let tells : Tells cell e = record { live = last-dead (cell_at state.book h.id) h ∙ sym empty; says = λ live. absurd (clash (sym empty ∙ live)) } in
    rw at-last tells
above-tells r l id h above e named same (inr is) =
    let state = level_of r l in
    let scene = scene_of given r l in
    let below : (number_of h.rank == last_number) ≡ false = ne_eqb (number_of h.rank) last_number (λ at. is.0 (sym same ∙ at)) in
    let cell = issue_cell given r l (lsp_number id) (above + 1) (answer_of scene (lsp_number id)) in
    let own = own-tells e no_flags in
    let issued = is.1 no_flags in
    let tells : Tells (flagged cell state.book.opened 0) e = record { live = ap (λ (x : Cell). is_live x.rank) (sym issued) ∙ own.live; says = λ live. ap (λ (x : Cell). told x.flags x.octets) (sym issued) ∙ own.says live } in
    let its : Tells (flagged (issue_cell given r l h.id (number_of h.rank + 1) (answer_of scene h.id)) state.book.opened 0) e =
    subst (λ (n : ℕ). Tells (flagged (issue_cell given r l n (number_of h.rank + 1) (answer_of scene n)) state.book.opened 0) e) (sym named)
    (subst (λ (n : ℕ). Tells (flagged (issue_cell given r l (lsp_number id) (n + 1) (answer_of scene (lsp_number id))) state.book.opened 0) e) (sym same) tells) in
    rw below its

-- ---- as the code has it

pub heard-number : (e : LspEntry) → number_of (entry_rank e) ≡ e.number
heard-number e = cases (nat_lt 0 e.number) (nat_lt 0 e.lifetime) refl
  where
    cases : (t u : Bool) → nat_lt 0 e.number ≡ t → (if t then 2 * e.number + (if u then 0 else 1) else 0) / 2 ≡ e.number
    cases true true q = omega arith
    cases true false q = omega arith
    cases false u q = grind (arith, nat_tests, q)

pub not-last : (above : ℕ) → above + 1 < 4294967296 → above ≡ last_number → ⊥
not-last above low e = let last : above ≡ 4294967295 = e in omega (arith, low, last)

pub is-last : (above : ℕ) → 4294967296 ≤ above + 1 → above < 4294967296 → above ≡ last_number
is-last above most fits = let last : above ≡ 4294967295 = omega (arith, most, fits) in last

pub bid-of : (m : LspCase) (l : heard.LspHeard) (above : ℕ) → answer.Outbid above ≡ row_answer m l → (m ≡ lsp.Outbid) × (above ≡ l.entry.number)
bid-of lsp.Outbid l above e = (refl, (cc))
bid-of lsp.PurgedOwn l above e = absurd (cc)
bid-of lsp.AckPurge l above e = absurd (cc)
bid-of lsp.Confused l above e = absurd (cc)
bid-of lsp.Stored l above e = absurd (cc)
bid-of lsp.Same l above e = absurd (cc)
bid-of lsp.Older l above e = absurd (cc)

pub turned : {X Y : Type 0} (o : Option X) (f : X → Option Y) → IfSome o (λ x. f x ≡ None) → IfSome o (λ x. None ≡ f x)
turned None f h = tt
turned (Some x) f h = sym h

pub outbid-with : (r : Router) (place : ℕ) (l : Level) (from : Envelope) (lsp_in : heard.LspHeard) (c : Circuit) (above : ℕ) (e : Entry) → nth r.circuits place ≡ Some c → lsp_drop r place c l from (heard_of lsp_in) ≡ None
    → answer.Outbid above ≡ row_answer (met (book_of r l) (whose_of r.config.system (level_of r l) (lsp_number lsp_in.entry.id)) (heard_of lsp_in)) lsp_in → IsAbove r l lsp_in.entry.id above e
    → IsWith r (step given r (Take place (LspHeard l from (heard_of lsp_in)))).router l lsp_in.entry.id e
outbid-with r place l from lsp_in c above e there kept row is =
    let h = heard_of lsp_in in
    let bid = bid-of (met (book_of r l) (whose_of r.config.system (level_of r l) h.id) h) lsp_in above row in
    let s = outbid-put r place l from h c there kept bid.0 in
    record {
      cell = above_cell (scene_of given r l) (level_of r l) h;
      config = take-config given r place (LspHeard l from h);
      cells = s.cells;
      other = s.other;
      tells = above-tells r l lsp_in.entry.id h above e refl (heard-number lsp_in.entry ∙ sym bid.1) is;
    }
