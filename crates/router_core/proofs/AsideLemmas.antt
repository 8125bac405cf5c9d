-- What is aside of some nodes while a level takes entries of a sequence number PDU.
use Rattle.std.proofs.Common.{◌≡◌, ◌∙◌, ℕ, ◌+◌, ◌*◌, ◌/◌, ◌%◌, ◌<◌, ◌==◌, ◌&&◌, nat_lt, Bool, true, false, not, List, [], ◌∷◌, length, Option, Some, None, is_some, refl, sym, ap, subst, arith, if◌then◌else◌, inl, inr, eqb, option_map}
use Rattle.std.specs.List.{AllByRecursion}
use Rattle.std.proofs.lemmas.Bool.{and_parts, eq-eqb, eqb-true}
use Rattle.isis_base.specs.declared.entry.LspEntry.{LspEntry}
use Rattle.isis_base.specs.declared.identifiers.LspId.{LspId}
use Rattle.isis_base.specs.declared.identifiers.NodeId.{NodeId}
use Rattle.isis_base.specs.declared.level.Level.{Level}
use Rattle.isis_base.specs.Identifiers.{IsId, lsp_number}
use Rattle.isis_base.specs.Keys.{entry_rank, rank}
use Rattle.lsp_store.specs.declared.entry.Entry.{Entry}
use Rattle.lsp_store.specs.Databases as store
use Rattle.lsp_store.specs.Maps as maps
use Rattle.lsp_store.specs.Maps.{pair_number}
use Rattle.flag_sync.specs.declared.flag_row.FlagRow.{FlagRow}
use Rattle.flag_sync.specs.BookStates.{cells_of}
use Rattle.flag_sync.specs.Entries.{with_row}
use Rattle.flag_sync.specs.FlagRows.{cell_of, no_flags}
use Rattle.flag_sync.specs.Heard.{entry_of}
use Rattle.model_router.specs.declared.snp_case.SnpCase.{SnpCase}
use Rattle.model_router.specs.declared.snp_case.SnpCase.TheVariants as snp
use Rattle.model_router.specs.declared.whose.Whose.{Whose}
use Rattle.model_router.specs.declared.whose.Whose.TheVariants as whose
use Rattle.model_router.specs.Books.{cell_at, is_full, rank_of, set_cell}
use Rattle.model_router.specs.Cells.{Cell, flagged, purged, srm_on}
use Rattle.model_router.specs.ContentLaws.{SameKey}
use Rattle.model_router.specs.Deeds.{Content, content_of}
use Rattle.model_router.specs.LspTable.{differs, is_issued}
use Rattle.model_router.specs.Maps.{each, erase, find, put, set_at}
use Rattle.model_router.specs.OwnLsps.{install, issue_cell, last_number, outbid, retire}
use Rattle.model_router.specs.Ranks.{is_live, number_of}
use Rattle.model_router.specs.Receiving.{scene_of}
use Rattle.model_router.specs.Routers.{Contents, Issued, LevelState, Router, book_of, level_of}
use Rattle.model_router.specs.SnpTable.{SnpEntry, hear_entry, hear_range, is_missed, snp_case, snp_row}
use Rattle.model_router.specs.Sorted.{RisesFrom}
use Rattle.model_router.specs.Takes.{Scene, answer_of, entry_taken, held_purge, take_entries, take_entry, take_range, take_snp, whose_of}
use Rattle.model_router.proofs.MapLemmas.{find-each, find-erase, find-put}
use Rattle.ordered.proofs.MapLemmas.{erase-rises, put-rises}
use Rattle.router_sending.proofs.DraftLemmas.{id-again}
use Rattle.spf_tree.specs.Nodes.{node_number}
use Rattle.router_routes.specs.Moved.{is_among}
use Rattle.router_core.specs.Calm.{is_calm_entry}
use Rattle.router_core.specs.Asides.{AreNamed, IsAnswered, IsHeldAside, IsCovered, IsNamed, TellsAnswer, content_in, is_apart, node_of, seen, seen_in}
use Rattle.router_core.specs.Givens.{given}
use Rattle.router_core.specs.Plans.{IsAbove}
use Rattle.router_core.proofs.CalmLemmas.{take-face}
use Rattle.lsp_view.proofs.NodeLemmas.{put-found, split}
use Rattle.router_core.proofs.MovedLemmas.{not-live}
use Rattle.router_core.proofs.OutbidLemmas.{heard-number}
use Rattle.router_core.proofs.RouteLemmas.{live-is}

abbrev pub Entries : Type 0
Entries = List (LspId × Entry)

clash : {A : Type 0} → true ≡ false → A
clash e = absurd (cc)

-- ---- what is seen of what is held

pub seen-dead : (c : Cell) → is_live c.rank ≡ false → seen (Some c) ≡ None
seen-dead c dead = ap (λ (t : Bool). if t then Some (c.rank, content_of c) else None) dead

pub seen-live : (c : Cell) → is_live c.rank ≡ true → seen (Some c) ≡ Some (c.rank, content_of c)
seen-live c live = ap (λ (t : Bool). if t then Some (c.rank, content_of c) else None) live

pub cell-seen : (e : Entry) (row : FlagRow) → seen (Some (cell_of e row)) ≡ seen_in (Some e)
cell-seen e row = ap (λ (t : Bool). if t then Some (rank e.key, content_in e) else None) (live-is e.key)

pub seen-cells : (es : Entries) (rs : List (LspId × FlagRow)) (n : ℕ) → length rs ≡ length es → seen (find (cells_of es rs) n) ≡ seen_in (maps.find es n)
seen-cells [] rs n long = refl
seen-cells (e ∷ es) [] n long = absurd (omega (arith, long))
seen-cells (e ∷ es) (r ∷ rs) n long = by (pair_number e == n) (seen-cells es rs n (omega (arith, long)))
  where
    by : (t : Bool) → seen (find (cells_of es rs) n) ≡ seen_in (maps.find es n) → seen (if t then Some (cell_of e.1 r.1) else find (cells_of es rs) n) ≡ seen_in (if t then Some e.1 else maps.find es n)
    by true rest = cell-seen e.1 r.1
    by false rest = rest

some-value : {A : Type 0} {x y : A} → ◌≡◌ {A = Option A} (Some x) (Some y) → x ≡ y
some-value e = cc

pub seen-same : (old new : Option Cell) → SameKey old new → seen new ≡ seen old
seen-same None None k = refl
seen-same None (Some b) k = seen-dead b (ap is_live k.rank)
seen-same (Some a) None k = sym (seen-dead a (ap is_live (sym k.rank)))
seen-same (Some a) (Some b) k = by (is_live b.rank) refl
  where
    by : (t : Bool) → is_live b.rank ≡ t → seen (Some b) ≡ seen (Some a)
    by true is =
        let same : content_of b ≡ content_of a = some-value (k.content is) in
        seen-live b is ∙ (λ i. Some (k.rank i, same i)) ∙ sym (seen-live a (ap is_live (sym k.rank) ∙ is))
    by false is = seen-dead b is ∙ sym (seen-dead a (ap is_live (sym k.rank) ∙ is))

-- ---- whether an entry is apart of what is seen

abbrev apart : Option (ℕ × Content) → ℕ → ℕ → Bool
apart None r sum = false
apart (Some x) r sum = is_live r && x.0 == r && not (x.1.checksum == sum)

dead-by : (l t u : Bool) → (t ≡ true → l ≡ false) → (l && t && u) ≡ false
dead-by true true u h = clash (h refl)
dead-by true false u h = refl
dead-by false t u h = refl

pub differs-seen : (o : Option Cell) (r sum : ℕ) → differs o r sum ≡ apart (seen o) r sum
differs-seen None r sum = dead-by (is_live r) (0 == r) (not (0 == sum)) (λ e. ap is_live (sym (eqb-true 0 r e)))
differs-seen (Some c) r sum = by (is_live c.rank) refl
  where
    by : (t : Bool) → is_live c.rank ≡ t → differs (Some c) r sum ≡ apart (if t then Some (c.rank, content_of c) else None) r sum
    by true is = refl
    by false is = dead-by (is_live r) (c.rank == r) (not (c.checksum == sum)) (λ e. ap is_live (sym (eqb-true c.rank r e)) ∙ is)

pub apart-in : (o : Option Entry) (e : LspEntry) → is_apart o e ≡ apart (seen_in o) (entry_rank e) e.checksum
apart-in None e = refl
apart-in (Some x) e = by (store.is_live x) refl
  where
    by : (t : Bool) → store.is_live x ≡ t → is_apart (Some x) e ≡ apart (if t then Some (rank x.key, content_in x) else None) (entry_rank e) e.checksum
    by true is = refl
    by false is =
        dead-by (is_live (entry_rank e)) (rank x.key == entry_rank e) (not (x.checksum == e.checksum))
        (λ q. ap is_live (sym (eqb-true (rank x.key) (entry_rank e) q)) ∙ live-is x.key ∙ is)

-- an entry is apart of what a level holds where it is of what shows it
pub apart-same : (o : Option Cell) (x : Option Entry) (e : LspEntry) → seen o ≡ seen_in x → differs o (entry_rank e) e.checksum ≡ is_apart x e
apart-same o x e same = differs-seen o (entry_rank e) e.checksum ∙ ap (λ (s : Option (ℕ × Content)). apart s (entry_rank e) e.checksum) same ∙ sym (apart-in x e)

-- ---- LSP IDs' numbers

base : (n b k : ℕ) → n ≡ b + k → b % 256 ≡ 0 → k < 256 → b ≡ 256 * (n / 256)
base n b k is whole small = omega (arith, is, whole, small)

pub node-is : (id : LspId) → IsId id → node_number id.node ≡ node_of (lsp_number id)
node-is id is = let s = split id is in base (lsp_number id) (node_number id.node) id.number s.number s.whole s.small

pub named : (id : LspId) → IsId id → IsNamed (lsp_number id)
named id is = record {
  again = ap lsp_number (id-again id is);
  node = ap (λ (i : LspId). node_number i.node) (id-again id is) ∙ node-is id is;
}

pub named-cells : (es : Entries) (rs : List (LspId × FlagRow)) → AllByRecursion (λ (p : LspId × Entry). IsId p.0) es → AreNamed (cells_of es rs)
named-cells [] rs ids = tt
named-cells (e ∷ es) [] ids = tt
named-cells (e ∷ es) (r ∷ rs) ids = (named e.0 ids.0, named-cells es rs ids.1)

pub put-named : (m : List (ℕ × Cell)) (k : ℕ) (v : Cell) → AreNamed m → IsNamed k → AreNamed (put m k v)
unfolding put
put-named [] k v ms is = (is, tt)
put-named (p ∷ m) k v ms is = by (p.0 == k) (nat_lt k p.0) (put-named m k v ms.1 is)
  where
    by : (a b : Bool) → AreNamed (put m k v) → AreNamed (if a then (k, v) ∷ m else (if b then (k, v) ∷ p ∷ m else p ∷ put m k v))
    by true b rest = (is, ms.1)
    by false true rest = (is, (ms.0, ms.1))
    by false false rest = (ms.0, rest)

erase-named : (m : List (ℕ × Cell)) (k : ℕ) → AreNamed m → AreNamed (erase m k)
unfolding erase
erase-named [] k ms = tt
erase-named (p ∷ m) k ms = by (p.0 == k) (erase-named m k ms.1)
  where
    by : (a : Bool) → AreNamed (erase m k) → AreNamed (if a then erase m k else p ∷ erase m k)
    by true rest = rest
    by false rest = (ms.0, rest)

set-named : (m : List (ℕ × Cell)) (k : ℕ) (o : Option Cell) → AreNamed m → IsNamed k → AreNamed (set_at m k o)
set-named m k None ms is = erase-named m k ms
set-named m k (Some v) ms is = put-named m k v ms is

set-rises : (m : List (ℕ × Cell)) (k : ℕ) (o : Option Cell) → RisesFrom 0 m → RisesFrom 0 (set_at m k o)
set-rises m k None rises = erase-rises m 0 k rises
set-rises m k (Some v) rises = put-rises m 0 k v (omega arith) rises

each-named : (f : ℕ → Cell → Cell) (m : List (ℕ × Cell)) → AreNamed m → AreNamed (each f m)
unfolding each
each-named f [] ms = tt
each-named f (p ∷ m) ms = (ms.0, each-named f m ms.1)

each-rises : (f : ℕ → Cell → Cell) (least : ℕ) (m : List (ℕ × Cell)) → RisesFrom least m → RisesFrom least (each f m)
unfolding each
each-rises f least [] rises = tt
each-rises f least (p ∷ m) rises = (rises.0, each-rises f (p.0 + 1) m rises.1)

-- ---- an entry changes one cell

pub record Changed (s t : LevelState) (id : ℕ) : Type 0 where
  pub cell : Option Cell
  pub cells : t.book.cells ≡ set_at s.book.cells id cell

heard-changed : (s : LevelState) (place : ℕ) (w : Whose) (h : SnpEntry) → Changed s (record s { book = hear_entry s.book place w h }) h.id
unfolding hear_entry set_cell
heard-changed s place w h = record { cell = snp_row (snp_case w (cell_at s.book h.id) h) (is_full s.book) s.book.opened s.book.p2p place (cell_at s.book h.id); cells = refl }

install-changed : (s : LevelState) (id : ℕ) (contents : Contents) (c : Cell) → Changed s (install s id contents c) id
unfolding install set_cell
install-changed s id contents c = record { cell = Some (flagged c s.book.opened 0); cells = refl }

retire-changed : (s : LevelState) (id : ℕ) (c : Cell) → Changed s (retire s id c) id
unfolding retire set_cell
retire-changed s id c = record { cell = Some (flagged c s.book.opened 0); cells = refl }

either-changed : (t : Bool) (s a b : LevelState) (id : ℕ) → Changed s a id → Changed s b id → Changed s (if t then a else b) id
either-changed true s a b id p q = p
either-changed false s a b id p q = q

row-changed : (scene : Scene) (s : LevelState) (place : ℕ) (w : Whose) (h : SnpEntry) (row : SnpCase) → Changed s (entry_taken scene s place w h row) h.id
unfolding outbid
row-changed scene s place w h snp.Nothing = heard-changed s place w h
row-changed scene s place w h snp.Outbid =
    either-changed (number_of h.rank == last_number) s _ _ h.id (retire-changed s h.id (held_purge (cell_at s.book h.id)))
    (install-changed s h.id (answer_of scene h.id) (issue_cell scene.given scene.router scene.level h.id (number_of h.rank + 1) (answer_of scene h.id)))
row-changed scene s place w h snp.Confused = heard-changed s place w h
row-changed scene s place w h snp.Same = heard-changed s place w h
row-changed scene s place w h snp.Older = heard-changed s place w h
row-changed scene s place w h snp.Newer = heard-changed s place w h
row-changed scene s place w h snp.Asked = heard-changed s place w h
row-changed scene s place w h snp.Unasked = heard-changed s place w h

entry-changed : (scene : Scene) (s : LevelState) (system place : ℕ) (h : SnpEntry) → Changed s (take_entry scene s system place h) h.id
unfolding take_entry
entry-changed scene s system place h = let w = whose_of system s h.id in row-changed scene s place w h (snp_case w (cell_at s.book h.id) h)

-- ---- an entry that isn't apart

calm-row : (a d i b e f g : Bool) → d ≡ false → is_calm_entry (if a then snp.Nothing else (if d && i then snp.Outbid else (if d then snp.Confused else (if b then snp.Same else (if e then snp.Older else (if f then snp.Newer else (if g then snp.Asked else snp.Unasked))))))) ≡ true
calm-row true d i b e f g h = refl
calm-row false true i b e f g h = clash h
calm-row false false i true e f g h = refl
calm-row false false i false true f g h = refl
calm-row false false i false false true g h = refl
calm-row false false i false false false true h = refl
calm-row false false i false false false false h = refl

pub calm-case : (w : Whose) (held : Option Cell) (h : SnpEntry) → differs held h.rank h.checksum ≡ false → is_calm_entry (snp_case w held h) ≡ true
unfolding snp_case
calm-case w held h d =
    calm-row (h.rank == 0 && rank_of held == 0) (differs held h.rank h.checksum) (is_issued w) (rank_of held == h.rank) (nat_lt h.rank (rank_of held)) (nat_lt 0 (rank_of held)) (nat_lt 0 h.lifetime && nat_lt 0 h.checksum) d

row-own : (scene : Scene) (s : LevelState) (place : ℕ) (w : Whose) (h : SnpEntry) (row : SnpCase) → (row ≡ snp.Outbid → ⊥) → (entry_taken scene s place w h row).own ≡ s.own
row-own scene s place w h snp.Nothing other = refl
row-own scene s place w h snp.Outbid other = absurd (other refl)
row-own scene s place w h snp.Confused other = refl
row-own scene s place w h snp.Same other = refl
row-own scene s place w h snp.Older other = refl
row-own scene s place w h snp.Newer other = refl
row-own scene s place w h snp.Asked other = refl
row-own scene s place w h snp.Unasked other = refl

calm-other : (row : SnpCase) → is_calm_entry row ≡ true → row ≡ snp.Outbid → ⊥
calm-other row calm e = clash (sym calm ∙ ap is_calm_entry e)

calm-own : (scene : Scene) (s : LevelState) (system place : ℕ) (h : SnpEntry) → ((w : Whose) → is_calm_entry (snp_case w (cell_at s.book h.id) h) ≡ true) → (take_entry scene s system place h).own ≡ s.own
unfolding take_entry
calm-own scene s system place h calm =
    let w = whose_of system s h.id in
    row-own scene s place w h (snp_case w (cell_at s.book h.id) h) (calm-other (snp_case w (cell_at s.book h.id) h) (calm w))

pub calm-aside : (r : Router) (l : Level) (nodes : List NodeId) (s : LevelState) (xs : Entries) (scene : Scene) (system place : ℕ) (h : SnpEntry) → IsHeldAside r l nodes s xs → IsNamed h.id → differs (cell_at s.book h.id) h.rank h.checksum ≡ false → IsHeldAside r l nodes (take_entry scene s system place h) xs
calm-aside r l nodes s xs scene system place h aside is d =
    let t = take_entry scene s system place h in
    let calm : (w : Whose) → is_calm_entry (snp_case w (cell_at s.book h.id) h) ≡ true = λ w. calm-case w (cell_at s.book h.id) h d in
    let face = take-face scene s system place h calm in
    let same : (n : ℕ) → seen (cell_at t.book n) ≡ seen (cell_at s.book n) = λ n. seen-same (cell_at s.book n) (cell_at t.book n) (face.kept n) in
    let own = calm-own scene s system place h calm in
    let changed = entry-changed scene s system place h in
    record {
      sees = λ n. same n ∙ aside.sees n;
      within = aside.within;
      own = λ n live. ap (λ (m : List (ℕ × Issued)). is_some (find m n)) own ∙ aside.own n (ap (λ (o : Option (ℕ × Content)). is_some o) (sym (same n)) ∙ live);
      named = subst AreNamed (sym changed.cells) (set-named s.book.cells h.id changed.cell aside.named is);
      sorted = subst (RisesFrom 0) (sym changed.cells) (set-rises s.book.cells h.id changed.cell aside.sorted);
    }

-- ---- an entry that is apart

-- one cell is put, and what is aside tells of it
pub record Put (r : Router) (l : Level) (s t : LevelState) (id : LspId) (e : Entry) : Type 0 where
  pub cell : Cell
  pub cells : t.book.cells ≡ put s.book.cells (lsp_number id) cell
  pub shows : seen (Some cell) ≡ seen_in (Some e)
  pub issued : Option Issued
  pub own : (n : ℕ) → find t.own n ≡ (if eqb (lsp_number id) n then issued else find s.own n)
  pub still : is_some (seen (Some cell)) ≡ true → is_some issued ≡ is_some (find (level_of r l).own (lsp_number id))

module _ (r : Router) (l : Level) (nodes : List NodeId) (s t : LevelState) (xs : Entries) (id : LspId) (e : Entry) (aside : IsHeldAside r l nodes s xs) (is : IsId id) (inside : is_among nodes (node_of (lsp_number id)) ≡ true) (p : Put r l s t id e) where
  abbrev k : ℕ
  k = lsp_number id

  now-inside : (n : ℕ) → (k == n) ≡ true → is_among nodes (node_of n) ≡ true
  now-inside n same = ap (λ (m : ℕ). is_among nodes (node_of m)) (sym (eqb-true k n same)) ∙ inside

  before : (n : ℕ) (u : Bool) → is_among nodes (node_of n) ≡ u → seen (cell_at s.book n) ≡ (if u then seen_in (maps.find xs n) else seen (cell_at (book_of r l) n))
  before n u is = aside.sees n ∙ ap (λ (v : Bool). if v then seen_in (maps.find xs n) else seen (cell_at (book_of r l) n)) is

  sees-at : (n : ℕ) (a : Bool) → (k == n) ≡ a → (u : Bool) → is_among nodes (node_of n) ≡ u
      → seen (if a then Some p.cell else find s.book.cells n) ≡ (if u then seen_in (if a then Some e else maps.find xs n) else seen (cell_at (book_of r l) n))
  sees-at n true same true is = p.shows
  sees-at n true same false is = clash (sym (now-inside n same) ∙ is)
  sees-at n false same u is = before n u is

  cell-now : (n : ℕ) → seen (cell_at t.book n) ≡ seen (if k == n then Some p.cell else find s.book.cells n)
  cell-now n = ap (λ (m : List (ℕ × Cell)). seen (find m n)) p.cells ∙ ap seen (find-put s.book.cells k p.cell n)

  within-at : (n : ℕ) (a : Bool) → (k == n) ≡ a → is_among nodes (node_of n) ≡ false → (if a then Some e else maps.find xs n) ≡ None
  within-at n true same off = clash (sym (now-inside n same) ∙ off)
  within-at n false same off = aside.within n off

  own-at : (n : ℕ) (a : Bool) → (k == n) ≡ a → is_some (seen (if a then Some p.cell else find s.book.cells n)) ≡ true → is_some (if a then p.issued else find s.own n) ≡ is_some (find (level_of r l).own n)
  own-at n true same live = p.still live ∙ ap (λ (m : ℕ). is_some (find (level_of r l).own m)) (eqb-true k n same)
  own-at n false same live = aside.own n live

  pub put-aside : IsHeldAside r l nodes t (maps.put xs id e)
  put-aside = record {
    sees = λ n. cell-now n ∙ sees-at n (k == n) refl (is_among nodes (node_of n)) refl
        ∙ ap (λ (o : Option Entry). if is_among nodes (node_of n) then seen_in o else seen (cell_at (book_of r l) n)) (sym (put-found xs id e n));
    within = λ n off. put-found xs id e n ∙ within-at n (k == n) refl off;
    own = λ n live. ap (λ (o : Option Issued). is_some o) (p.own n) ∙ own-at n (k == n) refl (ap (λ (o : Option (ℕ × Content)). is_some o) (sym (cell-now n)) ∙ live);
    named = subst AreNamed (sym p.cells) (put-named s.book.cells k p.cell aside.named (named id is));
    sorted = subst (RisesFrom 0) (sym p.cells) (put-rises s.book.cells 0 k p.cell (omega arith) aside.sorted);
  }

-- ---- the row of an entry that is apart

live-some : (r : ℕ) (x : Bool) → is_live r ≡ true → (r == 0 && x) ≡ false
live-some r x live = by (r == 0) refl
  where
    by : (t : Bool) → (r == 0) ≡ t → (t && x) ≡ false
    by true is = clash (sym live ∙ ap is_live (eqb-true r 0 is))
    by false is = refl

differs-live : (held : Option Cell) (r sum : ℕ) → differs held r sum ≡ true → is_live r ≡ true
differs-live held r sum d =
    let both = and_parts (is_live r && rank_of held == r) _ d in
    let first = and_parts (is_live r) (rank_of held == r) both.0 in
    first.0

bid-row : (a d i b e f g : Bool) → a ≡ false → d ≡ true → i ≡ true → (if a then snp.Nothing else (if d && i then snp.Outbid else (if d then snp.Confused else (if b then snp.Same else (if e then snp.Older else (if f then snp.Newer else (if g then snp.Asked else snp.Unasked))))))) ≡ snp.Outbid
bid-row true d i b e f g p q s = clash p
bid-row false false i b e f g p q s = clash (sym q)
bid-row false true false b e f g p q s = clash (sym s)
bid-row false true true b e f g p q s = refl

confused-row : (a d i b e f g : Bool) → a ≡ false → d ≡ true → i ≡ false → (if a then snp.Nothing else (if d && i then snp.Outbid else (if d then snp.Confused else (if b then snp.Same else (if e then snp.Older else (if f then snp.Newer else (if g then snp.Asked else snp.Unasked))))))) ≡ snp.Confused
confused-row true d i b e f g p q s = clash p
confused-row false false i b e f g p q s = clash (sym q)
confused-row false true true b e f g p q s = clash s
confused-row false true false b e f g p q s = refl

bid-case : (w : Whose) (held : Option Cell) (h : SnpEntry) → differs held h.rank h.checksum ≡ true → is_issued w ≡ true → snp_case w held h ≡ snp.Outbid
unfolding snp_case
bid-case w held h d i =
    bid-row (h.rank == 0 && rank_of held == 0) (differs held h.rank h.checksum) (is_issued w) (rank_of held == h.rank) (nat_lt h.rank (rank_of held)) (nat_lt 0 (rank_of held)) (nat_lt 0 h.lifetime && nat_lt 0 h.checksum)
    (live-some h.rank (rank_of held == 0) (differs-live held h.rank h.checksum d)) d i

confused-case : (w : Whose) (held : Option Cell) (h : SnpEntry) → differs held h.rank h.checksum ≡ true → is_issued w ≡ false → snp_case w held h ≡ snp.Confused
unfolding snp_case
confused-case w held h d i =
    confused-row (h.rank == 0 && rank_of held == 0) (differs held h.rank h.checksum) (is_issued w) (rank_of held == h.rank) (nat_lt h.rank (rank_of held)) (nat_lt 0 (rank_of held)) (nat_lt 0 h.lifetime && nat_lt 0 h.checksum)
    (live-some h.rank (rank_of held == 0) (differs-live held h.rank h.checksum d)) d i

-- ---- what it puts

held-some : (held : Option Cell) (r sum : ℕ) → differs held r sum ≡ true → (c : Cell) × (held ≡ Some c)
held-some None r sum d = clash (sym d ∙ differs-seen None r sum)
held-some (Some c) r sum d = (c, refl)

pub none-shown : (e : Entry) → e.key ≡ None → seen_in (Some e) ≡ None
none-shown e key = ap (λ (t : Bool). if t then Some (rank e.key, content_in e) else None) (ap store.is_live_key key)

purge-dead : (held : Option Cell) (opened : ℕ) → is_live (flagged (held_purge held) opened 0).rank ≡ false
purge-dead None opened = not-live 0
purge-dead (Some c) opened = not-live (number_of c.rank)

never : {A : Type 0} (c : Cell) → is_live c.rank ≡ false → is_some (seen (Some c)) ≡ true → A
never c dead live = clash (sym live ∙ ap (λ (o : Option (ℕ × Content)). is_some o) (seen-dead c dead))

kept-own : (m : List (ℕ × Issued)) (k n : ℕ) → find m n ≡ (if eqb k n then find m k else find m n)
kept-own m k n = by (k == n) refl
  where
    by : (a : Bool) → (k == n) ≡ a → find m n ≡ (if a then find m k else find m n)
    by true same = ap (find m) (sym (eqb-true k n same))
    by false same = refl

confused-put : (r : Router) (l : Level) (s : LevelState) (scene : Scene) (system place : ℕ) (e : LspEntry) (x : Entry) → x.key ≡ None → differs (cell_at s.book (lsp_number e.id)) (entry_rank e) e.checksum ≡ true → is_issued (whose_of system s (lsp_number e.id)) ≡ false
    → Put r l s (take_entry scene s system place (entry_of e)) e.id x
unfolding take_entry hear_entry set_cell
confused-put r l s scene system place e x key d i =
    let h = entry_of e in
    let held = cell_at s.book h.id in
    let w = whose_of system s h.id in
    let c = held-some held h.rank h.checksum d in
    let row = confused-case w held h d i in
    let cell = flagged (purged c.0) s.book.opened 0 in
    let dead : is_live cell.rank ≡ false = not-live (number_of c.0.rank) in
    let other : snp_case w held h ≡ snp.Outbid → ⊥ = λ bid. apart-rows (sym row ∙ bid) in
    let taken : entry_taken scene s place w h (snp_case w held h) ≡ record s { book = hear_entry s.book place w h } = ap (entry_taken scene s place w h) row in
    let is : snp_row (snp_case w held h) (is_full s.book) s.book.opened s.book.p2p place held ≡ Some cell =
    ap (λ (q : SnpCase). snp_row q (is_full s.book) s.book.opened s.book.p2p place held) row ∙ ap (option_map (λ (y : Cell). flagged (purged y) s.book.opened 0)) c.1 in
    record {
      cell = cell;
      cells = ap (λ (q : LevelState). q.book.cells) taken ∙ ap (set_at s.book.cells h.id) is;
      shows = seen-dead cell dead ∙ sym (none-shown x key);
      issued = find s.own h.id;
      own = λ n. ap (λ (m : List (ℕ × Issued)). find m n) (row-own scene s place w h (snp_case w held h) other) ∙ kept-own s.own h.id n;
      still = λ live. never cell dead live;
    }
  where
    apart-rows : snp.Confused ≡ snp.Outbid → ⊥
    apart-rows e = cc

bid-taken : (scene : Scene) (s : LevelState) (system place : ℕ) (h : SnpEntry) → snp_case (whose_of system s h.id) (cell_at s.book h.id) h ≡ snp.Outbid
    → take_entry scene s system place h ≡ (if number_of h.rank == last_number then retire s h.id (held_purge (cell_at s.book h.id)) else install s h.id (answer_of scene h.id) (issue_cell scene.given scene.router scene.level h.id (number_of h.rank + 1) (answer_of scene h.id)))
unfolding take_entry outbid
bid-taken scene s system place h e = ap (entry_taken scene s place (whose_of system s h.id) h) e

retire-put : (r : Router) (l : Level) (s t : LevelState) (id : LspId) (x : Entry) → x.key ≡ None → t ≡ retire s (lsp_number id) (held_purge (cell_at s.book (lsp_number id))) → Put r l s t id x
unfolding retire set_cell
retire-put r l s t id x key is =
    let k = lsp_number id in
    let held = cell_at s.book k in
    let cell = flagged (held_purge held) s.book.opened 0 in
    let dead : is_live cell.rank ≡ false = purge-dead held s.book.opened in
    record {
      cell = cell;
      cells = ap (λ (q : LevelState). q.book.cells) is;
      shows = seen-dead cell dead ∙ sym (none-shown x key);
      issued = None;
      own = λ n. ap (λ (q : LevelState). find q.own n) is ∙ find-erase s.own k n;
      still = λ live. never cell dead live;
    }

install-put : (r : Router) (l : Level) (s t : LevelState) (id : LspId) (x : Entry) (contents : Contents) (c : Cell) → ((row : FlagRow) → cell_of x row ≡ with_row c row) → is_some (find (level_of r l).own (lsp_number id)) ≡ true → t ≡ install s (lsp_number id) contents c → Put r l s t id x
unfolding install set_cell
install-put r l s t id x contents c says issued is =
    let k = lsp_number id in
    let cell = flagged c s.book.opened 0 in
    let one : cell_of x no_flags ≡ with_row c no_flags = says no_flags in
    record {
      cell = cell;
      cells = ap (λ (q : LevelState). q.book.cells) is;
      shows = sym (ap (λ (y : Cell). seen (Some y)) one) ∙ cell-seen x no_flags;
      issued = Some (record { contents = contents; age = 0 });
      own = λ n. ap (λ (q : LevelState). find q.own n) is ∙ find-put s.own k (record { contents = contents; age = 0 }) n;
      still = λ live. sym issued;
    }

bid-put : (r : Router) (l : Level) (s : LevelState) (system place : ℕ) (e : LspEntry) (x : Entry) → IsAbove r l e.id e.number x → differs (cell_at s.book (lsp_number e.id)) (entry_rank e) e.checksum ≡ true → is_issued (whose_of system s (lsp_number e.id)) ≡ true → is_some (find (level_of r l).own (lsp_number e.id)) ≡ true
    → Put r l s (take_entry (scene_of given r l) s system place (entry_of e)) e.id x
bid-put r l s system place e x above d i issued =
    let h = entry_of e in
    let scene = scene_of given r l in
    let held = cell_at s.book h.id in
    let taken = bid-taken scene s system place h (bid-case (whose_of system s h.id) held h d i) in
    let number = heard-number e in
    by above (number_of h.rank == last_number) refl number taken
  where
    by : IsAbove r l e.id e.number x → (t : Bool) → (number_of (entry_rank e) == last_number) ≡ t → number_of (entry_rank e) ≡ e.number
        → take_entry (scene_of given r l) s system place (entry_of e) ≡ (if t then retire s (lsp_number e.id) (held_purge (cell_at s.book (lsp_number e.id))) else install s (lsp_number e.id) (answer_of (scene_of given r l) (lsp_number e.id)) (issue_cell given r l (lsp_number e.id) (number_of (entry_rank e) + 1) (answer_of (scene_of given r l) (lsp_number e.id))))
        → Put r l s (take_entry (scene_of given r l) s system place (entry_of e)) e.id x
    by (inl last) true at number is = retire-put r l s (take_entry (scene_of given r l) s system place (entry_of e)) e.id x last.1 is
    by (inl last) false at number is = clash (sym (eq-eqb (number_of (entry_rank e)) last_number (number ∙ last.0)) ∙ at)
    by (inr under) true at number is = absurd (under.0 (sym number ∙ eqb-true (number_of (entry_rank e)) last_number at))
    by (inr under) false at number is =
        let contents = answer_of (scene_of given r l) (lsp_number e.id) in
        install-put r l s (take_entry (scene_of given r l) s system place (entry_of e)) e.id x contents (issue_cell given r l (lsp_number e.id) (number_of (entry_rank e) + 1) contents)
        (λ row. under.1 row ∙ ap (λ (n : ℕ). with_row (issue_cell given r l (lsp_number e.id) (n + 1) contents) row) (sym number)) issued is

-- ---- whose it is

abbrev whose_by : ℕ → ℕ → Bool → Whose
whose_by system n issued = if not (n / 65536 == system) then whose.Other else (if issued then whose.Issued else whose.Unissued)

whose-same : (system n : ℕ) (s t : LevelState) → is_some (find s.own n) ≡ is_some (find t.own n) → whose_of system s n ≡ whose_of system t n
whose-same system n s t same = ap (whose_by system n) same

issued-by : (t u : Bool) → (if t then whose.Other else (if u then whose.Issued else whose.Unissued)) ≡ whose.Issued → u ≡ true
issued-by true u e = absurd (cc)
issued-by false true e = refl
issued-by false false e = absurd (cc)

pub issued-held : (system n : ℕ) (s : LevelState) → whose_of system s n ≡ whose.Issued → is_some (find s.own n) ≡ true
issued-held system n s e = issued-by (not (n / 65536 == system)) (is_some (find s.own n)) e

-- an entry that is apart, and what is told of it
module _ (r : Router) (l : Level) (nodes : List NodeId) (s : LevelState) (xs : Entries) (place : ℕ) (e : LspEntry) (x : Entry) (aside : IsHeldAside r l nodes s xs) (is : IsId e.id) (answered : IsAnswered r l e x) (here : is_apart (maps.find xs (lsp_number e.id)) e ≡ true) where
  abbrev n : ℕ
  n = lsp_number e.id

  abbrev system : ℕ
  system = r.config.system

  inside-by : (u : Bool) → is_among nodes (node_of n) ≡ u → is_among nodes (node_of n) ≡ true
  inside-by true is = is
  inside-by false off = clash (sym here ∙ ap (λ (o : Option Entry). is_apart o e) (aside.within n off))

  inside : is_among nodes (node_of n) ≡ true
  inside = inside-by (is_among nodes (node_of n)) refl

  sees : seen (cell_at s.book n) ≡ seen_in (maps.find xs n)
  sees = aside.sees n ∙ ap (λ (v : Bool). if v then seen_in (maps.find xs n) else seen (cell_at (book_of r l) n)) inside

  d : differs (cell_at s.book n) (entry_rank e) e.checksum ≡ true
  d = apart-same (cell_at s.book n) (maps.find xs n) e sees ∙ here

  live : is_some (seen (cell_at s.book n)) ≡ true
  live =
      let c = held-some (cell_at s.book n) (entry_rank e) e.checksum d in
      let both = and_parts (is_live (entry_rank e) && rank_of (cell_at s.book n) == entry_rank e) _ d in
      let first = and_parts (is_live (entry_rank e)) (rank_of (cell_at s.book n) == entry_rank e) both.0 in
      let same : c.0.rank ≡ entry_rank e = sym (ap rank_of c.1) ∙ eqb-true (rank_of (cell_at s.book n)) (entry_rank e) first.1 in
      ap (λ (o : Option Cell). is_some (seen o)) c.1 ∙ ap (λ (o : Option (ℕ × Content)). is_some o) (seen-live c.0 (ap is_live same ∙ first.0))

  whose-now : whose_of system s n ≡ whose_of system (level_of r l) n
  whose-now = whose-same system n s (level_of r l) (aside.own n live)

  by : (w : Whose) → whose_of system (level_of r l) n ≡ w → TellsAnswer w r l e x → Put r l s (take_entry (scene_of given r l) s system place (entry_of e)) e.id x
  by whose.Other same tells = confused-put r l s (scene_of given r l) system place e x tells d (ap is_issued (whose-now ∙ same))
  by whose.Issued same tells = bid-put r l s system place e x tells d (ap is_issued (whose-now ∙ same)) (issued-held system n (level_of r l) same)
  by whose.Unissued same tells = confused-put r l s (scene_of given r l) system place e x tells d (ap is_issued (whose-now ∙ same))

  pub answer-aside : IsHeldAside r l nodes (take_entry (scene_of given r l) s system place (entry_of e)) (maps.put xs e.id x)
  answer-aside = put-aside r l nodes s (take_entry (scene_of given r l) s system place (entry_of e)) xs e.id x aside is inside (by (whose_of system (level_of r l) n) refl answered)

-- an entry that isn't apart of what is aside
module _ (r : Router) (l : Level) (nodes : List NodeId) (s : LevelState) (xs : Entries) (place : ℕ) (e : LspEntry) (aside : IsHeldAside r l nodes s xs) (is : IsId e.id) (covered : IsCovered r l nodes e) (off : is_apart (maps.find xs (lsp_number e.id)) e ≡ false) where
  abbrev m : ℕ
  m = lsp_number e.id

  same-by : (u : Bool) → is_among nodes (node_of m) ≡ u → differs (cell_at s.book m) (entry_rank e) e.checksum ≡ false
  same-by true in' =
      apart-same (cell_at s.book m) (maps.find xs m) e (aside.sees m ∙ ap (λ (v : Bool). if v then seen_in (maps.find xs m) else seen (cell_at (book_of r l) m)) in') ∙ off
  same-by false out =
      let sees : seen (cell_at s.book m) ≡ seen (cell_at (book_of r l) m) = aside.sees m ∙ ap (λ (v : Bool). if v then seen_in (maps.find xs m) else seen (cell_at (book_of r l) m)) out in
      let old = cell_at (book_of r l) m in
      let same : differs (cell_at s.book m) (entry_rank e) e.checksum ≡ differs old (entry_rank e) e.checksum =
      differs-seen (cell_at s.book m) (entry_rank e) e.checksum ∙ ap (λ (o : Option (ℕ × Content)). apart o (entry_rank e) e.checksum) sees ∙ sym (differs-seen old (entry_rank e) e.checksum) in
      same ∙ none-by (differs old (entry_rank e) e.checksum) (λ d. clash (sym (covered d) ∙ ap (is_among nodes) (node-is e.id is) ∙ out))
    where
      none-by : (t : Bool) → (t ≡ true → ⊥) → t ≡ false
      none-by true h = absurd (h refl)
      none-by false h = refl

  pub stays-aside : IsHeldAside r l nodes (take_entry (scene_of given r l) s r.config.system place (entry_of e)) xs
  stays-aside = calm-aside r l nodes s xs (scene_of given r l) r.config.system place (entry_of e) aside (named e.id is) (same-by (is_among nodes (node_of m)) refl)

-- ---- a CSNP's range

range-seen : (t : Bool) (place : ℕ) (o : Option Cell) → seen (option_map (λ (c : Cell). if t then srm_on c place else c) o) ≡ seen o
range-seen t place None = refl
range-seen true place (Some c) = refl
range-seen false place (Some c) = refl

missed-seen : (test : Cell → Bool) (place : ℕ) (o : Option Cell) → seen (option_map (λ (c : Cell). if test c then srm_on c place else c) o) ≡ seen o
missed-seen test place None = refl
missed-seen test place (Some c) = range-seen (test c) place (Some c)

pub range-aside : (r : Router) (l : Level) (nodes : List NodeId) (s : LevelState) (xs : Entries) (place : ℕ) (range : Option (ℕ × ℕ)) (entries : List SnpEntry) → IsHeldAside r l nodes s xs → IsHeldAside r l nodes (take_range s place range entries) xs
unfolding hear_range
range-aside r l nodes s xs place None entries aside = aside
range-aside r l nodes s xs place (Some range) entries aside =
    let f : ℕ → Cell → Cell = λ id cell. if is_missed range.0 range.1 entries id cell then srm_on cell place else cell in
    let same : (n : ℕ) → seen (find (each f s.book.cells) n) ≡ seen (find s.book.cells n) =
    λ n. ap seen (find-each f s.book.cells n) ∙ missed-seen (is_missed range.0 range.1 entries n) place (find s.book.cells n) in
    record {
      sees = λ n. same n ∙ aside.sees n;
      within = aside.within;
      own = λ n live. aside.own n (ap (λ (o : Option (ℕ × Content)). is_some o) (sym (same n)) ∙ live);
      named = each-named f s.book.cells aside.named;
      sorted = each-rises f 0 s.book.cells aside.sorted;
    }

pub snp-aside : (r : Router) (l : Level) (nodes : List NodeId) (xs : Entries) (place : ℕ) (range : Option (ℕ × ℕ)) (entries : List SnpEntry) → IsHeldAside r l nodes (take_entries (scene_of given r l) (level_of r l) r.config.system place entries) xs → IsHeldAside r l nodes (take_snp (scene_of given r l) (level_of r l) r.config.system place range entries) xs
unfolding take_snp
snp-aside r l nodes xs place range entries aside = range-aside r l nodes (take_entries (scene_of given r l) (level_of r l) r.config.system place entries) xs place range entries aside
