-- What the rows of the table for entries of sequence number PDUs do to a level.
use Rattle.std.proofs.Common.{◌≡◌, ℕ, ◌+◌, ◌<◌, ◌≤◌, eqb, Bool, true, false, ◌⊎◌, inl, inr, List, [], ◌∷◌, length, take, drop, get_or, ◌-◌, suc, zero, IfSome, Option, Some, None, IsSome, if◌then◌else◌, refl, ap, ap₂, sym, ◌∙◌, subst, arith}
use Rattle.std.proofs.lemmas.Bool.Decides.{nat_tests}
use Rattle.std.proofs.Math.Seq.{take-length}
use Rattle.isis_base.specs.declared.entry.LspEntry.{LspEntry}
use Rattle.model_router.specs.declared.whose.Whose.{Whose}
use Rattle.model_router.specs.declared.snp_case.SnpCase.{SnpCase}
use Rattle.model_router.specs.declared.snp_case.SnpCase.TheVariants as case
use Rattle.model_router.specs.Maps.{find, put, erase, set_at}
use Rattle.model_router.specs.Sorted.{RisesFrom}
use Rattle.model_router.specs.Ranks.{number_of, is_live}
use Rattle.model_router.specs.Cells.{Cell}
use Rattle.model_router.specs.Books.{Book, cell_at, rank_of, rank_at, is_full, risen, set_cell}
use Rattle.model_router.specs.LspTable.{is_issued}
use Rattle.model_router.specs.SnpTable.{SnpEntry, snp_case, snp_row, hear_entry, hear_range}
use Rattle.model_router.specs.Routers.{Issued, LevelState}
use Rattle.model_router.specs.Takes.{Scene, whose_of, answer, held_purge, entry_taken, take_entry, take_entries, take_snp}
use Rattle.model_router.proofs.MapLemmas.{find-put, find-erase}
use Rattle.model_router.proofs.FloodLemmas.{each-snp}
use Rattle.flag_sync.specs.Heard.{entry_of, outbid_of}
use Rattle.flag_sync.specs.BookStates as states
use Rattle.isis_base.specs.Identifiers.{lsp_number}
use Rattle.router_sending.specs.Drafts.{DraftView}
use Rattle.router_levels.specs.Views.{LevelView, HasRoom, Keeps}
use Rattle.router_levels.specs.Drafts.{IsAnswer, IsReady, AreReady, AreAnswers, IsNext}
use Rattle.router_levels.proofs.TakeLemmas.{issued-find}

-- ---- what is put as it was

find-above : {V : Type 0} (m : List (ℕ × V)) (least n : ℕ) → n < least → RisesFrom least m → find m n ≡ None
find-above [] least n lt r = refl
find-above (p ∷ m) least n lt r = let h = r.0 in grind (arith, nat_tests, h, lt, find-above m (p.0 + 1) n (omega (arith, h, lt)) r.1)

put-same : {V : Type 0} (m : List (ℕ × V)) (least n : ℕ) (v : V) → RisesFrom least m → find m n ≡ Some v → put m n v ≡ m
unfolding put
put-same [] least n v r e = absurd (grind (arith, e))
put-same (p ∷ m) least n v r e =
    let rest = λ (f : find m n ≡ Some v). put-same m (p.0 + 1) n v r.1 f in
    let above = λ (lt : n < p.0). find-above m (p.0 + 1) n (omega (arith, lt)) r.1 in
    grind (arith, nat_tests, e, rest, above)

erase-same : {V : Type 0} (m : List (ℕ × V)) (n : ℕ) → find m n ≡ None → erase m n ≡ m
unfolding erase
erase-same [] n e = refl
erase-same (p ∷ m) n e = grind (arith, nat_tests, e, erase-same m n)

pub set_cell-same : (b : Book) (n : ℕ) → RisesFrom 0 b.cells → set_cell b n (cell_at b n) ≡ b
unfolding set_cell
set_cell-same b n up =
    ap₂ (λ (cells : List (ℕ × Cell)) (k : ℕ). let x : Book = record b { cells = cells; changes = k } in x) (held (cell_at b n) refl) (stays b.changes (rank_at b n))
  where
    held : (c : Option Cell) → find b.cells n ≡ c → set_at b.cells n c ≡ b.cells
    held None e = erase-same b.cells n e
    held (Some cell) e = put-same b.cells 0 n cell up e

    stays : (changes rank : ℕ) → (if eqb rank rank then changes else risen changes) ≡ changes
    stays changes rank = grind (arith, nat_tests)

-- ---- which row an answer tells

pub some-outbid : (c : SnpCase) (e : LspEntry) → IsSome (outbid_of c e) → c ≡ case.Outbid
some-outbid case.Nothing e s = absurd (cc)
some-outbid case.Outbid e s = refl
some-outbid case.Confused e s = absurd (cc)
some-outbid case.Same e s = absurd (cc)
some-outbid case.Older e s = absurd (cc)
some-outbid case.Newer e s = absurd (cc)
some-outbid case.Asked e s = absurd (cc)
some-outbid case.Unasked e s = absurd (cc)

-- ---- what the rows do

pub entry-outbid : (scene : Scene) (state : LevelState) (system place : ℕ) (h : SnpEntry) → snp_case (whose_of system state h.id) (cell_at state.book h.id) h ≡ case.Outbid → take_entry scene state system place h ≡ answer scene state h.id (number_of h.rank) (held_purge (cell_at state.book h.id))
unfolding take_entry
entry-outbid scene state system place h e = ap (entry_taken scene state place (whose_of system state h.id) h) e

pub entry-else : (scene : Scene) (state : LevelState) (system place : ℕ) (e : LspEntry) → outbid_of (snp_case (whose_of system state (entry_of e).id) (cell_at state.book (entry_of e).id) (entry_of e)) e ≡ None → take_entry scene state system place (entry_of e) ≡ record state { book = hear_entry state.book place (whose_of system state (entry_of e).id) (entry_of e) }
unfolding take_entry
entry-else scene state system place e none = cases (snp_case (whose_of system state (entry_of e).id) (cell_at state.book (entry_of e).id) (entry_of e)) none
  where
    w : Whose
    w = whose_of system state (entry_of e).id

    cases : (c : SnpCase) → outbid_of c e ≡ None → entry_taken scene state place w (entry_of e) c ≡ record state { book = hear_entry state.book place w (entry_of e) }
    cases case.Nothing q = refl
    cases case.Outbid q = absurd (cc)
    cases case.Confused q = refl
    cases case.Same q = refl
    cases case.Older q = refl
    cases case.Newer q = refl
    cases case.Asked q = refl
    cases case.Unasked q = refl

pub outbid-stays : (book : Book) (place : ℕ) (w : Whose) (h : SnpEntry) → RisesFrom 0 book.cells → snp_case w (cell_at book h.id) h ≡ case.Outbid → hear_entry book place w h ≡ book
unfolding hear_entry
outbid-stays book place w h up e =
    ap (λ (c : SnpCase). set_cell book h.id (snp_row c (is_full book) book.opened book.p2p place (cell_at book h.id))) e
    ∙ set_cell-same book h.id up

-- ---- what is outbid is issued, and held

pub entry-issued : (system : ℕ) (state : LevelState) (h : SnpEntry) → snp_case (whose_of system state h.id) (cell_at state.book h.id) h ≡ case.Outbid → IsSome (find state.own h.id)
entry-issued system state h e =
    issued-find system state h.id (each-snp (λ c. c ≡ case.Outbid → is_issued (whose_of system state h.id) ≡ true) (whose_of system state h.id) (cell_at state.book h.id) h (λ q. cc) (λ yes _ _ _. yes) (λ _ _ q. cc) (λ _ q. cc) (λ _ q. cc) (λ _ q. cc) (λ q. cc) (λ q. cc) e)

live-some : (rank : ℕ) → is_live rank ≡ true → 0 < rank
live-some rank e = grind (arith, nat_tests, e)

pub entry-held : (w : Whose) (held : Option Cell) (h : SnpEntry) → snp_case w held h ≡ case.Outbid → 0 < rank_of held
entry-held w held h e =
    each-snp (λ c. c ≡ case.Outbid → 0 < rank_of held) w held h (λ q. cc) (λ _ same live _. let some = live-some h.rank live in omega (arith, same, some)) (λ _ _ q. cc) (λ _ q. cc) (λ _ q. cc) (λ _ q. cc) (λ q. cc) (λ q. cc) e

pub rank-held : (held : Option Cell) → 0 < rank_of held → IsSome held
rank-held None some = absurd (omega (arith, some))
rank-held (Some cell) some = refl

-- ---- what isn't issued stays so

pub put-fewer : {V : Type 0} (m : List (ℕ × V)) (k : ℕ) (v : V) → IsSome (find m k) → (n : ℕ) → find m n ≡ None → find (put m k v) n ≡ None
put-fewer m k v some n none = find-put m k v n ∙ cases (eqb k n) refl
  where
    cases : (t : Bool) → eqb k n ≡ t → (if t then Some v else find m n) ≡ None
    cases true q =
        let same : k ≡ n = grind (arith, nat_tests, q) in
        let there = subst (λ (o : Option _). IsSome o) none (subst (λ (i : ℕ). IsSome (find m i)) same some) in
        absurd (grind (arith, there))
    cases false q = none

pub erase-fewer : {V : Type 0} (m : List (ℕ × V)) (k n : ℕ) → find m n ≡ None → find (erase m k) n ≡ None
erase-fewer m k n none = find-erase m k n ∙ cases (eqb k n)
  where
    cases : (t : Bool) → (if t then None else find m n) ≡ None
    cases true = refl
    cases false = none

-- ---- room

pub room-one : (view : LevelView) → HasRoom view 1 0 → states.HasRoom view.book
room-one view room = elim room.held [
  | inl h ↦ inl h
  | inr h ↦ cases view.book.store.spare h
]
  where
    cases : (spare : ℕ) → 65536 ≤ spare + length view.book.store.entries → (0 < spare) ⊎ (65536 ≤ length view.book.store.entries)
    cases zero h = inr (omega (arith, h))
    cases (suc spare) h = inl (omega arith)

pub room-after : (old new : LevelView) (entries : ℕ) → HasRoom old (entries + 1) 0 → Keeps old new → HasRoom new entries 0
room-after old new entries room keeps = record {
  held = elim room.held [
    | inl h ↦ inl (let s = keeps.room.spare in omega (arith, h, s))
    | inr h ↦ inr (let m = keeps.room.made in omega (arith, h, m))
  ];
  own = omega arith;
}

pub room-first : (view : LevelView) (entries : ℕ) → HasRoom view (entries + 1) 0 → HasRoom view 1 0
room-first view entries room = record {
  held = elim room.held [
    | inl h ↦ inl (omega (arith, h))
    | inr h ↦ inr h
  ];
  own = omega arith;
}

-- ---- the entries that are left

pub ready-after : (keyed : Bool) (old new : List (ℕ × Issued)) (entries : List LspEntry) (drafts : List (Option DraftView)) → ((n : ℕ) → find old n ≡ None → find new n ≡ None) → AreReady keyed old entries drafts → AreReady keyed new entries drafts
ready-after keyed old new [] drafts fewer ready = tt
ready-after keyed old new (e ∷ entries) [] fewer ready = absurd ready
ready-after keyed old new (e ∷ entries) (None ∷ drafts) fewer ready = (fewer (lsp_number e.id) ready.0, ready-after keyed old new entries drafts fewer ready.1)
ready-after keyed old new (e ∷ entries) (Some draft ∷ drafts) fewer ready = (ready.0, ready-after keyed old new entries drafts fewer ready.1)

pub opens : {X : Type 0} (xs : List X) (d : X) → 1 ≤ length xs → xs ≡ get_or xs 0 d ∷ take (length xs - 1) (drop 1 xs)
opens [] d h = absurd (omega (arith, h))
opens {X} (x ∷ xs) d h =
    let less : length (x ∷ xs) - 1 ≡ length xs = omega arith in
    ap (λ (ys : List X). x ∷ ys) (sym (rw less (take-length xs)))

module _ (e : LspEntry) (left rest : List LspEntry) (is : left ≡ e ∷ rest) where
  pub room-next : (old new : LevelView) → HasRoom old (length left) 0 → Keeps old new → HasRoom new (length rest) 0
  room-next old new room keeps =
      let more : length left ≡ length rest + 1 = ap length is ∙ omega arith in
      room-after old new (length rest) (subst (λ (n : ℕ). HasRoom old n 0) more room) keeps

  pub ready-next : (keyed : Bool) (own : List (ℕ × Issued)) (drafts behind : List (Option DraftView)) (draft : Option DraftView) → AreReady keyed own left drafts → IsNext drafts draft behind → IsReady keyed own e draft × AreReady keyed own rest behind
  ready-next keyed own drafts behind draft ready next = cases drafts (subst (λ (es : List LspEntry). AreReady keyed own es drafts) is ready) next
    where
      cases : (ds : List (Option DraftView)) → AreReady keyed own (e ∷ rest) ds → IsNext ds draft behind → IsReady keyed own e draft × AreReady keyed own rest behind
      cases [] r n = absurd r
      cases (x ∷ xs) r n = (subst (IsReady keyed own e) (sym n.0) r.0, subst (AreReady keyed own rest) (sym n.1) r.1)

  pub answers-next : (key : Option (List ℕ)) (scene : Scene) (drafts behind : List (Option DraftView)) (draft : Option DraftView) → AreAnswers key scene left drafts → IsNext drafts draft behind → IfSome draft (IsAnswer key scene (lsp_number e.id)) × AreAnswers key scene rest behind
  answers-next key scene drafts behind draft are next = cases drafts (subst (λ (es : List LspEntry). AreAnswers key scene es drafts) is are) next
    where
      none : (es : List LspEntry) → AreAnswers key scene es []
      none [] = tt
      none (x ∷ es) = tt

      cases : (ds : List (Option DraftView)) → AreAnswers key scene (e ∷ rest) ds → IsNext ds draft behind → IfSome draft (IsAnswer key scene (lsp_number e.id)) × AreAnswers key scene rest behind
      cases [] r n = (subst (λ (o : Option DraftView). IfSome o (IsAnswer key scene (lsp_number e.id))) (sym n.0) tt, subst (AreAnswers key scene rest) (sym n.1) (none rest))
      cases (x ∷ xs) r n = (subst (λ (o : Option DraftView). IfSome o (IsAnswer key scene (lsp_number e.id))) (sym n.0) r.0, subst (AreAnswers key scene rest) (sym n.1) r.1)

-- ---- a range

pub snp-bare : (scene : Scene) (state : LevelState) (system place : ℕ) (entries : List SnpEntry) → take_entries scene state system place entries ≡ take_snp scene state system place None entries
unfolding take_snp
snp-bare scene state system place entries = refl

pub snp-ranged : (scene : Scene) (state : LevelState) (system place start end : ℕ) (entries : List SnpEntry) → (let after = take_entries scene state system place entries in record after { book = hear_range after.book place start end entries }) ≡ take_snp scene state system place (Some (start, end)) entries
unfolding take_snp
snp-ranged scene state system place start end entries = refl
