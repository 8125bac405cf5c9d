-- Events that change no key, and no content of what is live.
use Rattle.std.proofs.Common.{◌≡◌, ◌∙◌, ℕ, ◌==◌, nat_lt, Bool, true, false, not, ◌&&◌, ◌||◌, List, [], ◌∷◌, length, Option, Some, None, refl, sym, ap, subst, if◌then◌else◌, eqb, inl, inr, option_map}
use Rattle.std.proofs.lemmas.Bool.{cases_eq, eq-eqb, ne_eqb, eqb-true, and_parts}
use Rattle.isis_base.specs.declared.level.Level.{Level}
use Rattle.isis_base.specs.declared.level.Level.TheVariants as level
use Rattle.model_router.specs.declared.whose.Whose.{Whose}
use Rattle.model_router.specs.declared.drop_name.DropName.{DropName}
use Rattle.model_router.specs.declared.lsp_case.LspCase.{LspCase}
use Rattle.model_router.specs.declared.lsp_case.LspCase.TheVariants as lsp
use Rattle.model_router.specs.declared.snp_case.SnpCase.{SnpCase}
use Rattle.model_router.specs.declared.snp_case.SnpCase.TheVariants as snp
use Rattle.model_router.specs.Maps.{find, each}
use Rattle.model_router.specs.Sets.{has}
use Rattle.model_router.specs.Places.{nth}
use Rattle.model_router.specs.Ranks.{is_purge, is_live}
use Rattle.model_router.specs.Cells.{Cell, Heard}
use Rattle.model_router.specs.Books.{Book, cell_at, rank_of, checksum_of, set_cell, is_full}
use Rattle.model_router.specs.Deeds.{content_of}
use Rattle.model_router.specs.ContentLaws.{SameKey}
use Rattle.model_router.specs.LspTable.{is_issued, is_unissued, differs, is_newer, lsp_case, lsp_row, met, hear_lsp}
use Rattle.model_router.specs.SnpTable.{SnpEntry, snp_case, snp_row, is_missed, hear_entry, hear_range}
use Rattle.model_router.specs.Openings.{close, marked, open_up, set_open}
use Rattle.model_router.specs.Takes.{Scene, whose_of, lsp_taken, take_lsp, entry_taken, take_entry, take_entries, take_range, take_snp}
use Rattle.model_router.specs.Routers.{Circuit, LevelState, Router, level_of, book_of, with_level, with_circuit, is_open}
use Rattle.model_router.specs.Adjacencies.{Hello, Handshake, common_of, is_same}
use Rattle.model_router.specs.Hellos.{follow_circuit, follow, point_circuit, lan_circuit, take_point, take_lan}
use Rattle.model_router.specs.Givens.{Given}
use Rattle.model_router.specs.Both.{at, alone}
use Rattle.model_router.specs.SnpLists.{owed}
use Rattle.model_router.specs.Pulls.{Sending, on_circuit, at_circuit, pull_hello, is_csnp_due, pull_csnp, srm_due, sent, pull_lsps, answered, pull_psnp, pull_level, pull}
use Rattle.model_router.specs.Receiving.{scene_of, greeted, taken, take_or_drop, take, drop_of}
use Rattle.model_router.specs.Events.{Message, Refused, PointHelloHeard, LanHelloHeard, LspHeard, SnpHeard, Event, Second, Take, Pull, Metric, Overload, Prefix}
use Rattle.model_router.specs.Steps.{step, with_metric}
use Rattle.model_router.proofs.MapLemmas.{find-each, find-set_at}
use Rattle.router_core.specs.Calm.{is_calm_row, is_calm_entry, AreClear, IsCalmMessage, IsCalm}

true-false : true ≡ false → ⊥
true-false e = cc

no-live : is_live 0 ≡ true → ⊥
no-live e = true-false (sym e)

-- ---- what is held, of the same keys and contents

pub key-refl : (o : Option Cell) → SameKey o o
key-refl o = record { rank = refl; content = λ _. refl }

pub key-trans : (a b c : Option Cell) → SameKey a b → SameKey b c → SameKey a c
key-trans a b c p q = record {
  rank = q.rank ∙ p.rank;
  content = λ live. q.content live ∙ p.content (subst (λ (n : ℕ). is_live n ≡ true) q.rank live);
}

-- a cell of the same key and content
pub record Alike (old new : Cell) : Type 0 where
  pub rank : new.rank ≡ old.rank
  pub content : content_of new ≡ content_of old

pub alike-refl : (c : Cell) → Alike c c
alike-refl c = record { rank = refl; content = refl }

pub pick-alike : (t : Bool) (c a b : Cell) → Alike c a → Alike c b → Alike c (if t then a else b)
pick-alike true c a b p q = p
pick-alike false c a b p q = q

pub alike-key : (old new : Cell) → Alike old new → SameKey (Some old) (Some new)
alike-key old new k = record { rank = k.rank; content = λ _. ap (λ x. Some x) k.content }

-- the same of all that a book holds
abbrev pub AreKept : Book → Book → Type 0
AreKept a b = (id : ℕ) → SameKey (cell_at a id) (cell_at b id)

pub kept-trans : (a b c : Book) → AreKept a b → AreKept b c → AreKept a c
kept-trans a b c p q = λ id. key-trans (cell_at a id) (cell_at b id) (cell_at c id) (p id) (q id)

pub each-kept : (f : ℕ → Cell → Cell) → ((id : ℕ) (c : Cell) → Alike c (f id c)) → (m : List (ℕ × Cell)) (q : ℕ) → SameKey (find m q) (find (each f m) q)
each-kept f same m q = subst (SameKey (find m q)) (sym (find-each f m q)) (of (find m q))
  where
    of : (o : Option Cell) → SameKey o (option_map (f q) o)
    of None = key-refl None
    of (Some c) = alike-key c (f q c) (same q c)

pub set-kept : (b : Book) (id : ℕ) (new : Option Cell) → SameKey (cell_at b id) new → AreKept b (set_cell b id new)
unfolding set_cell
set-kept b id new same = λ q. subst (SameKey (find b.cells q)) (sym (find-set_at b.cells id new q)) (by-place q)
  where
    by-place : (q : ℕ) → SameKey (find b.cells q) (if eqb id q then new else find b.cells q)
    by-place q =
        elim (cases_eq id q) [
          | inl here ↦ rw (eq-eqb id q here) (subst (λ (n : ℕ). SameKey (find b.cells n) new) here same)
          | inr other ↦ rw (ne_eqb id q other) (key-refl (find b.cells q))
        ]

-- ---- cells with the same keys, contents and checksums

pub record Face (a b : Book) : Type 0 where
  pub kept : AreKept a b
  pub sum : (id : ℕ) → checksum_of (cell_at b id) ≡ checksum_of (cell_at a id)

set-face : (b : Book) (id : ℕ) (new : Option Cell) → SameKey (cell_at b id) new → checksum_of new ≡ checksum_of (cell_at b id) → Face b (set_cell b id new)
unfolding set_cell
set-face b id new k f = record {
  kept = set-kept b id new k;
  sum = λ q. ap checksum_of (find-set_at b.cells id new q) ∙ by-place q;
}
  where
    by-place : (q : ℕ) → checksum_of (if eqb id q then new else find b.cells q) ≡ checksum_of (find b.cells q)
    by-place q =
        elim (cases_eq id q) [
          | inl here ↦ rw (eq-eqb id q here) (f ∙ ap (λ (n : ℕ). checksum_of (find b.cells n)) here)
          | inr other ↦ rw (ne_eqb id q other) refl
        ]

-- ---- sequence number PDUs

row-key : (row : SnpCase) → is_calm_entry row ≡ true → (full : Bool) (opened p2p place : ℕ) (held : Option Cell) → SameKey held (snp_row row full opened p2p place held)
row-key snp.Nothing e full opened p2p place held = key-refl held
row-key snp.Outbid e full opened p2p place held = absurd (true-false (sym e))
row-key snp.Confused e full opened p2p place held = absurd (true-false (sym e))
row-key snp.Same e full opened p2p place None = key-refl None
row-key snp.Same e full opened p2p place (Some cell) = record { rank = refl; content = λ _. refl }
row-key snp.Older e full opened p2p place None = key-refl None
row-key snp.Older e full opened p2p place (Some cell) = record { rank = refl; content = λ _. refl }
row-key snp.Newer e full opened p2p place None = key-refl None
row-key snp.Newer e full opened p2p place (Some cell) = record { rank = refl; content = λ _. refl }
row-key snp.Asked e true opened p2p place None = key-refl None
row-key snp.Asked e false opened p2p place None = record { rank = refl; content = λ live. absurd (no-live live) }
row-key snp.Asked e full opened p2p place (Some cell) = record { rank = refl; content = λ _. refl }
row-key snp.Unasked e full opened p2p place held = key-refl held

row-sum : (row : SnpCase) → is_calm_entry row ≡ true → (full : Bool) (opened p2p place : ℕ) (held : Option Cell) → checksum_of (snp_row row full opened p2p place held) ≡ checksum_of held
row-sum snp.Nothing e full opened p2p place held = refl
row-sum snp.Outbid e full opened p2p place held = absurd (true-false (sym e))
row-sum snp.Confused e full opened p2p place held = absurd (true-false (sym e))
row-sum snp.Same e full opened p2p place None = refl
row-sum snp.Same e full opened p2p place (Some cell) = refl
row-sum snp.Older e full opened p2p place None = refl
row-sum snp.Older e full opened p2p place (Some cell) = refl
row-sum snp.Newer e full opened p2p place None = refl
row-sum snp.Newer e full opened p2p place (Some cell) = refl
row-sum snp.Asked e true opened p2p place None = refl
row-sum snp.Asked e false opened p2p place None = refl
row-sum snp.Asked e full opened p2p place (Some cell) = refl
row-sum snp.Unasked e full opened p2p place held = refl

entry-face : (b : Book) (place : ℕ) (w : Whose) (h : SnpEntry) → is_calm_entry (snp_case w (cell_at b h.id) h) ≡ true → Face b (hear_entry b place w h)
unfolding hear_entry
entry-face b place w h clear =
    let held = cell_at b h.id in
    let row = snp_case w held h in
    set-face b h.id (snp_row row (is_full b) b.opened b.p2p place held) (row-key row clear (is_full b) b.opened b.p2p place held) (row-sum row clear (is_full b) b.opened b.p2p place held)

taken-book : (scene : Scene) (state : LevelState) (place : ℕ) (w : Whose) (h : SnpEntry) (row : SnpCase) → is_calm_entry row ≡ true → (entry_taken scene state place w h row).book ≡ hear_entry state.book place w h
taken-book scene state place w h snp.Nothing e = refl
taken-book scene state place w h snp.Outbid e = absurd (true-false (sym e))
taken-book scene state place w h snp.Confused e = absurd (true-false (sym e))
taken-book scene state place w h snp.Same e = refl
taken-book scene state place w h snp.Older e = refl
taken-book scene state place w h snp.Newer e = refl
taken-book scene state place w h snp.Asked e = refl
taken-book scene state place w h snp.Unasked e = refl

pub take-face : (scene : Scene) (state : LevelState) (system place : ℕ) (h : SnpEntry) → ((w : Whose) → is_calm_entry (snp_case w (cell_at state.book h.id) h) ≡ true) → Face state.book (take_entry scene state system place h).book
unfolding take_entry
take-face scene state system place h clear =
    let w = whose_of system state h.id in
    subst (Face state.book) (sym (taken-book scene state place w h (snp_case w (cell_at state.book h.id) h) (clear w))) (entry-face state.book place w h (clear w))

same-case : (w : Whose) (a b : Option Cell) (h : SnpEntry) → rank_of b ≡ rank_of a → checksum_of b ≡ checksum_of a → snp_case w b h ≡ snp_case w a h
unfolding snp_case
same-case w a b h e f = rw (e, f) refl

pub clear-face : (a b : Book) (entries : List SnpEntry) → Face a b → AreClear a entries → AreClear b entries
clear-face a b [] face clear = tt
clear-face a b (h ∷ entries) face clear =
    ((λ w. ap is_calm_entry (same-case w (cell_at a h.id) (cell_at b h.id) h ((face.kept h.id).rank) (face.sum h.id)) ∙ clear.0 w), clear-face a b entries face clear.1)

-- an entry of another key than what is held changes none
unlike-row : (a d e f g k i : Bool) → is_calm_entry (if a then snp.Nothing else (if (k && false && d) && i then snp.Outbid else (if k && false && d then snp.Confused else (if false then snp.Same else (if e then snp.Older else (if f then snp.Newer else (if g then snp.Asked else snp.Unasked))))))) ≡ true
unlike-row true d e f g k i = refl
unlike-row false d true f g true i = refl
unlike-row false d true f g false i = refl
unlike-row false d false true g true i = refl
unlike-row false d false true g false i = refl
unlike-row false d false false true true i = refl
unlike-row false d false false true false i = refl
unlike-row false d false false false true i = refl
unlike-row false d false false false false i = refl

pub unlike-calm : (w : Whose) (held : Option Cell) (h : SnpEntry) → (rank_of held ≡ h.rank → ⊥) → is_calm_entry (snp_case w held h) ≡ true
unfolding snp_case
unlike-calm w held h other = rw (ne_eqb (rank_of held) h.rank other) (unlike-row (h.rank == 0 && rank_of held == 0) (not (checksum_of held == h.checksum)) (nat_lt h.rank (rank_of held)) (nat_lt 0 (rank_of held)) (nat_lt 0 h.lifetime && nat_lt 0 h.checksum) (is_live h.rank) (is_issued w))

entries-kept : (scene : Scene) (state : LevelState) (system place : ℕ) (entries : List SnpEntry) → AreClear state.book entries → AreKept state.book (take_entries scene state system place entries).book
entries-kept scene state system place [] clear = λ id. key-refl (cell_at state.book id)
entries-kept scene state system place (h ∷ entries) clear =
    let face = take-face scene state system place h clear.0 in
    let next = take_entry scene state system place h in
    kept-trans state.book next.book (take_entries scene next system place entries).book face.kept (entries-kept scene next system place entries (clear-face state.book next.book entries face clear.1))

range-kept : (state : LevelState) (place : ℕ) (range : Option (ℕ × ℕ)) (entries : List SnpEntry) → AreKept state.book (take_range state place range entries).book
unfolding hear_range
range-kept state place None entries = λ id. key-refl (cell_at state.book id)
range-kept state place (Some range) entries = each-kept _ (λ id c. pick-alike (is_missed range.0 range.1 entries id c) c _ c (record { rank = refl; content = refl }) (alike-refl c)) state.book.cells

snp-kept : (scene : Scene) (state : LevelState) (system place : ℕ) (range : Option (ℕ × ℕ)) (entries : List SnpEntry) → AreClear state.book entries → AreKept state.book (take_snp scene state system place range entries).book
unfolding take_snp
snp-kept scene state system place range entries clear =
    let after = take_entries scene state system place entries in
    kept-trans state.book after.book (take_range after place range entries).book (entries-kept scene state system place entries clear) (range-kept after place range entries)

-- ---- LSPs

third-of : (a b c d e f : Bool) → (if a then lsp.Outbid else (if b then lsp.PurgedOwn else (if c then lsp.AckPurge else (if d then lsp.Confused else (if e then lsp.Stored else (if f then lsp.Same else lsp.Older)))))) ≡ lsp.AckPurge → c ≡ true
third-of true b c d e f h = cc
third-of false true c d e f h = cc
third-of false false true d e f h = refl
third-of false false false true e f h = cc
third-of false false false false true f h = cc
third-of false false false false false true h = cc
third-of false false false false false false h = cc

ack-rank : (w : Whose) (held : Option Cell) (h : Heard) → lsp_case w held h ≡ lsp.AckPurge → rank_of held ≡ 0
unfolding lsp_case
ack-rank w held h e =
    let c = third-of (is_issued w && (is_newer held h.rank || differs held h.rank h.checksum)) (is_unissued w && is_newer held h.rank && is_live h.rank) (is_purge h.rank && rank_of held == 0) (differs held h.rank h.checksum) (is_newer held h.rank) (rank_of held == h.rank) e in
    eqb-true (rank_of held) 0 (and_parts (is_purge h.rank) (rank_of held == 0) c).1

lsp-key : (row : LspCase) (w : Whose) (opened p2p place : ℕ) (held : Option Cell) (h : Heard) → is_calm_row row ≡ true → lsp_case w held h ≡ row → SameKey held (lsp_row row opened p2p place held h)
lsp-key lsp.Outbid w opened p2p place held h calm is = key-refl held
lsp-key lsp.PurgedOwn w opened p2p place held h calm is = absurd (true-false (sym calm))
lsp-key lsp.AckPurge w opened p2p place held h calm is = record { rank = sym (ack-rank w held h is); content = λ live. absurd (no-live live) }
lsp-key lsp.Confused w opened p2p place held h calm is = absurd (true-false (sym calm))
lsp-key lsp.Stored w opened p2p place held h calm is = absurd (true-false (sym calm))
lsp-key lsp.Same w opened p2p place None h calm is = key-refl None
lsp-key lsp.Same w opened p2p place (Some cell) h calm is = record { rank = refl; content = λ _. refl }
lsp-key lsp.Older w opened p2p place None h calm is = key-refl None
lsp-key lsp.Older w opened p2p place (Some cell) h calm is = record { rank = refl; content = λ _. refl }

hear-kept : (b : Book) (place : ℕ) (w : Whose) (h : Heard) → is_calm_row (met b w h) ≡ true → AreKept b (hear_lsp b place w h)
unfolding hear_lsp
hear-kept b place w h calm = set-kept b h.id _ (lsp-key (met b w h) w b.opened b.p2p place (cell_at b h.id) h calm refl)

heard-book : (scene : Scene) (state : LevelState) (place : ℕ) (w : Whose) (h : Heard) (row : LspCase) → is_calm_row row ≡ true → (lsp_taken scene state place w h row).book ≡ hear_lsp state.book place w h
heard-book scene state place w h lsp.Outbid calm = absurd (true-false (sym calm))
heard-book scene state place w h lsp.PurgedOwn calm = absurd (true-false (sym calm))
heard-book scene state place w h lsp.AckPurge calm = refl
heard-book scene state place w h lsp.Confused calm = absurd (true-false (sym calm))
heard-book scene state place w h lsp.Stored calm = absurd (true-false (sym calm))
heard-book scene state place w h lsp.Same calm = refl
heard-book scene state place w h lsp.Older calm = refl

lsp-kept : (scene : Scene) (state : LevelState) (place : ℕ) (w : Whose) (h : Heard) → is_calm_row (met state.book w h) ≡ true → AreKept state.book (take_lsp scene state place w h).book
unfolding take_lsp
lsp-kept scene state place w h calm = subst (AreKept state.book) (sym (heard-book scene state place w h (met state.book w h) calm)) (hear-kept state.book place w h calm)

-- ---- both levels

record Kept (r t : Router) : Type 0 where
  pub one : AreKept (book_of r level.One) (book_of t level.One)
  pub two : AreKept (book_of r level.Two) (book_of t level.Two)

book-refl : (b : Book) → AreKept b b
book-refl b = λ id. key-refl (cell_at b id)

both-refl : (r : Router) → Kept r r
both-refl r = record { one = book-refl (book_of r level.One); two = book-refl (book_of r level.Two) }

both-trans : (a b c : Router) → Kept a b → Kept b c → Kept a c
both-trans a b c p q = record {
  one = kept-trans (book_of a level.One) (book_of b level.One) (book_of c level.One) p.one q.one;
  two = kept-trans (book_of a level.Two) (book_of b level.Two) (book_of c level.Two) p.two q.two;
}

level-kept : (r : Router) (l : Level) (s : LevelState) → AreKept (book_of r l) s.book → Kept r (with_level r l s)
level-kept r level.One s e = record { one = e; two = book-refl (book_of r level.Two) }
level-kept r level.Two s e = record { one = book-refl (book_of r level.One); two = e }

marked-alike : (place : ℕ) (c : Cell) → Alike c (marked c place)
marked-alike place c = pick-alike (nat_lt 0 c.rank) c _ c (record { rank = refl; content = refl }) (alike-refl c)

close-kept : (b : Book) (place : ℕ) → AreKept b (close b place)
unfolding close
close-kept b place = each-kept _ (λ id c. record { rank = refl; content = refl }) b.cells

open-kept : (b : Book) (place : ℕ) → AreKept b (open_up b place)
unfolding open_up
open-kept b place = each-kept _ (λ id c. pick-alike (has b.p2p place) c (marked c place) c (marked-alike place c) (alike-refl c)) b.cells

pick-kept : (t : Bool) (a b c : Book) → AreKept a b → AreKept a c → AreKept a (if t then b else c)
pick-kept true a b c p q = p
pick-kept false a b c p q = q

pub set_open-kept : (b : Book) (place : ℕ) (up : Bool) → AreKept b (set_open b place up)
set_open-kept b place true = pick-kept (has b.opened place) b b (open_up b place) (book-refl b) (open-kept b place)
set_open-kept b place false = pick-kept (has b.opened place) b (close b place) b (close-kept b place) (book-refl b)

follow-circuit : (anew : Bool) (b : Book) (place : ℕ) (up : Bool) → AreKept b (follow_circuit anew b place up)
follow-circuit true b place up = kept-trans b (close b place) (set_open (close b place) place up) (close-kept b place) (set_open-kept (close b place) place up)
follow-circuit false b place up = set_open-kept b place up

follow-kept : (r : Router) (anew : Bool) (place : ℕ) (c : Circuit) → Kept r (follow r anew place c)
follow-kept r anew place c = record {
  one = follow-circuit anew (book_of r level.One) place (is_open c level.One);
  two = follow-circuit anew (book_of r level.Two) place (is_open c level.Two);
}

-- ---- a pull

either : (P : Sending → Type 0) (b : Bool) (x y : Sending) → P x → P y → P (if b then x else y)
either P true x y p q = p
either P false x y p q = q

hello-kept : (s : Sending) (place : ℕ) (c : Circuit) → Kept s.router (pull_hello s place c).router
unfolding pull_hello
hello-kept s place c = either (λ u. Kept s.router u.router) (c.hello == 0) _ s (record { one = book-refl (book_of s.router level.One); two = book-refl (book_of s.router level.Two) }) (both-refl s.router)

csnp-kept : (s : Sending) (place : ℕ) (l : Level) (c : Circuit) → Kept s.router (pull_csnp s place l c).router
unfolding pull_csnp
csnp-kept s place l c = either (λ u. Kept s.router u.router) (is_csnp_due s.router.config place c l) _ s (record { one = book-refl (book_of s.router level.One); two = book-refl (book_of s.router level.Two) }) (both-refl s.router)

sent-kept : (b : Book) (place : ℕ) → AreKept b (sent b place)
unfolding sent
sent-kept b place = each-kept _ (λ id c. pick-alike (srm_due place c) c _ c (pick-alike (has b.p2p place) c _ _ (record { rank = refl; content = refl }) (record { rank = refl; content = refl })) (alike-refl c)) b.cells

answered-kept : (b : Book) (place : ℕ) → AreKept b (answered b place)
unfolding answered
answered-kept b place = each-kept _ (λ id c. record { rank = refl; content = refl }) b.cells

lsps-kept : (s : Sending) (place : ℕ) (l : Level) → Kept s.router (pull_lsps s place l).router
unfolding pull_lsps
lsps-kept s place level.One = record { one = sent-kept (book_of s.router level.One) place; two = book-refl (book_of s.router level.Two) }
lsps-kept s place level.Two = record { one = book-refl (book_of s.router level.One); two = sent-kept (book_of s.router level.Two) place }

psnp-kept : (s : Sending) (place : ℕ) (l : Level) (c : Circuit) → Kept s.router (pull_psnp s place l c).router
unfolding pull_psnp
psnp-kept s place level.One c = either (λ u. Kept s.router u.router) (nat_lt 0 (length (owed place (book_of s.router level.One))) && (at c.levels level.One).psnp == 0) _ s (record { one = answered-kept (book_of s.router level.One) place; two = book-refl (book_of s.router level.Two) }) (both-refl s.router)
psnp-kept s place level.Two c = either (λ u. Kept s.router u.router) (nat_lt 0 (length (owed place (book_of s.router level.Two))) && (at c.levels level.Two).psnp == 0) _ s (record { one = book-refl (book_of s.router level.One); two = answered-kept (book_of s.router level.Two) place }) (both-refl s.router)

at-kept : (s : Sending) (place : ℕ) (f : Circuit → Sending) → ((c : Circuit) → Kept s.router (f c).router) → Kept s.router (at_circuit s place f).router
at-kept s place f h = of (nth s.router.circuits place)
  where
    of : (o : Option Circuit) → Kept s.router (on_circuit o s f).router
    of None = both-refl s.router
    of (Some c) = h c

pull_level-kept : (s : Sending) (place : ℕ) (l : Level) → Kept s.router (pull_level s place l).router
unfolding pull_level
pull_level-kept s place l =
    let csnp = at_circuit s place (pull_csnp s place l) in
    let lsps = pull_lsps csnp place l in
    let psnp = at_circuit lsps place (pull_psnp lsps place l) in
    either (λ u. Kept s.router u.router) (has (book_of s.router l).opened place) psnp s
    (both-trans s.router csnp.router psnp.router (at-kept s place (pull_csnp s place l) (csnp-kept s place l))
    (both-trans csnp.router lsps.router psnp.router (lsps-kept csnp place l) (at-kept lsps place (pull_psnp lsps place l) (psnp-kept lsps place l))))
    (both-refl s.router)

pull-kept : (r : Router) (place : ℕ) → Kept r (pull r place).router
unfolding pull
pull-kept r place =
    let start : Sending = record { router = r; out = [] } in
    let hello = at_circuit start place (pull_hello start place) in
    let one = pull_level hello place level.One in
    both-trans r hello.router (pull_level one place level.Two).router (at-kept start place (pull_hello start place) (hello-kept start place))
    (both-trans hello.router one.router (pull_level one place level.Two).router (pull_level-kept hello place level.One) (pull_level-kept one place level.Two))

-- ---- a datagram

point-kept : (r : Router) (place : ℕ) (c : Circuit) (h : Hello) (o : Option Handshake) → Kept r (greeted r place c h o)
unfolding take_point
point-kept r place c h None = both-refl r
point-kept r place c h (Some shake) =
    let common = common_of r.config h in
    let new = point_circuit c common h shake in
    let f = follow-kept (with_circuit r place new) (not (is_same c.point.neighbour common h shake.extended)) place new in
    record { one = f.one; two = f.two }

lan-kept : (r : Router) (place : ℕ) (c : Circuit) (l : Level) (h : Hello) → Kept r (take_lan r place c l h)
unfolding take_lan
lan-kept r place c l h =
    let new = lan_circuit c l (alone l (common_of r.config h)) h in
    let f = follow-kept (with_circuit r place new) false place new in
    record { one = f.one; two = f.two }

taken-kept : (given : Given) (r : Router) (place : ℕ) (c : Circuit) (m : Message) → IsCalmMessage r m → Kept r (taken given r place c m).router
taken-kept given r place c (Refused cause) calm = both-refl r
taken-kept given r place c (PointHelloHeard h) calm = point-kept r place c h h.handshake
taken-kept given r place c (LanHelloHeard l h) calm = lan-kept r place c l h
taken-kept given r place c (LspHeard l from h) calm =
    let state = level_of r l in
    let w = whose_of r.config.system state h.id in
    level-kept r l (take_lsp (scene_of given r l) state place w h) (lsp-kept (scene_of given r l) state place w h calm)
taken-kept given r place c (SnpHeard l from source range entries) calm =
    level-kept r l (take_snp (scene_of given r l) (level_of r l) r.config.system place range entries) (snp-kept (scene_of given r l) (level_of r l) r.config.system place range entries calm)

drop-kept : (given : Given) (r : Router) (place : ℕ) (c : Circuit) (m : Message) (o : Option DropName) → IsCalmMessage r m → Kept r (take_or_drop given r place c m o).router
drop-kept given r place c m (Some cause) calm = record { one = book-refl (book_of r level.One); two = book-refl (book_of r level.Two) }
drop-kept given r place c m None calm = let t = taken-kept given r place c m calm in record { one = t.one; two = t.two }

take-kept : (given : Given) (r : Router) (place : ℕ) (m : Message) (o : Option Circuit) → IsCalmMessage r m → Kept r (take given r place m o).router
take-kept given r place m None calm = both-refl r
take-kept given r place m (Some c) calm = drop-kept given r place c m (drop_of r place c m) calm

metric-kept : (r : Router) (place metric : ℕ) (o : Option Circuit) → Kept r (with_metric r place metric o)
metric-kept r place metric None = both-refl r
metric-kept r place metric (Some c) = record { one = book-refl (book_of r level.One); two = book-refl (book_of r level.Two) }

step-kept : (given : Given) (r : Router) (event : Event) → IsCalm r event → Kept r (step given r event).router
unfolding step
step-kept given r Second calm = absurd calm
step-kept given r (Take place m) calm = take-kept given r place m (nth r.circuits place) calm
step-kept given r (Pull place) calm = let p = pull-kept r place in record { one = p.one; two = p.two }
step-kept given r (Metric place metric) calm = let p = metric-kept r place metric (nth r.circuits place) in record { one = p.one; two = p.two }
step-kept given r (Overload on) calm = record { one = book-refl (book_of r level.One); two = book-refl (book_of r level.Two) }
step-kept given r (Prefix prefix metric) calm = absurd calm

pub calm-kept : (given : Given) (r : Router) (event : Event) → IsCalm r event → (l : Level) → AreKept (book_of r l) (book_of (step given r event).router l)
calm-kept given r event calm level.One = (step-kept given r event calm).one
calm-kept given r event calm level.Two = (step-kept given r event calm).two
