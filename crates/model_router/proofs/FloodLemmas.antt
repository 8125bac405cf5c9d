-- The rows of both tables, with what each knows, and what they do for flooding.
use Rattle.std.proofs.Common.{◌≡◌, ℕ, ◌<◌, ◌≤◌, ◌==◌, Bool, true, false, not, ◌&&◌, ◌||◌, nat_lt, ◌⊎◌, inl, inr, ⊎_elim, Option, Some, None, if◌then◌else◌, refl, ◌∙◌, subst, arith, zero-le, le_refl, le_trans, lt_of_lt_of_le, List}
use Rattle.std.proofs.lemmas.Bool.Decides.{nat_tests}
use Rattle.std.proofs.lemmas.Bool.{cases_lt}
use Rattle.std.specs.Option.{option_map}
use Rattle.model_router.specs.Ranks.{number_of, is_purge, is_live}
use Rattle.model_router.specs.Sets.{has, with_one, without}
use Rattle.model_router.specs.Cells.{Cell, Heard, kept, purged, purge_of, flagged, srm_on}
use Rattle.model_router.specs.Books.{Book, cell_at, rank_of, rank_at, is_full, set_cell}
use Rattle.model_router.specs.Flooding.{Floods, CellCovers, CellFloods}
use Rattle.model_router.specs.LspTable.{is_issued, is_unissued, is_newer, differs, lsp_case, lsp_row, ssn_stored, hear_lsp}
use Rattle.model_router.specs.Maps.{find, each}
use Rattle.model_router.specs.SnpTable.{SnpEntry, snp_case, snp_row, asked, hear_entry, is_missed, hear_range}
use Rattle.model_router.specs.declared.whose.Whose.{Whose}
use Rattle.model_router.specs.declared.lsp_case.LspCase.{LspCase}
use Rattle.model_router.specs.declared.lsp_case.LspCase.TheVariants.{Outbid, PurgedOwn, AckPurge, Confused, Stored, Same, Older}
use Rattle.model_router.proofs.MapLemmas.{find-each}
use Rattle.model_router.specs.declared.snp_case.SnpCase.{SnpCase}
use Rattle.model_router.specs.declared.snp_case.SnpCase.TheVariants as snp
use Rattle.model_router.specs.declared.snp_case.SnpCase.TheVariants.{Nothing, Newer, Asked, Unasked}
use Rattle.model_router.proofs.BookLemmas.{choose, same-or, cells-after, opened-set_cell, p2p-set_cell}
use Rattle.model_router.proofs.SetLemmas.{has-with_one, has-without}

-- nothing changes
pub same-cell : (opened p2p : ℕ) (heard : ℕ → ℕ) (c : Option Cell) → CellFloods opened p2p heard c c
same-cell opened p2p heard c = record { rank = le_refl _; covers = λ q o k h. h; rises = λ q o k h. absurd (omega arith) }

-- a newer rank, and the flag on all open circuits
pub flooded-cell : (opened p2p : ℕ) (heard : ℕ → ℕ) (old : Option Cell) (c : Cell) (ssn : ℕ) → rank_of old ≤ c.rank → CellFloods opened p2p heard old (Some (flagged c opened ssn))
flooded-cell opened p2p heard old c ssn h = record { rank = h; covers = λ q o k x. inl o; rises = λ q o k x. inl o }

-- one cell's change is the book's
pub set-floods : (heard : ℕ → ℕ → ℕ) (gone : ℕ → Bool) (b : Book) (id : ℕ) (c : Option Cell) → CellFloods b.opened b.p2p (λ (q : ℕ). heard q id) (cell_at b id) c → Floods heard gone b (set_cell b id c)
set-floods heard gone b id c h = record {
  kinds = p2p-set_cell b id c;
  rank = λ x g. cells-after (λ y cell. rank_at b y ≤ rank_of cell) b id c h.rank (λ y. le_refl _) x;
  covers = λ x q old o k.
      let o' : has b.opened q ≡ true = subst (λ (n : ℕ). has n q ≡ true) (opened-set_cell b id c) o in
      let k' : has b.p2p q ≡ true = subst (λ (n : ℕ). has n q ≡ true) (p2p-set_cell b id c) k in
      cells-after (λ y cell. CellCovers (heard q y) (cell_at b y) q → CellCovers (heard q y) cell q) b id c (h.covers q o' k') (λ y i. i) x (old o' k');
  rises = λ x q up o k.
      let o' : has b.opened q ≡ true = subst (λ (n : ℕ). has n q ≡ true) (opened-set_cell b id c) o in
      let k' : has b.p2p q ≡ true = subst (λ (n : ℕ). has n q ≡ true) (p2p-set_cell b id c) k in
      cells-after (λ y cell. rank_at b y < rank_of cell → CellCovers (heard q y) cell q) b id c (h.rises q o' k') (λ y i. absurd (omega (arith, i))) x up;
}

-- the flag stands on each circuit but one, where the rank was heard
pub covers-but : (srm rank : ℕ) (heard : ℕ → ℕ) (place q : ℕ) → rank ≤ heard place → has srm q ≡ true → (has (without srm place) q ≡ true) ⊎ (rank ≤ heard q)
covers-but srm rank heard place q h s =
    rw (has-without srm place q, s) (same-or (λ (t : Bool). ((not t && true) ≡ true) ⊎ (rank ≤ heard q)) place q (λ e. inr (subst (λ (n : ℕ). rank ≤ heard n) e h)) (λ e. inl refl))

-- a flag that is set on one circuit leaves the others
pub covers-more : (srm place q : ℕ) → has srm q ≡ true → has (with_one srm place) q ≡ true
covers-more srm place q s = rw (has-with_one srm place q, s) (same-or (λ (t : Bool). (t || true) ≡ true) place q (λ e. refl) (λ e. refl))

pub stored-cell : (opened p2p : ℕ) (heard : ℕ → ℕ) (place ssn : ℕ) (old : Option Cell) (c : Cell) → rank_of old ≤ c.rank → c.rank ≤ heard place → CellFloods opened p2p heard old (Some (flagged c (without opened place) ssn))
stored-cell opened p2p heard place ssn old c h k = record {
  rank = h;
  covers = λ q o _ x. covers-but opened c.rank heard place q k o;
  rises = λ q o _ x. covers-but opened c.rank heard place q k o;
}

-- SRM is clear on one circuit, where the rank was heard; SSN may be anything
pub freed-cell : (opened p2p : ℕ) (heard : ℕ → ℕ) (place : ℕ) (old : Cell) (new : Cell) → new.rank ≡ old.rank → new.srm ≡ without old.srm place → old.rank ≤ heard place → CellFloods opened p2p heard (Some old) (Some new)
freed-cell opened p2p heard place old new e s k = record {
  rank = omega arith;
  covers = λ q o _ x. rw (e, s) (⊎_elim (λ f. covers-but old.srm old.rank heard place q k f) (λ l. inr l) x);
  rises = λ q o _ x. absurd (omega arith);
}

-- SRM is set on one circuit more
pub raised-cell : (opened p2p : ℕ) (heard : ℕ → ℕ) (place : ℕ) (old : Cell) (new : Cell) → new.rank ≡ old.rank → new.srm ≡ with_one old.srm place → CellFloods opened p2p heard (Some old) (Some new)
raised-cell opened p2p heard place old new e s = record {
  rank = omega arith;
  covers = λ q o _ x. rw (e, s) (⊎_elim (λ f. inl (covers-more old.srm place q f)) (λ l. inr l) x);
  rises = λ q o _ x. absurd (omega arith);
}

-- neither the rank nor SRM changes
pub level-cell : (opened p2p : ℕ) (heard : ℕ → ℕ) (old : Cell) (new : Cell) → new.rank ≡ old.rank → new.srm ≡ old.srm → CellFloods opened p2p heard (Some old) (Some new)
level-cell opened p2p heard old new e s = record {
  rank = omega arith;
  covers = λ q o _ x. rw (e, s) x;
  rises = λ q o _ x. absurd (omega arith);
}

-- a change of what is held, where anything is
pub if-held : (opened p2p : ℕ) (heard : ℕ → ℕ) (f : Cell → Cell) (old : Option Cell) → ((c : Cell) → old ≡ Some c → CellFloods opened p2p heard (Some c) (Some (f c))) → CellFloods opened p2p heard old (option_map f old)
if-held opened p2p heard f None h = same-cell opened p2p heard None
if-held opened p2p heard f (Some c) h = h c refl

-- an own LSP that is purged, an unknown purge that is answered, and so on
pub ack-cell : (opened p2p : ℕ) (heard : ℕ → ℕ) (old : Option Cell) → rank_of old ≡ 0 → CellFloods opened p2p heard old None
ack-cell opened p2p heard old e = record { rank = omega arith; covers = λ q o _ x. inr zero-le; rises = λ q o _ x. absurd (omega arith) }

row-newer : (held : Option Cell) (rank : ℕ) (a b : Bool) → (a && is_newer held rank && b) ≡ true → rank_of held < rank
row-newer held rank a b e = grind (arith, nat_tests)

row-live : (held : Option Cell) (rank checksum : ℕ) → differs held rank checksum ≡ true → is_live rank ≡ true
row-live held rank checksum e = grind (arith, nat_tests)

row-differs : (held : Option Cell) (rank checksum : ℕ) → differs held rank checksum ≡ true → rank_of held ≡ rank
row-differs held rank checksum e = grind (arith, nat_tests)

row-outbid : (held : Option Cell) (rank checksum : ℕ) (a : Bool) → (a && (is_newer held rank || differs held rank checksum)) ≡ true → rank_of held ≤ rank
row-outbid held rank checksum a e = grind (arith, nat_tests)

first-true : (a b : Bool) → (a && b) ≡ true → a ≡ true
first-true true b e = refl
first-true false b e = e

second-true : (a b : Bool) → (a && b) ≡ true → b ≡ true
second-true true b e = e
second-true false b e = absurd (cc)

row-lives : (held : Option Cell) (rank : ℕ) (a : Bool) → (a && is_newer held rank && is_live rank) ≡ true → is_live rank ≡ true
row-lives held rank true e = second-true (is_newer held rank) (is_live rank) e
row-lives held rank false e = absurd (cc)

row-older : (held : Option Cell) (rank : ℕ) → is_newer held rank ≡ false → (rank_of held == rank) ≡ false → rank < rank_of held
row-older held rank n m = grind (arith, nat_tests, n, m)

-- a property of the row that is met, row by row
pub each-row : (P : LspCase → Type 0) (w : Whose) (held : Option Cell) (h : Heard) → (is_issued w ≡ true → rank_of held ≤ h.rank → (is_newer held h.rank || differs held h.rank h.checksum) ≡ true → P Outbid) → (rank_of held < h.rank → is_live h.rank ≡ true → P PurgedOwn) → (rank_of held ≡ 0 → is_purge h.rank ≡ true → P AckPurge) → (rank_of held ≡ h.rank → is_live h.rank ≡ true → P Confused) → (rank_of held < h.rank → P Stored) → (rank_of held ≡ h.rank → P Same) → (h.rank < rank_of held → P Older) → P (lsp_case w held h)
unfolding lsp_case
each-row P w held h a b c d e f g =
    choose P (is_issued w && (is_newer held h.rank || differs held h.rank h.checksum)) Outbid _ (λ t. a (first-true (is_issued w) _ t) (row-outbid held h.rank h.checksum (is_issued w) t) (second-true (is_issued w) _ t)) (λ _.
    choose P (is_unissued w && is_newer held h.rank && is_live h.rank) PurgedOwn _ (λ t. b (row-newer held h.rank (is_unissued w) (is_live h.rank) t) (row-lives held h.rank (is_unissued w) t)) (λ _.
    choose P (is_purge h.rank && rank_of held == 0) AckPurge _ (λ t. c (grind (arith, nat_tests)) (first-true (is_purge h.rank) _ t)) (λ _.
    choose P (differs held h.rank h.checksum) Confused _ (λ t. d (row-differs held h.rank h.checksum t) (row-live held h.rank h.checksum t)) (λ _.
    choose P (is_newer held h.rank) Stored _ (λ t. e (grind (arith, nat_tests))) (λ n.
    choose P (rank_of held == h.rank) Same Older (λ t. f (grind (arith, nat_tests))) (λ m. g (row-older held h.rank n m)))))))

pub row-floods : (opened p2p : ℕ) (heard : ℕ → ℕ) (place : ℕ) (w : Whose) (held : Option Cell) (h : Heard) → h.rank ≤ heard place → CellFloods opened p2p heard held (lsp_row (lsp_case w held h) opened p2p place held h)
row-floods opened p2p heard place w held h k = each-row (λ row. CellFloods opened p2p heard held (lsp_row row opened p2p place held h)) w held h
    (λ _ _ _. same-cell opened p2p heard held)
    (λ newer _. flooded-cell opened p2p heard held (purge_of (number_of h.rank) h.flags h.octets) 0 (omega (arith, newer)))
    (λ none _. ack-cell opened p2p heard held none)
    (λ same _. if-held opened p2p heard _ held (λ c e. flooded-cell opened p2p heard (Some c) (purged c) 0 (omega arith)))
    (λ newer. stored-cell opened p2p heard place (ssn_stored p2p place held) held (kept h) (omega (arith, newer)) k)
    (λ same. if-held opened p2p heard _ held (λ c e. freed-cell opened p2p heard place c _ refl refl (let r : c.rank ≡ h.rank = subst (λ (o : Option Cell). rank_of o ≡ h.rank) e same in omega (arith, r, k))))
    (λ _. if-held opened p2p heard _ held (λ c e. raised-cell opened p2p heard place c _ refl refl))

-- one of two
pub either : {A : Type 0} (t : Bool) (x y : A) → ((if t then x else y) ≡ x) ⊎ ((if t then x else y) ≡ y)
either true x y = inl refl
either false x y = inr refl

pub maybe-freed : (opened p2p : ℕ) (heard : ℕ → ℕ) (place : ℕ) (old : Cell) (new : Cell) → new.rank ≡ old.rank → ((new.srm ≡ without old.srm place) ⊎ (new.srm ≡ old.srm)) → old.rank ≤ heard place → CellFloods opened p2p heard (Some old) (Some new)
maybe-freed opened p2p heard place old new e s k = ⊎_elim (λ w. freed-cell opened p2p heard place old new e w k) (λ w. level-cell opened p2p heard old new e w) s

pub asked-cell : (opened p2p : ℕ) (heard : ℕ → ℕ) (full : Bool) (place : ℕ) (held : Option Cell) → CellFloods opened p2p heard held (asked full place held)
asked-cell opened p2p heard full place (Some c) = level-cell opened p2p heard c _ refl refl
asked-cell opened p2p heard true place None = same-cell opened p2p heard None
asked-cell opened p2p heard false place None = record { rank = le_refl _; covers = λ q o _ x. inr zero-le; rises = λ q o _ x. absurd (omega arith) }

and-first : (a b : Bool) → (a && b) ≡ true → a ≡ true
and-first true b e = refl
and-first false b e = e

pub each-snp : (P : SnpCase → Type 0) (w : Whose) (held : Option Cell) (h : SnpEntry) → P Nothing → (is_issued w ≡ true → rank_of held ≡ h.rank → is_live h.rank ≡ true → P snp.Outbid) → (rank_of held ≡ h.rank → is_live h.rank ≡ true → P snp.Confused) → (rank_of held ≡ h.rank → P snp.Same) → (h.rank < rank_of held → P snp.Older) → (rank_of held ≤ h.rank → P Newer) → P Asked → P Unasked → P (snp_case w held h)
unfolding snp_case
each-snp P w held h a b c d e f g i =
    choose P (h.rank == 0 && rank_of held == 0) Nothing _ (λ _. a) (λ _.
    choose P (differs held h.rank h.checksum && is_issued w) snp.Outbid _ (λ t. b (second-true _ (is_issued w) t) (row-differs held h.rank h.checksum (and-first _ (is_issued w) t)) (row-live held h.rank h.checksum (and-first _ (is_issued w) t))) (λ _.
    choose P (differs held h.rank h.checksum) snp.Confused _ (λ t. c (row-differs held h.rank h.checksum t) (row-live held h.rank h.checksum t)) (λ _.
    choose P (rank_of held == h.rank) snp.Same _ (λ t. d (grind (arith, nat_tests))) (λ _.
    choose P (nat_lt h.rank (rank_of held)) snp.Older _ (λ t. e (grind (arith, nat_tests, t))) (λ t.
    choose P (nat_lt 0 (rank_of held)) Newer _ (λ _. f (grind (arith, nat_tests))) (λ _.
    choose P (nat_lt 0 h.lifetime && nat_lt 0 h.checksum) Asked Unasked (λ _. g) (λ _. i)))))))

pub entry-row-floods : (opened p2p : ℕ) (heard : ℕ → ℕ) (full : Bool) (place : ℕ) (w : Whose) (held : Option Cell) (h : SnpEntry) → h.rank ≤ heard place → CellFloods opened p2p heard held (snp_row (snp_case w held h) full opened p2p place held)
entry-row-floods opened p2p heard full place w held h k = each-snp (λ row. CellFloods opened p2p heard held (snp_row row full opened p2p place held)) w held h
    (same-cell opened p2p heard held)
    (λ _ _ _. same-cell opened p2p heard held)
    (λ same _. if-held opened p2p heard _ held (λ c e. flooded-cell opened p2p heard (Some c) (purged c) 0 (omega arith)))
    (λ same. if-held opened p2p heard _ held (λ c e. maybe-freed opened p2p heard place c _ refl (either (has p2p place) _ _) (let r : c.rank ≡ h.rank = subst (λ (o : Option Cell). rank_of o ≡ h.rank) e same in omega (arith, r, k))))
    (λ _. if-held opened p2p heard _ held (λ c e. raised-cell opened p2p heard place c _ refl refl))
    (λ newer. if-held opened p2p heard _ held (λ c e. maybe-freed opened p2p heard place c _ refl (either (has p2p place) _ _) (let r : c.rank ≤ h.rank = subst (λ (o : Option Cell). rank_of o ≤ h.rank) e newer in omega (arith, r, k))))
    (asked-cell opened p2p heard full place held)
    (same-cell opened p2p heard held)

pub entry-floods : (heard : ℕ → ℕ → ℕ) (gone : ℕ → Bool) (b : Book) (place : ℕ) (w : Whose) (h : SnpEntry) → h.rank ≤ heard place h.id → Floods heard gone b (hear_entry b place w h)
unfolding hear_entry
entry-floods heard gone b place w h k = set-floods heard gone b h.id _ (entry-row-floods b.opened b.p2p (λ (q : ℕ). heard q h.id) (is_full b) place w (cell_at b h.id) h k)

-- each cell is changed by itself
pub each-floods : (heard : ℕ → ℕ → ℕ) (gone : ℕ → Bool) (b : Book) (f : ℕ → Cell → Cell) → ((id : ℕ) (c : Cell) → CellFloods b.opened b.p2p (λ (q : ℕ). heard q id) (Some c) (Some (f id c))) → Floods heard gone b (record b { cells = each f b.cells })
each-floods heard gone b f h =
    let at : (id : ℕ) → CellFloods b.opened b.p2p (λ (q : ℕ). heard q id) (cell_at b id) (find (each f b.cells) id) =
    λ id. rw (find-each f b.cells id) (if-held b.opened b.p2p (λ (q : ℕ). heard q id) (f id) (cell_at b id) (λ c e. h id c)) in
    record {
      kinds = refl;
      rank = λ id g. (at id).rank;
      covers = λ id q old o k. (at id).covers q o k (old o k);
      rises = λ id q up o k. (at id).rises q o k up;
    }

pub range-floods : (heard : ℕ → ℕ → ℕ) (gone : ℕ → Bool) (b : Book) (place start end : ℕ) (entries : List SnpEntry) → Floods heard gone b (hear_range b place start end entries)
unfolding hear_range
range-floods heard gone b place start end entries = each-floods heard gone b _ (λ id c.
    choose (λ (d : Cell). CellFloods b.opened b.p2p (λ (q : ℕ). heard q id) (Some c) (Some d)) (is_missed start end entries id c) (srm_on c place) c
    (λ _. raised-cell b.opened b.p2p (λ (q : ℕ). heard q id) place c _ refl refl)
    (λ _. same-cell b.opened b.p2p (λ (q : ℕ). heard q id) (Some c)))

pub floods-refl : (heard : ℕ → ℕ → ℕ) (gone : ℕ → Bool) (b : Book) → Floods heard gone b b
floods-refl heard gone b = record { kinds = refl; rank = λ id g. le_refl _; covers = λ id q x. x; rises = λ id q up. absurd (omega arith) }

pub floods-trans : (heard : ℕ → ℕ → ℕ) (gone : ℕ → Bool) (a b c : Book) → Floods heard gone a b → Floods heard gone b c → Floods heard gone a c
floods-trans heard gone a b c f g = record {
  kinds = g.kinds ∙ f.kinds;
  rank = λ id x. le_trans (f.rank id x) (g.rank id x);
  covers = λ id q old. g.covers id q (f.covers id q old);
  rises = λ id q up. ⊎_elim (λ later. g.rises id q later) (λ still. g.covers id q (f.rises id q (lt_of_lt_of_le up still))) (cases_lt (rank_at b id) (rank_at c id));
}

pub lsp-floods : (heard : ℕ → ℕ → ℕ) (gone : ℕ → Bool) (b : Book) (place : ℕ) (w : Whose) (h : Heard) → h.rank ≤ heard place h.id → Floods heard gone b (hear_lsp b place w h)
unfolding hear_lsp
lsp-floods heard gone b place w h k = set-floods heard gone b h.id _ (row-floods b.opened b.p2p (λ (q : ℕ). heard q h.id) place w (cell_at b h.id) h k)
