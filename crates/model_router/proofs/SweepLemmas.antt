-- What follows where an SNP is taken and sets no flag.
use Rattle.std.proofs.Common.{◌≡◌, ℕ, ◌<◌, ◌≤◌, ◌==◌, eqb, nat_lt, nat_le, Bool, true, false, not, ◌&&◌, ◌||◌, List, [], ◌∷◌, inl, inr, Option, Some, None, refl, sym, ap, ◌∙◌, subst, arith}
use Rattle.std.specs.Option.{option_map}
use Rattle.std.proofs.lemmas.Bool.Decides.{nat_tests}
use Rattle.model_router.specs.declared.whose.Whose.{Whose}
use Rattle.model_router.specs.declared.snp_case.SnpCase.{SnpCase}
use Rattle.model_router.specs.declared.snp_case.SnpCase.TheVariants.{Nothing, Outbid, Confused, Same, Older, Newer, Asked, Unasked}
use Rattle.model_router.specs.Ranks.{is_live}
use Rattle.model_router.specs.Cells.{Cell}
use Rattle.model_router.specs.Books.{Book, cell_at, rank_of, rank_at, is_full, checksum_of}
use Rattle.model_router.specs.LspTable.{is_issued, differs}
use Rattle.model_router.specs.SnpTable.{SnpEntry, snp_case, snp_row, freed, hear_entry, lists, sets_flag}
use Rattle.model_router.specs.Routers.{LevelState}
use Rattle.model_router.specs.Takes.{Scene, whose_of, entry_taken, take_entry}
use Rattle.model_router.specs.SweepLaws.{AreClean, IsRangeClean, ListsKey, IsListed, AreHeldLive}
use Rattle.model_router.proofs.BookLemmas.{choose, test, cells-after}

-- ---- one entry that sets no flag

-- the rows that set none, with what is known there
each-clean : (P : SnpCase → Type 0) (w : Whose) (held : Option Cell) (h : SnpEntry) → sets_flag (snp_case w held h) ≡ false
    → (h.rank ≡ 0 → rank_of held ≡ 0 → P Nothing) → (rank_of held ≡ h.rank → differs held h.rank h.checksum ≡ false → P Same) → (rank_of held ≡ 0 → (nat_lt 0 h.lifetime && nat_lt 0 h.checksum) ≡ false → P Unasked) → P (snp_case w held h)
unfolding snp_case
each-clean P w held h clean a b c =
    let Q : SnpCase → Type 0 = λ row. sets_flag row ≡ false → P row in
    choose Q (h.rank == 0 && rank_of held == 0) Nothing _ (λ t _. a (grind (arith, nat_tests)) (grind (arith, nat_tests))) (λ _.
    choose Q (differs held h.rank h.checksum && is_issued w) Outbid _ (λ _ e. absurd (cc)) (λ _.
    choose Q (differs held h.rank h.checksum) Confused _ (λ _ e. absurd (cc)) (λ d.
    choose Q (rank_of held == h.rank) Same _ (λ t _. b (grind (arith, nat_tests)) d) (λ _.
    choose Q (nat_lt h.rank (rank_of held)) Older _ (λ _ e. absurd (cc)) (λ _.
    choose Q (nat_lt 0 (rank_of held)) Newer _ (λ _ e. absurd (cc)) (λ n.
    choose Q (nat_lt 0 h.lifetime && nat_lt 0 h.checksum) Asked Unasked (λ _ e. absurd (cc)) (λ t _. c (grind (arith, nat_tests)) t))))))) clean

-- what is listed live is held so
entry-held : (w : Whose) (held : Option Cell) (h : SnpEntry) → sets_flag (snp_case w held h) ≡ false → is_live h.rank ≡ true → 0 < h.lifetime → 0 < h.checksum → (rank_of held ≡ h.rank) × (checksum_of held ≡ h.checksum)
entry-held w held h clean live left sum =
    each-clean (λ row. (rank_of held ≡ h.rank) × (checksum_of held ≡ h.checksum)) w held h clean
    (λ z _. absurd (grind (arith, nat_tests, z, live)))
    (λ same d. (same, sums held h same d live))
    (λ _ t. absurd (grind (arith, nat_tests, t, left, sum)))
  where
    sums : (held : Option Cell) (h : SnpEntry) → rank_of held ≡ h.rank → differs held h.rank h.checksum ≡ false → is_live h.rank ≡ true → checksum_of held ≡ h.checksum
    sums held h same d live = grind (arith, nat_tests, same, d, live)

-- what is held live is snp_entry so, where it is listed
held-entry : (w : Whose) (held : Option Cell) (h : SnpEntry) → sets_flag (snp_case w held h) ≡ false → is_live (rank_of held) ≡ true → (h.rank ≡ rank_of held) × (h.checksum ≡ checksum_of held)
held-entry w held h clean live =
    each-clean (λ row. (h.rank ≡ rank_of held) × (h.checksum ≡ checksum_of held)) w held h clean
    (λ _ z. absurd (grind (arith, nat_tests, z, live)))
    (λ same d. (sym same, sums held h same d live))
    (λ z _. absurd (grind (arith, nat_tests, z, live)))
  where
    sums : (held : Option Cell) (h : SnpEntry) → rank_of held ≡ h.rank → differs held h.rank h.checksum ≡ false → is_live (rank_of held) ≡ true → h.checksum ≡ checksum_of held
    sums held h same d live = grind (arith, nat_tests, same, d, live)

-- ---- it leaves keys and checksums

abbrev Keys : Option Cell → Option Cell → Type 0
Keys old new = (rank_of new ≡ rank_of old) × (checksum_of new ≡ checksum_of old)

freed-keys : (p2p place : ℕ) (held : Option Cell) → Keys held (option_map (freed p2p place) held)
freed-keys p2p place None = (refl, refl)
freed-keys p2p place (Some c) = (refl, refl)

hear-keys : (b : Book) (place : ℕ) (w : Whose) (h : SnpEntry) → sets_flag (snp_case w (cell_at b h.id) h) ≡ false → (id : ℕ) → Keys (cell_at b id) (cell_at (hear_entry b place w h) id)
unfolding hear_entry
hear-keys b place w h clean id =
    let held = cell_at b h.id in
    cells-after (λ y cell. Keys (cell_at b y) cell) b h.id _
    (each-clean (λ r. Keys held (snp_row r (is_full b) b.opened b.p2p place held)) w held h clean (λ _ _. (refl, refl)) (λ _ _. freed-keys b.p2p place held) (λ _ _. (refl, refl)))
    (λ y. (refl, refl)) id

clean-keys : (scene : Scene) (s : LevelState) (system place : ℕ) (h : SnpEntry) → sets_flag (snp_case (whose_of system s h.id) (cell_at s.book h.id) h) ≡ false → (id : ℕ) → Keys (cell_at s.book id) (cell_at (take_entry scene s system place h).book id)
unfolding take_entry
clean-keys scene s system place h clean id =
    let w = whose_of system s h.id in
    let held = cell_at s.book h.id in
    let row : SnpCase = snp_case w held h in
    let heard : Keys (cell_at s.book id) (cell_at (hear_entry s.book place w h) id) = hear-keys s.book place w h clean id in
    each-clean (λ r. Keys (cell_at s.book id) (cell_at (entry_taken scene s place w h r).book id)) w held h clean (λ _ _. heard) (λ _ _. heard) (λ _ _. heard)

-- ---- all entries

held-later : (a b : Book) (entries : List SnpEntry) → ((id : ℕ) → Keys (cell_at a id) (cell_at b id)) → AreHeldLive b entries → AreHeldLive a entries
held-later a b [] k all = tt
held-later a b (h ∷ entries) k all = (λ live left sum. let x = all.0 live left sum in (sym (k h.id).0 ∙ x.0, sym (k h.id).1 ∙ x.1), held-later a b entries k all.1)

pub clean-held : (scene : Scene) (s : LevelState) (system place : ℕ) (entries : List SnpEntry) → AreClean scene s system place entries → AreHeldLive s.book entries
clean-held scene s system place [] clean = tt
clean-held scene s system place (h ∷ entries) clean =
    let next = take_entry scene s system place h in (
      λ live left sum. entry-held (whose_of system s h.id) (cell_at s.book h.id) h clean.0 live left sum,
      held-later s.book next.book entries (clean-keys scene s system place h clean.0) (clean-held scene next system place entries clean.1),
    )

listed-key : (scene : Scene) (s : LevelState) (system place : ℕ) (entries : List SnpEntry) (id : ℕ) → AreClean scene s system place entries → lists entries id ≡ true → is_live (rank_at s.book id) ≡ true → ListsKey entries id (rank_at s.book id) (checksum_of (cell_at s.book id))
listed-key scene s system place [] id clean found live = absurd (cc)
listed-key scene s system place (h ∷ entries) id clean found live =
    test (λ t. eqb h.id id ≡ t → (t || lists entries id) ≡ true → ListsKey (h ∷ entries) id (rank_at s.book id) (checksum_of (cell_at s.book id))) (eqb h.id id)
    (λ _ e _. let same : h.id ≡ id = grind (arith, nat_tests) in inl (here same))
    (λ _ _ more. inr (later more (λ k. listed-key scene (take_entry scene s system place h) system place entries id clean.1 more k))) refl found
  where
    here : h.id ≡ id → (h.id ≡ id) × (h.rank ≡ rank_at s.book id) × (h.checksum ≡ checksum_of (cell_at s.book id))
    here same =
        let live' : is_live (rank_at s.book h.id) ≡ true = subst (λ (n : ℕ). is_live (rank_at s.book n) ≡ true) (sym same) live in
        let k = held-entry (whose_of system s h.id) (cell_at s.book h.id) h clean.0 live' in
        (same, subst (λ (n : ℕ). h.rank ≡ rank_at s.book n) same k.0, subst (λ (n : ℕ). h.checksum ≡ checksum_of (cell_at s.book n)) same k.1)

    later : lists entries id ≡ true → (is_live (rank_at (take_entry scene s system place h).book id) ≡ true → ListsKey entries id (rank_at (take_entry scene s system place h).book id) (checksum_of (cell_at (take_entry scene s system place h).book id))) → ListsKey entries id (rank_at s.book id) (checksum_of (cell_at s.book id))
    later more next-key =
        let next = take_entry scene s system place h in
        let k = clean-keys scene s system place h clean.0 id in
        let there = next-key (ap is_live k.0 ∙ live) in
        subst (λ (n : ℕ). ListsKey entries id n (checksum_of (cell_at s.book id))) k.0 (subst (λ (n : ℕ). ListsKey entries id (rank_at next.book id) n) k.1 there)

in-range : (alive : Bool) (start id end : ℕ) (t : Bool) → alive ≡ true → start ≤ id → id ≤ end → (alive && nat_le start id && nat_le id end && not t) ≡ false → t ≡ true
in-range alive start id end true a low high e = refl
in-range alive start id end false a low high e = absurd (grind (arith, nat_tests, a, low, high, e))

pub clean-listed : (scene : Scene) (s : LevelState) (system place start end : ℕ) (entries : List SnpEntry) → AreClean scene s system place entries → IsRangeClean s start end entries → (id : ℕ) → start ≤ id → id ≤ end → IsListed s.book entries id
clean-listed scene s system place start end entries clean range id low high live = listed-key scene s system place entries id clean (found (cell_at s.book id) refl) live
  where
    found : (held : Option Cell) → cell_at s.book id ≡ held → lists entries id ≡ true
    found None e = absurd (let none : rank_at s.book id ≡ 0 = ap rank_of e in grind (arith, nat_tests, none, live))
    found (Some c) e = let missed = range id c e in let alive : is_live c.rank ≡ true = sym (ap (λ (o : Option Cell). is_live (rank_of o)) e) ∙ live in in-range (is_live c.rank) start id end (lists entries id) alive low high missed
