-- An SNP that lists an LSP ID as new frees its flag.
use Rattle.std.proofs.Common.{◌≡◌, ℕ, ◌≤◌, ◌==◌, eqb, nat_lt, Bool, true, false, not, ◌&&◌, ◌||◌, List, [], ◌∷◌, inl, inr, Option, Some, None, if◌then◌else◌, refl, sym, ap, ◌∙◌, subst, arith}
use Rattle.std.specs.Option.{option_map}
use Rattle.std.proofs.lemmas.Bool.Decides.{nat_tests}
use Rattle.model_router.specs.declared.whose.Whose.{Whose}
use Rattle.model_router.specs.declared.snp_case.SnpCase.{SnpCase}
use Rattle.model_router.specs.declared.snp_case.SnpCase.TheVariants.{Nothing, Outbid, Confused, Same, Older, Newer, Asked, Unasked}
use Rattle.model_router.specs.Sets.{has, without}
use Rattle.model_router.specs.Cells.{Cell, srm_on, ssn_on}
use Rattle.model_router.specs.Books.{Book, cell_at, rank_of, srm_of, srm_at, is_full, set_cell}
use Rattle.model_router.specs.LspTable.{is_issued, differs}
use Rattle.model_router.specs.SnpTable.{SnpEntry, snp_case, snp_row, freed, asked, hear_entry, lists, is_missed, hear_range}
use Rattle.model_router.specs.Routers.{LevelState, Contents}
use Rattle.model_router.specs.OwnLsps.{install, retire, outbid, last_number}
use Rattle.model_router.specs.Takes.{Scene, whose_of, entry_taken, take_entry, take_entries, take_snp, held_purge}
use Rattle.model_router.specs.Good.{IsGood, IsGoodBook}
use Rattle.model_router.specs.SweepLaws.{ListsOnce, Frees}
use Rattle.model_router.proofs.MapLemmas.{find-each}
use Rattle.model_router.proofs.SetLemmas.{has-without, has-none}
use Rattle.model_router.proofs.BookLemmas.{choose, same-or, cell_at-set_cell, p2p-set_cell}
use Rattle.model_router.proofs.FloodLemmas.{each-snp}

-- ---- what an entry leaves of other LSP IDs

other-set : (b : Book) (id : ℕ) (c : Option Cell) (q : ℕ) → eqb id q ≡ false → cell_at (set_cell b id c) q ≡ cell_at b q
other-set b id c q e = cell_at-set_cell b id c q ∙ ap (λ (t : Bool). if t then c else cell_at b q) e

hear-other : (b : Book) (place : ℕ) (w : Whose) (h : SnpEntry) (q : ℕ) → eqb h.id q ≡ false → cell_at (hear_entry b place w h) q ≡ cell_at b q
unfolding hear_entry
hear-other b place w h q e = other-set b h.id _ q e

outbid-other : (scene : Scene) (s : LevelState) (id above : ℕ) (contents : Contents) (last : Cell) (q : ℕ) → eqb id q ≡ false → cell_at (outbid scene.given scene.router scene.level s id above contents last).book q ≡ cell_at s.book q
unfolding outbid install retire
outbid-other scene s id above contents last q e = choose (λ (t : LevelState). cell_at t.book q ≡ cell_at s.book q) (above == last_number) _ _ (λ _. other-set s.book id _ q e) (λ _. other-set s.book id _ q e)

take-other : (scene : Scene) (s : LevelState) (system place : ℕ) (h : SnpEntry) (q : ℕ) → eqb h.id q ≡ false → cell_at (take_entry scene s system place h).book q ≡ cell_at s.book q
unfolding take_entry
take-other scene s system place h q e =
    let w = whose_of system s h.id in
    let plain = hear-other s.book place w h q e in
    each-snp (λ row. cell_at (entry_taken scene s place w h row).book q ≡ cell_at s.book q) w (cell_at s.book h.id) h plain (λ _ _ _. outbid-other scene s h.id _ _ (held_purge (cell_at s.book h.id)) q e) (λ _ _. plain) (λ _. plain) (λ _. plain) (λ _. plain) plain plain

entries-other : (scene : Scene) (s : LevelState) (system place : ℕ) (entries : List SnpEntry) (q : ℕ) → lists entries q ≡ false → cell_at (take_entries scene s system place entries).book q ≡ cell_at s.book q
entries-other scene s system place [] q e = refl
entries-other scene s system place (h ∷ entries) q e =
    let parts = neither (eqb h.id q) (lists entries q) e in
    entries-other scene (take_entry scene s system place h) system place entries q parts.1 ∙ take-other scene s system place h q parts.0
  where
    neither : (a b : Bool) → (a || b) ≡ false → (a ≡ false) × (b ≡ false)
    neither true b e = absurd (cc)
    neither false b e = (refl, e)

-- ---- the entry itself

-- the rows that an entry meets which frees
each-free : (P : SnpCase → Type 0) (w : Whose) (held : Option Cell) (h : SnpEntry) → rank_of held ≤ h.rank → differs held h.rank h.checksum ≡ false
    → (rank_of held ≡ 0 → P Nothing) → P Same → P Newer → (rank_of held ≡ 0 → P Asked) → (rank_of held ≡ 0 → P Unasked) → P (snp_case w held h)
unfolding snp_case
each-free P w held h le d a b c e f =
    choose P (h.rank == 0 && rank_of held == 0) Nothing _ (λ t. a (grind (arith, nat_tests, t))) (λ _.
    choose P (differs held h.rank h.checksum && is_issued w) Outbid _ (λ t. absurd (no-and (differs held h.rank h.checksum) (is_issued w) d t)) (λ _.
    choose P (differs held h.rank h.checksum) Confused _ (λ t. absurd (cc)) (λ _.
    choose P (rank_of held == h.rank) Same _ (λ _. b) (λ _.
    choose P (nat_lt h.rank (rank_of held)) Older _ (λ t. absurd (grind (arith, nat_tests, t, le))) (λ _.
    choose P (nat_lt 0 (rank_of held)) Newer _ (λ _. c) (λ n.
    choose P (nat_lt 0 h.lifetime && nat_lt 0 h.checksum) Asked Unasked (λ _. e (grind (arith, nat_tests, n))) (λ _. f (grind (arith, nat_tests, n)))))))))
  where
    no-and : (a b : Bool) → a ≡ false → (a && b) ≡ true → ⊥
    no-and true b e t = cc
    no-and false b e t = cc

silent-at : (id : ℕ) (held : Option Cell) (place : ℕ) → IsGood id held → rank_of held ≡ 0 → srm_of held place ≡ false
silent-at id None place g z = refl
silent-at id (Some c) place g z = g.1.silent z place

freed-off : (p2p place : ℕ) (held : Option Cell) → has p2p place ≡ true → srm_of (option_map (freed p2p place) held) place ≡ false
freed-off p2p place None k = refl
freed-off p2p place (Some c) k = choose (λ (n : ℕ). has n place ≡ false) (has p2p place) (without c.srm place) c.srm
    (λ _. has-without c.srm place place ∙ same-or (λ (t : Bool). (not t && has c.srm place) ≡ false) place place (λ _. refl) (λ n. absurd (n refl)))
    (λ n. absurd (cc))

asked-off : (full : Bool) (place q : ℕ) (held : Option Cell) → srm_of held q ≡ false → srm_of (asked full place held) q ≡ false
asked-off full place q (Some c) e = e
asked-off true place q None e = refl
asked-off false place q None e = has-none q

noted-off : (p2p place : ℕ) (held : Option Cell) → has p2p place ≡ true → srm_of (option_map (λ (c : Cell). ssn_on (freed p2p place c) place) held) place ≡ false
noted-off p2p place None k = refl
noted-off p2p place (Some c) k = freed-off p2p place (Some c) k

row-off : (b : Book) (place : ℕ) (w : Whose) (h : SnpEntry) → has b.p2p place ≡ true → IsGood h.id (cell_at b h.id) → Frees b h → srm_of (snp_row (snp_case w (cell_at b h.id) h) (is_full b) b.opened b.p2p place (cell_at b h.id)) place ≡ false
row-off b place w h k good f =
    let held = cell_at b h.id in
    each-free (λ row. srm_of (snp_row row (is_full b) b.opened b.p2p place held) place ≡ false) w held h f.0 f.1
    (λ z. silent-at h.id held place good z)
    (freed-off b.p2p place held k)
    (noted-off b.p2p place held k)
    (λ z. asked-off (is_full b) place place held (silent-at h.id held place good z))
    (λ z. silent-at h.id held place good z)

pub hear-off : (b : Book) (place : ℕ) (w : Whose) (h : SnpEntry) → has b.p2p place ≡ true → IsGood h.id (cell_at b h.id) → Frees b h → srm_at (hear_entry b place w h) h.id place ≡ false
unfolding hear_entry
hear-off b place w h k good f =
    ap (λ (o : Option Cell). srm_of o place) (cell_at-set_cell b h.id _ h.id ∙ same-or (λ (t : Bool). (if t then snp_row (snp_case w (cell_at b h.id) h) (is_full b) b.opened b.p2p place (cell_at b h.id) else cell_at b h.id) ≡ snp_row (snp_case w (cell_at b h.id) h) (is_full b) b.opened b.p2p place (cell_at b h.id)) h.id h.id (λ _. refl) (λ n. absurd (n refl)))
    ∙ row-off b place w h k good f

take-off : (scene : Scene) (s : LevelState) (system place : ℕ) (h : SnpEntry) → has s.book.p2p place ≡ true → IsGood h.id (cell_at s.book h.id) → Frees s.book h → srm_at (take_entry scene s system place h).book h.id place ≡ false
unfolding take_entry
take-off scene s system place h k good f =
    let w = whose_of system s h.id in
    let off = hear-off s.book place w h k good f in
    each-free (λ row. srm_at (entry_taken scene s place w h row).book h.id place ≡ false) w (cell_at s.book h.id) h f.0 f.1 (λ _. off) off off (λ _. off) (λ _. off)

-- ---- all entries, and the range

kinds-set : (b : Book) (place : ℕ) (w : Whose) (h : SnpEntry) → (hear_entry b place w h).p2p ≡ b.p2p
unfolding hear_entry
kinds-set b place w h = p2p-set_cell b h.id _

kinds-outbid : (scene : Scene) (s : LevelState) (id above : ℕ) (contents : Contents) (last : Cell) → (outbid scene.given scene.router scene.level s id above contents last).book.p2p ≡ s.book.p2p
unfolding outbid install retire
kinds-outbid scene s id above contents last = choose (λ (t : LevelState). t.book.p2p ≡ s.book.p2p) (above == last_number) _ _ (λ _. p2p-set_cell s.book id _) (λ _. p2p-set_cell s.book id _)

take-kinds : (scene : Scene) (s : LevelState) (system place : ℕ) (h : SnpEntry) → (take_entry scene s system place h).book.p2p ≡ s.book.p2p
unfolding take_entry
take-kinds scene s system place h =
    let w = whose_of system s h.id in
    let plain = kinds-set s.book place w h in
    each-snp (λ row. (entry_taken scene s place w h row).book.p2p ≡ s.book.p2p) w (cell_at s.book h.id) h plain (λ _ _ _. kinds-outbid scene s h.id _ _ (held_purge (cell_at s.book h.id))) (λ _ _. plain) (λ _. plain) (λ _. plain) (λ _. plain) plain plain

entries-off : (scene : Scene) (s : LevelState) (system place : ℕ) (entries : List SnpEntry) (h : SnpEntry) → has s.book.p2p place ≡ true → IsGood h.id (cell_at s.book h.id) → ListsOnce entries h → Frees s.book h → srm_at (take_entries scene s system place entries).book h.id place ≡ false
entries-off scene s system place [] h k good once f = absurd once
entries-off scene s system place (e ∷ entries) h k good (inl found) f =
    let next = take_entry scene s system place e in
    let good' : IsGood e.id (cell_at s.book e.id) = subst (λ (x : SnpEntry). IsGood x.id (cell_at s.book x.id)) (sym found.0) good in
    let free : Frees s.book e = subst (Frees s.book) (sym found.0) f in
    let off : srm_at next.book h.id place ≡ false = subst (λ (x : SnpEntry). srm_at next.book x.id place ≡ false) found.0 (take-off scene s system place e k good' free) in
    ap (λ (o : Option Cell). srm_of o place) (entries-other scene next system place entries h.id found.1) ∙ off
entries-off scene s system place (e ∷ entries) h k good (inr later) f =
    let next = take_entry scene s system place e in
    let same : cell_at s.book h.id ≡ cell_at next.book h.id = sym (take-other scene s system place e h.id later.0) in
    entries-off scene next system place entries h
    (ap (λ (n : ℕ). has n place) (take-kinds scene s system place e) ∙ k)
    (subst (IsGood h.id) same good)
    later.1
    (subst (λ (o : Option Cell). rank_of o ≤ h.rank) same f.0, subst (λ (o : Option Cell). differs o h.rank h.checksum ≡ false) same f.1)

once-listed : (entries : List SnpEntry) (h : SnpEntry) → ListsOnce entries h → lists entries h.id ≡ true
once-listed [] h once = absurd once
once-listed (e ∷ entries) h (inl found) = subst (λ (n : ℕ). (eqb n h.id || lists entries h.id) ≡ true) (sym (ap (λ (x : SnpEntry). x.id) found.0)) (same-or (λ (t : Bool). (t || lists entries h.id) ≡ true) h.id h.id (λ _. refl) (λ n. absurd (n refl)))
once-listed (e ∷ entries) h (inr later) = or-true (eqb e.id h.id) (lists entries h.id) (once-listed entries h later.1)
  where
    or-true : (a b : Bool) → b ≡ true → (a || b) ≡ true
    or-true true b e = refl
    or-true false b e = e

range-off : (b : Book) (place start end : ℕ) (entries : List SnpEntry) (id : ℕ) → lists entries id ≡ true → srm_at b id place ≡ false → srm_at (hear_range b place start end entries) id place ≡ false
unfolding hear_range
range-off b place start end entries id listed off = ap (λ (o : Option Cell). srm_of o place) (find-each _ b.cells id) ∙ unmissed (cell_at b id) off
  where
    unmissed : (c : Option Cell) → srm_of c place ≡ false → srm_of (option_map (λ (d : Cell). if is_missed start end entries id d then srm_on d place else d) c) place ≡ false
    unmissed None e = refl
    unmissed (Some c) e = choose (λ (d : Cell). has d.srm place ≡ false) (is_missed start end entries id c) (srm_on c place) c (λ m. absurd (no-miss m)) (λ _. e)
      where
        no-miss : is_missed start end entries id c ≡ true → ⊥
        no-miss m = grind (arith, nat_tests, m, listed)

pub snp-frees : (scene : Scene) (s : LevelState) (system place : ℕ) (range : Option (ℕ × ℕ)) (entries : List SnpEntry) (h : SnpEntry) → has s.book.p2p place ≡ true → IsGoodBook s.book → ListsOnce entries h → Frees s.book h → srm_at (take_snp scene s system place range entries).book h.id place ≡ false
unfolding take_snp
snp-frees scene s system place None entries h k good once f = entries-off scene s system place entries h k (good.at h.id) once f
snp-frees scene s system place (Some range) entries h k good once f =
    let t = take_entries scene s system place entries in
    range-off t.book place range.0 range.1 entries h.id (once-listed entries h once) (entries-off scene s system place entries h k (good.at h.id) once f)
