-- What the parts of a step do to a level, as ways.
use Rattle.std.proofs.Common.{◌≡◌, ℕ, ◌/◌, Bool, true, is_some, ◌+◌, ◌*◌, ◌≤◌, ◌==◌, false, not, ◌&&◌, ◌||◌, nat_lt, List, [], ◌∷◌, Option, Some, None, if◌then◌else◌, refl, ap, subst, arith, ◌<◌, ◌^◌}
use Rattle.std.proofs.lemmas.Bool.Decides.{nat_tests}
use Rattle.std.specs.List.{AllByRecursion}
use Rattle.isis_base.specs.declared.level.Level.{Level}
use Rattle.model_router.specs.declared.whose.Whose.{Whose}
use Rattle.model_router.specs.Ranks.{number_of, is_purge, is_live, purge_rank}
use Rattle.model_router.specs.Cells.{Cell, flagged, Heard, kept, purged, purge_of}
use Rattle.model_router.specs.Books.{cell_at, rank_of, rank_at, is_full}
use Rattle.model_router.specs.Maps.{find, erase}
use Rattle.model_router.specs.LspTable.{hear_lsp, is_issued, is_newer, differs}
use Rattle.model_router.specs.SnpTable.{SnpEntry, hear_entry}
use Rattle.model_router.specs.Routers.{Contents, Issued, LevelState, Router}
use Rattle.model_router.specs.Givens.{Given}
use Rattle.model_router.specs.OwnLsps.{Next, Wait, Number, Exhaust, is_due, is_held, issue_cell, install, retire, retire_held, do_next, look, look_all, withdraw_one, withdraw_all, renew, outbid, last_number}
use Rattle.model_router.specs.Takes.{Scene, answer_of, last_purge, lsp_taken, take_lsp, held_purge, entry_taken, take_entry, take_entries, take_range, take_snp, whose_of}
use Rattle.model_router.specs.Ageing.{age_one, age_all, age}
use Rattle.model_router.specs.Deeds.{Hearing, Content, IsMadeOf, OfHeld, OfNew, IsNew, Issues, content_of, with_this, Way, Still, Then, Hear, Let, Entry, Range, Install, Retire, Age, Own}
use Rattle.model_router.specs.Good.{IsGoodCell, IsGoodBook, IsGoodLsp}
use Rattle.model_router.specs.declared.whose.Whose.TheVariants as whose
use Rattle.model_router.proofs.BookLemmas.{choose, test}
use Rattle.model_router.proofs.FloodLemmas.{each-row, each-snp}
use Rattle.model_router.proofs.GoodCells.{purged-good, issue-good, below-last, number-last, last-good, held-good, held-bounded}

purge-dead : (number : ℕ) → is_live (purge_rank number) ≡ false
purge-dead number = grind (arith, nat_tests)

-- a live rank is below its purge's
live-below : (rank : ℕ) → is_live rank ≡ true → rank < purge_rank (number_of rank)
live-below rank live = grind (arith, nat_tests, live)

retire_held-way : (heard : Hearing) (s : LevelState) (id : ℕ) (held : Option Cell) → cell_at s.book id ≡ held → Way heard s (retire_held s id held)
retire_held-way heard s id None e = Own s (erase s.own id)
retire_held-way heard s id (Some c) e =
    choose (λ t. Way heard s t) (is_live c.rank) (retire s id (purged c)) (record s { own = erase s.own id })
    (λ live. Retire s id (purged c) (let r : rank_at s.book id ≡ c.rank = ap rank_of e in let k = live-below c.rank live in omega (arith, r, k)) (purge-dead (number_of c.rank)) (λ sane. OfHeld c e live refl) (λ sane good. purged-good id c s.book.opened (let r : 0 < c.rank = grind (arith, nat_tests, live) in r) (rw e at (good.at id))))
    (λ _. Own s (erase s.own id))

pub outbid-way : (heard : Hearing) (given : Given) (r : Router) (level : Level) → Issues heard given r level → (s : LevelState) (id above : ℕ) (contents : Contents) (last : Cell) → rank_at s.book id ≤ 2 * above + 1 → rank_at s.book id < last.rank → is_live last.rank ≡ false → heard.mine id contents → (heard.sane → IsMadeOf heard s id last)
    → (heard.sane → IsGoodBook s.book → (id < 2 ^ 64) × (above ≤ last_number) × IsGoodCell (flagged last s.book.opened 0)) → Way heard s (outbid given r level s id above contents last)
unfolding outbid
outbid-way heard given r level issues s id above contents last h k dead mine made fits =
    choose (λ t. Way heard s t) (above == last_number) (retire s id last) (install s id contents (issue_cell given r level id (above + 1) contents))
    (λ _. Retire s id last k dead made (λ sane good. let f = fits sane good in (f.0, f.2)))
    (λ n. Install s id contents _ (omega (arith, h)) (issues.source id (above + 1) contents mine)
    (λ sane good. let f = fits sane good in (f.0, issue-good given r level id above contents s.book.opened (issues.good sane) (below-last above n f.1))))

-- ---- an LSP

differing : (c : Cell) (h : Heard) → nat_lt c.rank h.rank ≡ false → (is_newer (Some c) h.rank || differs (Some c) h.rank h.checksum) ≡ true → is_live c.rank ≡ true
differing c h f t = grind (arith, nat_tests, f, t)

-- an own LSP that is outbid at the last number is purged at a greater rank than the one held
last-above : (held : Option Cell) (h : Heard) → (is_newer held h.rank || differs held h.rank h.checksum) ≡ true → rank_of held < (last_purge held h).rank
last-above None h t = omega arith
last-above (Some c) h t = choose (λ (d : Cell). c.rank < d.rank) (nat_lt c.rank h.rank) (purge_of (number_of h.rank) h.flags h.octets) (purged c)
    (λ lt. let k : c.rank < h.rank = grind (arith, nat_tests, lt) in omega (arith, k)) (λ f. live-below c.rank (differing c h f t))

held-above : (held : Option Cell) (rank : ℕ) → rank_of held ≡ rank → is_live rank ≡ true → rank_of held < (held_purge held).rank
held-above None rank e live = omega arith
held-above (Some c) rank e live = live-below c.rank (rw e live)

live-of : (rank : ℕ) → 0 < rank → is_purge rank ≡ false → is_live rank ≡ true
live-of rank some e = grind (arith, nat_tests, some, e)

-- the purge of a purge that is heard is what is kept of it
new-purge : (heard : Hearing) (h : Heard) → is_purge h.rank ≡ true → heard.source h.id h.rank (content_of (kept h)) → heard.source h.id (purge_rank (number_of h.rank)) (content_of (purge_of (number_of h.rank) h.flags h.octets))
new-purge heard h dead src =
    let same : purge_rank (number_of h.rank) ≡ h.rank = grind (arith, nat_tests, dead) in
    rw same (subst (λ (c : Content). heard.source h.id h.rank c) (rw dead refl) src)

new-live : (h : Heard) → is_purge h.rank ≡ false → purge_of (number_of h.rank) h.flags h.octets ≡ purged (kept h)
new-live h alive = rw alive refl

-- the purge at the last number is made of what is held, or of what is heard
last-made : (heard : Hearing) (s : LevelState) (h : Heard) → heard.source h.id h.rank (content_of (kept h)) → IsGoodLsp h → (is_newer (cell_at s.book h.id) h.rank || differs (cell_at s.book h.id) h.rank h.checksum) ≡ true → IsMadeOf heard s h.id (last_purge (cell_at s.book h.id) h)
last-made heard s h src good t = by-held (cell_at s.book h.id) refl t
  where
    of-new : IsMadeOf heard s h.id (purge_of (number_of h.rank) h.flags h.octets)
    of-new = test (λ (purge : Bool). is_purge h.rank ≡ purge → IsMadeOf heard s h.id (purge_of (number_of h.rank) h.flags h.octets)) (is_purge h.rank)
        (λ _ dead. IsNew (new-purge heard h dead src))
        (λ _ alive. OfNew (kept h) src (live-of h.rank (let p = good.some in omega (arith, p)) alive) (new-live h alive)) refl

    by-held : (held : Option Cell) → cell_at s.book h.id ≡ held → (is_newer held h.rank || differs held h.rank h.checksum) ≡ true → IsMadeOf heard s h.id (last_purge held h)
    by-held None e t = of-new
    by-held (Some c) e t = choose (λ (d : Cell). IsMadeOf heard s h.id d) (nat_lt c.rank h.rank) (purge_of (number_of h.rank) h.flags h.octets) (purged c)
        (λ _. of-new) (λ f. OfHeld c e (differing c h f t) refl)

held-made : (heard : Hearing) (s : LevelState) (id rank : ℕ) → rank_of (cell_at s.book id) ≡ rank → is_live rank ≡ true → IsMadeOf heard s id (held_purge (cell_at s.book id))
held-made heard s id rank e live = by-held (cell_at s.book id) refl e
  where
    by-held : (held : Option Cell) → cell_at s.book id ≡ held → rank_of held ≡ rank → IsMadeOf heard s id (held_purge held)
    by-held None k e = absurd (grind (arith, nat_tests, e, live))
    by-held (Some c) k e = OfHeld c k (rw e live) refl

last-dead : (held : Option Cell) (h : Heard) → is_live (last_purge held h).rank ≡ false
last-dead None h = purge-dead (number_of h.rank)
last-dead (Some c) h = choose (λ (d : Cell). is_live d.rank ≡ false) (nat_lt c.rank h.rank) (purge_of (number_of h.rank) h.flags h.octets) (purged c) (λ _. purge-dead (number_of h.rank)) (λ _. purge-dead (number_of c.rank))

held-dead : (held : Option Cell) → is_live (held_purge held).rank ≡ false
held-dead None = purge-dead 0
held-dead (Some c) = purge-dead (number_of c.rank)

pub take_lsp-way : (heard : Hearing) (scene : Scene) → Issues heard scene.given scene.router scene.level → (s : LevelState) (place : ℕ) (w : Whose) (h : Heard) → h.rank ≤ heard.rank place h.id → heard.names place h.id → heard.source h.id h.rank (content_of (kept h)) → (heard.sane → IsGoodLsp h) → (is_issued w ≡ true → heard.mine h.id (answer_of scene h.id)) → Way heard s (take_lsp scene s place w h)
unfolding take_lsp
take_lsp-way heard scene issues s place w h k named src fits mine =
    let plain : Way heard s (record s { book = hear_lsp s.book place w h }) = Hear s place w h k named src fits in
    each-row (λ row. Way heard s (lsp_taken scene s place w h row)) w (cell_at s.book h.id) h
    (λ own e t. outbid-way heard scene.given scene.router scene.level issues s h.id (number_of h.rank) _ (last_purge (cell_at s.book h.id) h) (omega (arith, e)) (last-above (cell_at s.book h.id) h t) (last-dead (cell_at s.book h.id) h) (mine own) (λ sane. last-made heard s h src (fits sane) t)
    (λ sane good. let f = fits sane in (f.id, number-last h.rank f.bounded, last-good (cell_at s.book h.id) h s.book.opened e f (good.at h.id))))
    (λ _ _. plain)
    (λ _ _. Then s (with_this s (hear_lsp s.book place w h)) _ plain (Let (with_this s (hear_lsp s.book place w h)) h.id))
    (λ _ _. plain)
    (λ _. plain)
    (λ _. plain)
    (λ _. plain)

-- ---- an SNP

-- an LSP ID that counts as issued is one's own
pub issued-own : (system : ℕ) (s : LevelState) (id : ℕ) → is_issued (whose_of system s id) ≡ true → id / 65536 ≡ system
issued-own system s id e = by-test (id / 65536 == system) refl e
  where
    by-test : (t : Bool) → (id / 65536 == system) ≡ t → is_issued (if not t then whose.Other else (if is_some (find s.own id) then whose.Issued else whose.Unissued)) ≡ true → id / 65536 ≡ system
    by-test true y k = grind (arith, nat_tests)
    by-test false y k = absurd (cc)

take_entry-way : (heard : Hearing) (scene : Scene) → Issues heard scene.given scene.router scene.level → (s : LevelState) (system place : ℕ) (h : SnpEntry) → h.rank ≤ heard.rank place h.id → heard.names place h.id → (heard.sane → h.id < 2 ^ 64) → ((id : ℕ) → id / 65536 ≡ system → heard.mine id (answer_of scene id)) → Way heard s (take_entry scene s system place h)
unfolding take_entry
take_entry-way heard scene issues s system place h k named fits mine =
    let w = whose_of system s h.id in
    let plain : Way heard s (record s { book = hear_entry s.book place w h }) = Entry s place w h k named fits in
    each-snp (λ row. Way heard s (entry_taken scene s place w h row)) w (cell_at s.book h.id) h
    plain
    (λ own e live. outbid-way heard scene.given scene.router scene.level issues s h.id (number_of h.rank) _ (held_purge (cell_at s.book h.id)) (omega (arith, e)) (held-above (cell_at s.book h.id) h.rank e live) (held-dead (cell_at s.book h.id)) (mine h.id (issued-own system s h.id own)) (λ sane. held-made heard s h.id h.rank e live)
    (λ sane good. held-good h.id (cell_at s.book h.id) h.rank s.book.opened e live (good.at h.id)))
    (λ _ _. plain)
    (λ _. plain)
    (λ _. plain)
    (λ _. plain)
    plain
    plain

take_entries-way : (heard : Hearing) (scene : Scene) → Issues heard scene.given scene.router scene.level → (s : LevelState) (system place : ℕ) (entries : List SnpEntry) → AllByRecursion (λ (h : SnpEntry). h.rank ≤ heard.rank place h.id) entries → AllByRecursion (λ (h : SnpEntry). heard.names place h.id) entries → (heard.sane → AllByRecursion (λ (h : SnpEntry). h.id < 2 ^ 64) entries) → ((id : ℕ) → id / 65536 ≡ system → heard.mine id (answer_of scene id)) → Way heard s (take_entries scene s system place entries)
take_entries-way heard scene issues s system place [] all named fits mine = Still s
take_entries-way heard scene issues s system place (h ∷ entries) all named fits mine =
    Then s _ _ (take_entry-way heard scene issues s system place h all.0 named.0 (λ sane. (fits sane).0) mine) (take_entries-way heard scene issues (take_entry scene s system place h) system place entries all.1 named.1 (λ sane. (fits sane).1) mine)

take_range-way : (heard : Hearing) (s : LevelState) (place : ℕ) (range : Option (ℕ × ℕ)) (entries : List SnpEntry) → Way heard s (take_range s place range entries)
take_range-way heard s place None entries = Still s
take_range-way heard s place (Some range) entries = Range s place range.0 range.1 entries

pub take_snp-way : (heard : Hearing) (scene : Scene) → Issues heard scene.given scene.router scene.level → (s : LevelState) (system place : ℕ) (range : Option (ℕ × ℕ)) (entries : List SnpEntry) → AllByRecursion (λ (h : SnpEntry). h.rank ≤ heard.rank place h.id) entries → AllByRecursion (λ (h : SnpEntry). heard.names place h.id) entries → (heard.sane → AllByRecursion (λ (h : SnpEntry). h.id < 2 ^ 64) entries) → ((id : ℕ) → id / 65536 ≡ system → heard.mine id (answer_of scene id)) → Way heard s (take_snp scene s system place range entries)
unfolding take_snp
take_snp-way heard scene issues s system place range entries all named fits mine =
    Then s _ _ (take_entries-way heard scene issues s system place entries all named fits mine) (take_range-way heard _ place range entries)

-- ---- a second of the entries

age_all-way : (heard : Hearing) (s : LevelState) (cells : List (ℕ × Cell)) → Way heard s (age_all s cells)
age_all-way heard s [] = Still s
age_all-way heard s (pair ∷ cells) = Then s _ _ (Age s pair.0) (age_all-way heard (age_one s pair.0) cells)

pub age-way : (heard : Hearing) (s : LevelState) → Way heard s (age s)
unfolding age
age-way heard s = age_all-way heard s s.book.cells

-- ---- own LSPs are followed

look-way : (heard : Hearing) (given : Given) (r : Router) (level : Level) → Issues heard given r level → (s : LevelState) (want : ℕ × Contents) → (heard.sane → want.0 < 2 ^ 64) → heard.mine want.0 want.1 → Way heard s (look given r level s want)
unfolding look
look-way heard given r level issues s want fits mine =
    let held = cell_at s.book want.0 in
    let P : Next → Type 0 = λ n. Way heard s (do_next given r level want.0 want.1 s n) in
    choose P (not (is_due (find s.own want.0) want.1)) Wait _ (λ _. Still s) (λ _.
    choose P (number_of (rank_of held) == last_number) Exhaust _
    (λ _. retire_held-way heard s want.0 held refl) (λ last.
    choose P (is_full s.book && not (is_held held)) Wait (Number (number_of (rank_of held) + 1)) (λ _. Still s)
    (λ _. Install s want.0 want.1 _ (omega arith) (issues.source want.0 (number_of (rank_of held) + 1) want.1 mine)
    (λ sane good. (fits sane, issue-good given r level want.0 (number_of (rank_of held)) want.1 s.book.opened (issues.good sane) (below-last (number_of (rank_of held)) last (number-last (rank_of held) (held-bounded want.0 held (good.at want.0)))))))))

look_all-way : (heard : Hearing) (given : Given) (r : Router) (level : Level) → Issues heard given r level → (s : LevelState) (wants : List (ℕ × Contents)) → (heard.sane → AllByRecursion (λ (w : ℕ × Contents). w.0 < 2 ^ 64) wants) → AllByRecursion (λ (w : ℕ × Contents). heard.mine w.0 w.1) wants → Way heard s (look_all given r level s wants)
look_all-way heard given r level issues s [] fits mine = Still s
look_all-way heard given r level issues s (want ∷ wants) fits mine = Then s _ _ (look-way heard given r level issues s want (λ sane. (fits sane).0) mine.0) (look_all-way heard given r level issues (look given r level s want) wants (λ sane. (fits sane).1) mine.1)

withdraw_one-way : (heard : Hearing) (s : LevelState) (id : ℕ) (want : Option Contents) → Way heard s (withdraw_one s id want)
withdraw_one-way heard s id (Some _) = Still s
withdraw_one-way heard s id None = retire_held-way heard s id (cell_at s.book id) refl

withdraw_all-way : (heard : Hearing) (s : LevelState) (wants : List (ℕ × Contents)) (own : List (ℕ × Issued)) → Way heard s (withdraw_all s wants own)
withdraw_all-way heard s wants [] = Still s
withdraw_all-way heard s wants (pair ∷ own) = Then s _ _ (withdraw_one-way heard s pair.0 (find wants pair.0)) (withdraw_all-way heard (withdraw_one s pair.0 (find wants pair.0)) wants own)

pub renew-way : (heard : Hearing) (given : Given) (r : Router) (level : Level) → Issues heard given r level → (s : LevelState) (wants : List (ℕ × Contents)) → (heard.sane → AllByRecursion (λ (w : ℕ × Contents). w.0 < 2 ^ 64) wants) → AllByRecursion (λ (w : ℕ × Contents). heard.mine w.0 w.1) wants → Way heard s (renew given r level s wants)
renew-way heard given r level issues s wants fits mine = let after = look_all given r level s wants in Then s after _ (look_all-way heard given r level issues s wants fits mine) (withdraw_all-way heard after wants after.own)

-- where every LSP ID is one's own, so are those that are wanted
pub all-mine : (wants : List (ℕ × Contents)) → AllByRecursion (λ (w : ℕ × Contents). Unit {0}) wants
all-mine [] = tt
all-mine (w ∷ wants) = (tt, all-mine wants)
