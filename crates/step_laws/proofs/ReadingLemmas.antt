-- No entry of an SNP sets a flag, entry after entry, exactly where none would at the book before.
use Rattle.std.proofs.Common.{◌≡◌, ℕ, ◌==◌, nat_lt, nat_le, Bool, true, false, not, ◌&&◌, ◌||◌, List, [], ◌∷◌, Option, Some, None, if◌then◌else◌}
use Rattle.std.proofs.Common.{refl, sym, ap, ap₂, ◌∙◌, subst, arith}
use Rattle.std.specs.Option.{option_map}
use Rattle.std.specs.List.{AllByRecursion}
use Rattle.std.proofs.lemmas.Bool.Decides.{nat_tests}
use Rattle.isis_base.specs.declared.level.Level.{Level}
use Rattle.isis_base.specs.declared.level.Level.TheVariants as level
use Rattle.model_router.specs.declared.whose.Whose.{Whose}
use Rattle.model_router.specs.declared.whose.Whose.TheVariants as whose
use Rattle.model_router.specs.declared.drop_name.DropName.{DropName}
use Rattle.model_router.specs.declared.snp_case.SnpCase.{SnpCase}
use Rattle.model_router.specs.declared.snp_case.SnpCase.TheVariants.{Nothing, Outbid, Confused, Same, Older, Newer, Asked, Unasked}
use Rattle.model_router.specs.Maps.{find}
use Rattle.model_router.specs.Places.{nth}
use Rattle.model_router.specs.Ranks.{is_live}
use Rattle.model_router.specs.Cells.{Cell, srm_on}
use Rattle.model_router.specs.Books.{Book, cell_at, rank_of, rank_at, checksum_of, is_full, risen, set_cell}
use Rattle.model_router.specs.LspTable.{is_issued, differs}
use Rattle.model_router.specs.SnpTable.{SnpEntry, snp_case, snp_row, freed, hear_entry, hear_range, lists, sets_flag, is_missed}
use Rattle.model_router.specs.Routers.{Circuit, LevelState, Router, level_of, book_of, with_level}
use Rattle.model_router.specs.Givens.{Given}
use Rattle.model_router.specs.Takes.{Scene, whose_of, entry_taken, take_entry, take_entries, take_snp}
use Rattle.model_router.specs.Events.{Envelope, Message, SnpHeard, Take}
use Rattle.model_router.specs.Receiving.{scene_of, drop_of, take_or_drop}
use Rattle.model_router.specs.Receiving as receiving
use Rattle.model_router.specs.Steps.{step}
use Rattle.model_router.specs.Sorted.{IsSorted}
use Rattle.model_router.specs.SweepLaws.{AreClean, IsRangeClean}
use Rattle.model_router.proofs.MapLemmas.{find-each}
use Rattle.model_router.proofs.BookLemmas.{choose, test, same-or, cells-after}
use Rattle.model_router.proofs.RisingLemmas.{all-found}
use Rattle.model_network.specs.Takings.{would_flag, would_flag_any, misses_any, would_flag_range, is_clean}
use Rattle.step_laws.specs.Readings.{KeepsKeys, IsTakenCleanly}

-- ---- tests

or-left : (a b : Bool) → (a || b) ≡ false → a ≡ false
or-left true b e = absurd (cc)
or-left false b e = refl

or-right : (a b : Bool) → (a || b) ≡ false → b ≡ false
or-right true b e = absurd (cc)
or-right false b e = e

or-both : (a b : Bool) → a ≡ false → b ≡ false → (a || b) ≡ false
or-both true b e f = absurd (cc)
or-both false b e f = f

and-left : (a b : Bool) → (a && b) ≡ true → a ≡ true
and-left true b e = refl
and-left false b e = absurd (cc)

and-right : (a b : Bool) → (a && b) ≡ true → b ≡ true
and-right true b e = e
and-right false b e = absurd (cc)

not-false : (t : Bool) → not t ≡ true → t ≡ false
not-false true e = absurd (cc)
not-false false e = refl

-- ---- whether an entry sets a flag rests on the rank and the checksum that are held, and not on whose the LSP is

flag_at : ℕ → ℕ → SnpEntry → Bool
flag_at rank sum h =
    if h.rank == 0 && rank == 0 then false
    else (if is_live h.rank && rank == h.rank && not (sum == h.checksum) then true
    else (if rank == h.rank then false
    else (if nat_lt h.rank rank then true
    else (if nat_lt 0 rank then true
    else nat_lt 0 h.lifetime && nat_lt 0 h.checksum))))

by-tests : (a d i s o n k : Bool)
    → sets_flag (if a then Nothing else (if d && i then Outbid else (if d then Confused else (if s then Same
    else (if o then Older else (if n then Newer else (if k then Asked else Unasked)))))))
    ≡ (if a then false else (if d then true else (if s then false else (if o then true else (if n then true else k)))))
by-tests true d i s o n k = refl
by-tests false true true s o n k = refl
by-tests false true false s o n k = refl
by-tests false false i true o n k = refl
by-tests false false i false true n k = refl
by-tests false false i false false true k = refl
by-tests false false i false false false true = refl
by-tests false false i false false false false = refl

flag-at : (w : Whose) (held : Option Cell) (h : SnpEntry) → sets_flag (snp_case w held h) ≡ flag_at (rank_of held) (checksum_of held) h
unfolding snp_case flag_at
flag-at w held h =
    by-tests (h.rank == 0 && rank_of held == 0) (differs held h.rank h.checksum) (is_issued w) (rank_of held == h.rank) (nat_lt h.rank (rank_of held))
    (nat_lt 0 (rank_of held)) (nat_lt 0 h.lifetime && nat_lt 0 h.checksum)

abbrev Keys : Option Cell → Option Cell → Type 0
Keys old new = (rank_of new ≡ rank_of old) × (checksum_of new ≡ checksum_of old)

keys-sym : (a b : Option Cell) → Keys a b → Keys b a
keys-sym a b k = (sym k.0, sym k.1)

flags-same : (v w : Whose) (a b : Option Cell) (h : SnpEntry) → Keys a b → sets_flag (snp_case w b h) ≡ sets_flag (snp_case v a h)
flags-same v w a b h k = flag-at w b h ∙ ap₂ (λ (rank sum : ℕ). flag_at rank sum h) k.0 k.1 ∙ sym (flag-at v a h)

any-same : (a b : Book) (entries : List SnpEntry) → ((id : ℕ) → Keys (cell_at a id) (cell_at b id)) → would_flag_any b entries ≡ would_flag_any a entries
any-same a b [] k = refl
any-same a b (h ∷ entries) k =
    ap₂ (λ (s t : Bool). s || t) (flags-same whose.Other whose.Other (cell_at a h.id) (cell_at b h.id) h (k h.id)) (any-same a b entries k)

-- ---- one entry that sets no flag leaves keys, checksums and the count of changes

-- the rows that set no flag
each-clean : (P : SnpCase → Type 0) (w : Whose) (held : Option Cell) (h : SnpEntry) → sets_flag (snp_case w held h) ≡ false → P Nothing → P Same → P Unasked
    → P (snp_case w held h)
each-clean P w held h clean a b c = from (snp_case w held h) clean
  where
    from : (row : SnpCase) → sets_flag row ≡ false → P row
    from Nothing e = a
    from Outbid e = absurd (cc)
    from Confused e = absurd (cc)
    from Same e = b
    from Older e = absurd (cc)
    from Newer e = absurd (cc)
    from Asked e = absurd (cc)
    from Unasked e = c

record Stays (old new : Book) : Type 0 where
  changes : new.changes ≡ old.changes
  keys : (id : ℕ) → Keys (cell_at old id) (cell_at new id)

stays-refl : (b : Book) → Stays b b
stays-refl b = record { changes = refl; keys = λ id. (refl, refl) }

stays-trans : (a b c : Book) → Stays a b → Stays b c → Stays a c
stays-trans a b c f g = record { changes = g.changes ∙ f.changes; keys = λ id. ((g.keys id).0 ∙ (f.keys id).0, (g.keys id).1 ∙ (f.keys id).1) }

freed-keys : (p2p place : ℕ) (held : Option Cell) → Keys held (option_map (freed p2p place) held)
freed-keys p2p place None = (refl, refl)
freed-keys p2p place (Some c) = (refl, refl)

set-changes : (b : Book) (id : ℕ) (c : Option Cell) → rank_of c ≡ rank_at b id → (set_cell b id c).changes ≡ b.changes
unfolding set_cell
set-changes b id c e = same-or (λ t. (if t then b.changes else risen b.changes) ≡ b.changes) (rank_of c) (rank_at b id) (λ _. refl) (λ n. absurd (n e))

set-stays : (b : Book) (id : ℕ) (c : Option Cell) → Keys (cell_at b id) c → Stays b (set_cell b id c)
set-stays b id c k = record { changes = set-changes b id c k.0; keys = cells-after (λ x cell. Keys (cell_at b x) cell) b id c k (λ x. (refl, refl)) }

hear-stays : (b : Book) (place : ℕ) (w : Whose) (h : SnpEntry) → sets_flag (snp_case w (cell_at b h.id) h) ≡ false → Stays b (hear_entry b place w h)
unfolding hear_entry
hear-stays b place w h clean =
    let held = cell_at b h.id in
    set-stays b h.id _ (each-clean (λ row. Keys held (snp_row row (is_full b) b.opened b.p2p place held)) w held h clean (refl, refl)
    (freed-keys b.p2p place held) (refl, refl))

entry-stays : (scene : Scene) (s : LevelState) (system place : ℕ) (h : SnpEntry)
    → sets_flag (snp_case (whose_of system s h.id) (cell_at s.book h.id) h) ≡ false → Stays s.book (take_entry scene s system place h).book
unfolding take_entry
entry-stays scene s system place h clean =
    let w = whose_of system s h.id in
    let heard = hear-stays s.book place w h clean in
    each-clean (λ row. Stays s.book (entry_taken scene s place w h row).book) w (cell_at s.book h.id) h clean heard heard heard

entries-stay : (scene : Scene) (s : LevelState) (system place : ℕ) (entries : List SnpEntry) → AreClean scene s system place entries
    → Stays s.book (take_entries scene s system place entries).book
entries-stay scene s system place [] clean = stays-refl s.book
entries-stay scene s system place (h ∷ entries) clean =
    let next = take_entry scene s system place h in
    stays-trans s.book next.book _ (entry-stays scene s system place h clean.0) (entries-stay scene next system place entries clean.1)

-- ---- both readings of the entries

pub clean-any : (scene : Scene) (s : LevelState) (system place : ℕ) (entries : List SnpEntry) → AreClean scene s system place entries
    → would_flag_any s.book entries ≡ false
clean-any scene s system place [] clean = refl
clean-any scene s system place (h ∷ entries) clean =
    let next = take_entry scene s system place h in
    let held = cell_at s.book h.id in
    or-both (would_flag s.book h) (would_flag_any s.book entries)
    (flags-same (whose_of system s h.id) whose.Other held held h (refl, refl) ∙ clean.0)
    (sym (any-same s.book next.book entries (entry-stays scene s system place h clean.0).keys) ∙ clean-any scene next system place entries clean.1)

pub any-clean : (scene : Scene) (s : LevelState) (system place : ℕ) (entries : List SnpEntry) → would_flag_any s.book entries ≡ false
    → AreClean scene s system place entries
any-clean scene s system place [] none = tt
any-clean scene s system place (h ∷ entries) none =
    let next = take_entry scene s system place h in
    let held = cell_at s.book h.id in
    let clean = flags-same whose.Other (whose_of system s h.id) held held h (refl, refl) ∙ or-left (would_flag s.book h) (would_flag_any s.book entries) none in
    let later = or-right (would_flag s.book h) (would_flag_any s.book entries) none in
    let rest = any-same s.book next.book entries (entry-stays scene s system place h clean).keys ∙ later in
    (clean, any-clean scene next system place entries rest)

-- ---- the range

range-stays : (b : Book) (place first last : ℕ) (entries : List SnpEntry) → Stays b (hear_range b place first last entries)
unfolding hear_range
range-stays b place first last entries =
    record { changes = refl; keys = λ id. subst (Keys (cell_at b id)) (sym (find-each _ b.cells id)) (flagged id (cell_at b id)) }
  where
    flagged : (id : ℕ) (held : Option Cell) → Keys held (option_map (λ (c : Cell). if is_missed first last entries id c then srm_on c place else c) held)
    flagged id None = (refl, refl)
    flagged id (Some c) =
        choose (λ (d : Cell). Keys (Some c) (Some d)) (is_missed first last entries id c) (srm_on c place) c (λ _. (refl, refl)) (λ _. (refl, refl))

snp-stays : (scene : Scene) (s : LevelState) (system place : ℕ) (range : Option (ℕ × ℕ)) (entries : List SnpEntry) → AreClean scene s system place entries
    → Stays s.book (take_snp scene s system place range entries).book
unfolding take_snp
snp-stays scene s system place None entries clean = entries-stay scene s system place entries clean
snp-stays scene s system place (Some range) entries clean =
    let t = take_entries scene s system place entries in
    stays-trans s.book t.book _ (entries-stay scene s system place entries clean) (range-stays t.book place range.0 range.1 entries)

pub flagless-keeps : (scene : Scene) (s : LevelState) (system place : ℕ) (range : Option (ℕ × ℕ)) (entries : List SnpEntry)
    → would_flag_any s.book entries ≡ false → KeepsKeys s.book (take_snp scene s system place range entries).book
flagless-keeps scene s system place range entries none =
    let stays = snp-stays scene s system place range entries (any-clean scene s system place entries none) in
    record { changes = stays.changes; rank = λ id. (stays.keys id).0; checksum = λ id. (stays.keys id).1 }

-- the range sets no flag at one book exactly where it sets none at another of the same keys
range-moves : (s t : LevelState) (first last : ℕ) (entries : List SnpEntry) → ((id : ℕ) → Keys (cell_at s.book id) (cell_at t.book id))
    → IsRangeClean s first last entries → IsRangeClean t first last entries
range-moves s t first last entries k clean id cell e = from (cell_at s.book id) refl
  where
    from : (held : Option Cell) → cell_at s.book id ≡ held → is_missed first last entries id cell ≡ false
    from None q =
        let none : cell.rank ≡ 0 = sym (ap rank_of e) ∙ (k id).0 ∙ ap rank_of q in
        subst (λ (n : ℕ). (is_live n && nat_le first id && nat_le id last && not (lists entries id)) ≡ false) (sym none) refl
    from (Some c) q =
        let same : cell.rank ≡ c.rank = sym (ap rank_of e) ∙ (k id).0 ∙ ap rank_of q in
        subst (λ (n : ℕ). (is_live n && nat_le first id && nat_le id last && not (lists entries id)) ≡ false) (sym same) (clean id c q)

some-same : (a b : Cell) → ◌≡◌ {A = Option Cell} (Some a) (Some b) → a ≡ b
some-same a b e = cc

-- what is found is looked at
missed-at : (first last : ℕ) (entries : List SnpEntry) (cells : List (ℕ × Cell)) (id : ℕ) (cell : Cell) → misses_any first last entries cells ≡ false
    → find cells id ≡ Some cell → is_missed first last entries id cell ≡ false
missed-at first last entries [] id cell e q = absurd (cc)
missed-at first last entries (x ∷ cells) id cell e q =
    test (λ t. (x.0 == id) ≡ t → (if t then Some x.1 else find cells id) ≡ Some cell → is_missed first last entries id cell ≡ false) (x.0 == id)
    (λ _ y k. let same : x.0 ≡ id = grind (arith, nat_tests) in
    subst (λ (n : ℕ). is_missed first last entries n cell ≡ false) same
    (subst (λ (c : Cell). is_missed first last entries x.0 c ≡ false) (some-same x.1 cell k) (or-left _ _ e)))
    (λ _ _ k. missed-at first last entries cells id cell (or-right _ _ e) k) refl q

-- and where cells are by LSP ID, all that is looked at is found
none-missed : (first last : ℕ) (entries : List SnpEntry) (whole cells : List (ℕ × Cell)) → AllByRecursion (λ (p : ℕ × Cell). find whole p.0 ≡ Some p.1) cells
    → ((id : ℕ) (cell : Cell) → find whole id ≡ Some cell → is_missed first last entries id cell ≡ false) → misses_any first last entries cells ≡ false
none-missed first last entries whole [] found clean = refl
none-missed first last entries whole (x ∷ cells) found clean =
    or-both (is_missed first last entries x.0 x.1) (misses_any first last entries cells) (clean x.0 x.1 found.0)
    (none-missed first last entries whole cells found.1 clean)

-- ---- a step that takes a CSNP

pub clean-taken : (given : Given) (r : Router) (place : ℕ) (c : Circuit) (l : Level) (from : Envelope) (source : ℕ) (range : ℕ × ℕ) (entries : List SnpEntry)
    → is_clean r (step given r (Take place (SnpHeard l from source (Some range) entries))).router l range entries ≡ true
    → IsTakenCleanly (scene_of given r l) (level_of r l) r.config.system place range entries
clean-taken given r place c l from source range entries e =
    let scene = scene_of given r l in
    let s = level_of r l in
    let both = and-left _ _ e in
    let listed = any-clean scene s r.config.system place entries (not-false _ (and-left _ _ both)) in
    let t = take_entries scene s r.config.system place entries in
    record {
      listed = listed;
      missed =
          range-moves s t range.0 range.1 entries (entries-stay scene s r.config.system place entries listed).keys
          (λ id cell q. missed-at range.0 range.1 entries s.book.cells id cell (not-false _ (and-right _ _ both)) q);
    }

level-set : (P : Book → Type 0) (r : Router) (l : Level) (s : LevelState) → P s.book → P (book_of (with_level r l s) l)
level-set P r level.One s h = h
level-set P r level.Two s h = h

-- the book after an SNP that isn't dropped
taken-book : (P : Book → Type 0) (given : Given) (r : Router) (place : ℕ) (c : Circuit) (l : Level) (from : Envelope) (source : ℕ)
    (range : Option (ℕ × ℕ)) (entries : List SnpEntry)
    → nth r.circuits place ≡ Some c → drop_of r place c (SnpHeard l from source range entries) ≡ None
    → P (take_snp (scene_of given r l) (level_of r l) r.config.system place range entries).book
    → P (book_of (step given r (Take place (SnpHeard l from source range entries))).router l)
unfolding step
taken-book P given r place c l from source range entries at_place taken h =
    let x : Message = SnpHeard l from source range entries in
    subst (λ (o : Option Circuit). P (book_of (receiving.take given r place x o).router l)) (sym at_place)
    (subst (λ (o : Option DropName). P (book_of (take_or_drop given r place c x o).router l)) (sym taken)
    (level-set P r l (take_snp (scene_of given r l) (level_of r l) r.config.system place range entries) h))

all-three : (a b c : Bool) → a ≡ false → b ≡ false → c ≡ true → (not a && not b && c) ≡ true
all-three true b c x y z = absurd (cc)
all-three false true c x y z = absurd (cc)
all-three false false c x y z = z

same-number : (a b : ℕ) → a ≡ b → (a == b) ≡ true
same-number a b e = grind (arith, nat_tests, e)

pub taken-clean : (given : Given) (r : Router) (place : ℕ) (c : Circuit) (l : Level) (from : Envelope) (source : ℕ) (range : ℕ × ℕ) (entries : List SnpEntry)
    → IsSorted r → nth r.circuits place ≡ Some c → drop_of r place c (SnpHeard l from source (Some range) entries) ≡ None
    → IsTakenCleanly (scene_of given r l) (level_of r l) r.config.system place range entries
    → is_clean r (step given r (Take place (SnpHeard l from source (Some range) entries))).router l range entries ≡ true
taken-clean given r place c l from source range entries sorted at_place taken clean =
    let scene = scene_of given r l in
    let s = level_of r l in
    let t = take_entries scene s r.config.system place entries in
    let now = (step given r (Take place (SnpHeard l from source (Some range) entries))).router in
    let stays = entries-stay scene s r.config.system place entries clean.listed in
    let before = range-moves t s range.0 range.1 entries (λ id. keys-sym (cell_at s.book id) (cell_at t.book id) (stays.keys id)) clean.missed in
    all-three (would_flag_any s.book entries) (would_flag_range s.book range.0 range.1 entries) ((book_of now l).changes == s.book.changes)
    (clean-any scene s r.config.system place entries clean.listed)
    (none-missed range.0 range.1 entries s.book.cells s.book.cells (all-found s.book.cells 0 (sorted.on l)) before)
    (same-number (book_of now l).changes s.book.changes
    (taken-book (λ (b : Book). b.changes ≡ s.book.changes) given r place c l from source (Some range) entries at_place taken
    (snp-stays scene s r.config.system place (Some range) entries clean.listed).changes))
