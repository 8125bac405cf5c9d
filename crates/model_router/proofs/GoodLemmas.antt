-- Each deed keeps cells good.
use Rattle.std.proofs.Common.{◌≡◌, ℕ, ◌^◌, ◌<◌, ◌≤◌, eqb, nat_lt, nat_le, Bool, true, false, not, ◌&&◌, List, length, Option, Some, None, if◌then◌else◌, refl, sym, ap, ◌∙◌, subst, arith}
use Rattle.std.specs.Option.{option_map}
use Rattle.std.proofs.lemmas.Bool.Decides.{nat_tests}
use Rattle.model_router.specs.declared.whose.Whose.{Whose}
use Rattle.model_router.specs.Maps.{each}
use Rattle.model_router.specs.Ranks.{number_of, is_purge, is_live}
use Rattle.model_router.specs.Sets.{has, without}
use Rattle.model_router.specs.Cells.{Cell, Heard, kept, purged, flagged, srm_on, srm_off, srm_sent, ssn_on, header_of}
use Rattle.model_router.specs.Books.{Book, cell_at, rank_of, is_full, set_cell}
use Rattle.model_router.specs.LspTable.{lsp_case, lsp_row, ssn_stored, hear_lsp}
use Rattle.model_router.specs.SnpTable.{SnpEntry, snp_case, snp_row, freed, asked, is_missed, hear_entry, hear_range}
use Rattle.model_router.specs.Openings.{close, open_up}
use Rattle.model_router.specs.Routers.{Contents, LevelState}
use Rattle.model_router.specs.OwnLsps.{install, retire}
use Rattle.model_router.specs.Ageing.{less, aged, age_cell, age_one, wait_less}
use Rattle.model_router.specs.Pulls.{srm_due, sent, answered}
use Rattle.model_router.specs.Good.{IsGoodCell, IsGood, IsGoodBook, IsGoodLsp}
use Rattle.model_router.specs.Deeds.{Hearing, Way, Still, Then, Hear, Let, Entry, Range, Install, Retire, Age, Own, Wait, Sends, Answers, Course, Goes, Next, Closes, Opens}
use Rattle.model_router.proofs.MapLemmas.{find-each}
use Rattle.model_router.proofs.SetLemmas.{has-without, has-none}
use Rattle.model_router.proofs.BookLemmas.{choose, cells-after}
use Rattle.model_router.proofs.FloodLemmas.{each-row, each-snp}
use Rattle.model_router.proofs.GoodCells.{header-length, purge-good, purged-good, number-last}

-- ---- cells that differ from good ones in flags

-- SRM may be set where there is a key, and cleared anywhere
good-flags : (c d : Cell) → d.rank ≡ c.rank → d.left ≡ c.left → d.octets ≡ c.octets → d.checksum ≡ c.checksum → (c.rank ≡ 0 → (place : ℕ) → has c.srm place ≡ false → has d.srm place ≡ false) → IsGoodCell c → IsGoodCell d
good-flags c d r l o k s g = record {
  bounded = subst (λ (n : ℕ). n < 2 ^ 33) (sym r) g.bounded;
  number = λ e. g.number (sym r ∙ e);
  left = subst (λ (n : ℕ). 1 ≤ n) (sym l) g.left;
  fits = subst (λ (n : ℕ). n < 2 ^ 16) (sym l) g.fits;
  word = subst (λ (n : ℕ). n < 2 ^ 16) (sym k) g.word;
  header = λ some. subst (λ (xs : List ℕ). 27 ≤ length xs) (sym o) (g.header (subst (λ (n : ℕ). 0 < n) r some));
  summed = λ live. subst (λ (n : ℕ). 0 < n) (sym k) (g.summed (subst (λ (n : ℕ). is_live n ≡ true) r live));
  silent = λ none place. s (sym r ∙ none) place (g.silent (sym r ∙ none) place);
}

good-keyed : (c d : Cell) → d.rank ≡ c.rank → d.left ≡ c.left → d.octets ≡ c.octets → d.checksum ≡ c.checksum → 0 < c.rank → IsGoodCell c → IsGoodCell d
good-keyed c d r l o k some g = good-flags c d r l o k (λ none. absurd (omega (arith, some, none))) g

off-silent : (s place q : ℕ) → has s q ≡ false → has (without s place) q ≡ false
off-silent s place q e = has-without s place q ∙ ap (λ (t : Bool). not (eqb place q) && t) e ∙ never (not (eqb place q))
  where
    never : (t : Bool) → (t && false) ≡ false
    never true = refl
    never false = refl

-- ---- a book

good-set : (b : Book) (id : ℕ) (c : Option Cell) → IsGood id c → IsGoodBook b → IsGoodBook (set_cell b id c)
good-set b id c g h = record { at = λ q. cells-after (λ y cell. IsGood y cell) b id c g (λ y. h.at y) q }

good-each : (b t : Book) (f : ℕ → Cell → Cell) → t.cells ≡ each f b.cells → ((id : ℕ) (c : Cell) → IsGoodCell c → IsGoodCell (f id c)) → IsGoodBook b → IsGoodBook t
good-each b t f e k h = record { at = λ id. rw (e, find-each f b.cells id) (changed id (cell_at b id) (h.at id)) }
  where
    changed : (id : ℕ) (c : Option Cell) → IsGood id c → IsGood id (option_map (f id) c)
    changed id None g = tt
    changed id (Some c) g = (g.0, k id c g.1)

if-good : (id : ℕ) (f : Cell → Cell) (held : Option Cell) → ((c : Cell) → held ≡ Some c → IsGoodCell c → IsGoodCell (f c)) → IsGood id held → IsGood id (option_map f held)
if-good id f None k g = tt
if-good id f (Some c) k g = (g.0, k c refl g.1)

-- ---- the deeds

live-of : (rank : ℕ) → 0 < rank → is_purge rank ≡ false → is_live rank ≡ true
live-of rank some e = grind (arith, nat_tests, some, e)

live-purge : {A : Type 0} → (rank : ℕ) → is_live rank ≡ true → is_purge rank ≡ true → A
live-purge rank live e = absurd (grind (arith, nat_tests, live, e))

kept-good : (h : Heard) (srm ssn : ℕ) → IsGoodLsp h → IsGoodCell (flagged (kept h) srm ssn)
kept-good h srm ssn f = record {
  bounded = f.bounded;
  number = λ e. let p = f.some in omega (arith, e, p);
  left = choose (λ (n : ℕ). 1 ≤ n) (is_purge h.rank) 60 h.left (λ _. omega arith) (λ e. f.left (live-of h.rank (let p = f.some in omega (arith, p)) e));
  fits = choose (λ (n : ℕ). n < 2 ^ 16) (is_purge h.rank) 60 h.left (λ _. omega arith) (λ _. f.fits);
  word = choose (λ (n : ℕ). n < 2 ^ 16) (is_purge h.rank) 0 h.checksum (λ _. omega arith) (λ _. f.word);
  header = λ _. choose (λ (xs : List ℕ). 27 ≤ length xs) (is_purge h.rank) (header_of h.octets) h.octets (λ _. header-length h.octets f.header) (λ _. f.header);
  summed = λ live. choose (λ (n : ℕ). 0 < n) (is_purge h.rank) 0 h.checksum (λ e. live-purge h.rank live e) (λ _. f.summed live);
  silent = λ none place. absurd (let p = f.some in omega (arith, none, p));
}

row-good : (b : Book) (place : ℕ) (w : Whose) (h : Heard) → IsGoodLsp h → IsGoodBook b → IsGood h.id (lsp_row (lsp_case w (cell_at b h.id) h) b.opened b.p2p place (cell_at b h.id) h)
row-good b place w h f good =
    let held = cell_at b h.id in
    let g = good.at h.id in
    let keyed : (c : Cell) → held ≡ Some c → 0 < rank_of held → 0 < c.rank = λ c e p. subst (λ (o : Option Cell). 0 < rank_of o) e p in
    each-row (λ row. IsGood h.id (lsp_row row b.opened b.p2p place held h)) w held h
    (λ _ _ _. g)
    (λ _ _. (f.id, purge-good (number_of h.rank) h.flags h.octets b.opened (let p = f.some in omega (arith, p)) (number-last h.rank f.bounded) f.header))
    (λ _ _. tt)
    (λ same _. if-good h.id _ held (λ c e gc. (purged-good h.id c b.opened (keyed c e (let p = f.some in omega (arith, same, p))) (f.id, gc)).1) g)
    (λ _. (f.id, kept-good h (without b.opened place) (ssn_stored b.p2p place held) f))
    (λ same. if-good h.id _ held (λ c e gc. good-flags c _ refl refl refl refl (λ _ q k. off-silent c.srm place q k) gc) g)
    (λ older. if-good h.id _ held (λ c e gc. good-keyed c _ refl refl refl refl (keyed c e (omega (arith, older))) gc) g)

hear_lsp-good : (b : Book) (place : ℕ) (w : Whose) (h : Heard) → IsGoodLsp h → IsGoodBook b → IsGoodBook (hear_lsp b place w h)
unfolding hear_lsp
hear_lsp-good b place w h f good = good-set b h.id _ (row-good b place w h f good) good

-- what differs from a good cell in SSN, and maybe in SRM that is cleared
freed-good : (p2p place : ℕ) (c : Cell) → IsGoodCell c → IsGoodCell (freed p2p place c)
freed-good p2p place c g = good-flags c (freed p2p place c) refl refl refl refl (λ _ q k. choose (λ (n : ℕ). has n q ≡ false) (has p2p place) (without c.srm place) c.srm (λ _. off-silent c.srm place q k) (λ _. k)) g

ssn-good : (c d : Cell) → d.rank ≡ c.rank → d.left ≡ c.left → d.octets ≡ c.octets → d.checksum ≡ c.checksum → d.srm ≡ c.srm → IsGoodCell c → IsGoodCell d
ssn-good c d r l o k s g = good-flags c d r l o k (λ _ q e. ap (λ (n : ℕ). has n q) s ∙ e) g

asked-good : (id : ℕ) (full : Bool) (place : ℕ) (held : Option Cell) → id < 2 ^ 64 → IsGood id held → IsGood id (asked full place held)
asked-good id full place (Some c) lt g = (g.0, ssn-good c (ssn_on c place) refl refl refl refl refl g.1)
asked-good id true place None lt g = tt
asked-good id false place None lt g = (
  lt,
  record {
    bounded = omega arith;
    number = λ e. omega (arith, e);
    left = omega arith;
    fits = omega arith;
    word = omega arith;
    header = λ some. absurd (omega (arith, some));
    summed = λ live. absurd (cc);
    silent = λ _ q. has-none q;
  },
)

entry-good : (b : Book) (place : ℕ) (w : Whose) (h : SnpEntry) → h.id < 2 ^ 64 → IsGoodBook b → IsGood h.id (snp_row (snp_case w (cell_at b h.id) h) (is_full b) b.opened b.p2p place (cell_at b h.id))
entry-good b place w h lt good =
    let held = cell_at b h.id in
    let g = good.at h.id in
    let keyed : (c : Cell) → held ≡ Some c → 0 < rank_of held → 0 < c.rank = λ c e p. subst (λ (o : Option Cell). 0 < rank_of o) e p in
    each-snp (λ row. IsGood h.id (snp_row row (is_full b) b.opened b.p2p place held)) w held h
    g
    (λ _ _ _. g)
    (λ same live. if-good h.id _ held (λ c e gc. (purged-good h.id c b.opened (keyed c e (let p : 0 < h.rank = grind (arith, nat_tests, live) in omega (arith, same, p))) (lt, gc)).1) g)
    (λ _. if-good h.id _ held (λ c e gc. freed-good b.p2p place c gc) g)
    (λ older. if-good h.id _ held (λ c e gc. good-keyed c _ refl refl refl refl (keyed c e (omega (arith, older))) gc) g)
    (λ _. if-good h.id _ held (λ c e gc. ssn-good (freed b.p2p place c) (ssn_on (freed b.p2p place c) place) refl refl refl refl refl (freed-good b.p2p place c gc)) g)
    (asked-good h.id (is_full b) place held lt g)
    g

hear_entry-good : (b : Book) (place : ℕ) (w : Whose) (h : SnpEntry) → h.id < 2 ^ 64 → IsGoodBook b → IsGoodBook (hear_entry b place w h)
unfolding hear_entry
hear_entry-good b place w h lt good = good-set b h.id _ (entry-good b place w h lt good) good

-- a choice between a cell and another
good-choice : (t : Bool) (c d : Cell) → (t ≡ true → IsGoodCell d) → IsGoodCell c → IsGoodCell (if t then d else c)
good-choice t c d f g = choose IsGoodCell t d c f (λ _. g)

missed-live : (start end id : ℕ) (entries : List SnpEntry) (c : Cell) → is_missed start end entries id c ≡ true → 0 < c.rank
missed-live start end id entries c e = grind (arith, nat_tests, e)

each-good : (b : Book) → IsGoodBook b → IsGoodBook (wait_less b) × ((place : ℕ) → IsGoodBook (sent b place)) × ((place : ℕ) → IsGoodBook (answered b place)) × ((place : ℕ) → IsGoodBook (close b place)) × ((place : ℕ) → IsGoodBook (open_up b place)) × ((place start end : ℕ) (entries : List SnpEntry) → IsGoodBook (hear_range b place start end entries))
unfolding wait_less sent answered close open_up hear_range
each-good b good = (
  good-each b _ _ refl (λ id c g. ssn-good c _ refl refl refl refl refl g) good,
  λ place. good-each b _ _ refl (λ id c g. good-choice (srm_due place c) c _ (λ _. choose IsGoodCell (has b.p2p place) (srm_sent c place) (srm_off c place) (λ _. ssn-good c _ refl refl refl refl refl g) (λ _. good-flags c _ refl refl refl refl (λ _ q k. off-silent c.srm place q k) g)) g) good,
  λ place. good-each b _ _ refl (λ id c g. ssn-good c _ refl refl refl refl refl g) good,
  λ place. good-each b _ _ refl (λ id c g. good-flags c _ refl refl refl refl (λ _ q k. off-silent c.srm place q k) g) good,
  λ place. good-each b _ _ refl (λ id c g. good-choice (has b.p2p place) c _ (λ _. good-choice (nat_lt 0 c.rank) c (srm_on c place) (λ some. good-keyed c _ refl refl refl refl (grind (arith, nat_tests, some)) g) g) g) good,
  λ place start end entries. good-each b _ _ refl (λ id c g. good-choice (is_missed start end entries id c) c (srm_on c place) (λ m. good-keyed c _ refl refl refl refl (missed-live start end id entries c m) g) g) good,
)

aged-good : (id opened : ℕ) (c : Cell) → IsGood id (Some c) → IsGood id (aged opened c)
aged-good id opened c g = choose (IsGood id) (nat_le 2 c.left) (Some (less c)) _
    (λ more. (
      g.0,
      record {
        bounded = g.1.bounded;
        number = g.1.number;
        fits = (let k = g.1.fits in omega (arith, k));
        word = g.1.word;
        left = (let two : 2 ≤ c.left = grind (arith, nat_tests, more) in omega (arith, two));
        header = g.1.header;
        summed = g.1.summed;
        silent = g.1.silent;
      },
    ))
    (λ _. choose (IsGood id) (is_live c.rank) (Some (flagged (purged c) opened 0)) None (λ live. purged-good id c opened (grind (arith, nat_tests, live)) g) (λ _. tt))

age_cell-good : (s : LevelState) (id : ℕ) (held : Option Cell) → cell_at s.book id ≡ held → IsGoodBook s.book → IsGoodBook (age_cell s id held).book
age_cell-good s id None e good = good
age_cell-good s id (Some c) e good = good-set s.book id _ (aged-good id s.book.opened c (rw e at (good.at id))) good

age_one-good : (s : LevelState) (id : ℕ) → IsGoodBook s.book → IsGoodBook (age_one s id).book
unfolding age_one
age_one-good s id good = age_cell-good s id (cell_at s.book id) refl good

install-good : (s : LevelState) (id : ℕ) (contents : Contents) (c : Cell) → IsGood id (Some (flagged c s.book.opened 0)) → IsGoodBook s.book → IsGoodBook (install s id contents c).book
unfolding install
install-good s id contents c g good = good-set s.book id _ g good

retire-good : (s : LevelState) (id : ℕ) (c : Cell) → IsGood id (Some (flagged c s.book.opened 0)) → IsGoodBook s.book → IsGoodBook (retire s id c).book
unfolding retire
retire-good s id c g good = good-set s.book id _ g good

pub way-good : (heard : Hearing) (a b : LevelState) → Way heard a b → heard.sane → IsGoodBook a.book → IsGoodBook b.book
way-good heard a b (Still s) sane good = good
way-good heard a c (Then _ b _ f g) sane good = way-good heard b c g sane (way-good heard a b f sane good)
way-good heard a b (Hear s place w h k named src fits) sane good = hear_lsp-good s.book place w h (fits sane) good
way-good heard a b (Let s id) sane good = good
way-good heard a b (Entry s place w h k named fits) sane good = hear_entry-good s.book place w h (fits sane) good
way-good heard a b (Range s place start end entries) sane good = (each-good s.book good).5 place start end entries
way-good heard a b (Install s id contents cell k src fits) sane good = install-good s id contents cell (fits sane good) good
way-good heard a b (Retire s id cell k dead made fits) sane good = retire-good s id cell (fits sane good) good
way-good heard a b (Age s id) sane good = age_one-good s id good
way-good heard a b (Own s own) sane good = good
way-good heard a b (Wait s) sane good = (each-good s.book good).0
way-good heard a b (Sends s place) sane good = (each-good s.book good).1 place
way-good heard a b (Answers s place stirs) sane good = (each-good s.book good).2 place

pub course-good : (heard : Hearing) (a b : LevelState) → Course heard a b → heard.sane → IsGoodBook a.book → IsGoodBook b.book
course-good heard a b (Goes _ _ w) sane good = way-good heard a b w sane good
course-good heard a c (Next _ b _ f g) sane good = course-good heard b c g sane (course-good heard a b f sane good)
course-good heard a b (Closes s place stirs) sane good = (each-good s.book good).3 place
course-good heard a b (Opens s place) sane good = (each-good s.book good).4 place
