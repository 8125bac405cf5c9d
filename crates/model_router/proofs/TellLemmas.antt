-- What each deed tells of keys and contents.
use Rattle.std.proofs.Common.{◌≡◌, ℕ, ◌+◌, ◌-◌, ◌^◌, ◌<◌, ◌≤◌, ◌==◌, nat_lt, nat_le, Bool, true, false, List, ◌⊎◌, inl, inr, ⊎_elim, Option, Some, None, if◌then◌else◌, refl, sym, ap, ◌∙◌, subst, subst₂, arith, le_refl, le_trans}
use Rattle.std.specs.Option.{option_map}
use Rattle.std.proofs.lemmas.Bool.Decides.{nat_tests}
use Rattle.model_router.specs.declared.whose.Whose.{Whose}
use Rattle.model_router.specs.Maps.{find, each}
use Rattle.model_router.specs.Ranks.{number_of, is_live, purge_rank}
use Rattle.model_router.specs.Sets.{has}
use Rattle.model_router.specs.Cells.{Cell, Heard, kept, purged, flagged, srm_on, srm_off, srm_sent}
use Rattle.model_router.specs.Books.{Book, cell_at, rank_of, rank_at, is_full, risen, set_cell}
use Rattle.model_router.specs.LspTable.{lsp_row, hear_lsp}
use Rattle.model_router.specs.SnpTable.{SnpEntry, snp_row, asked, is_missed, hear_entry, hear_range}
use Rattle.model_router.specs.Openings.{marked, close, open_up}
use Rattle.model_router.specs.Routers.{Contents, LevelState}
use Rattle.model_router.specs.OwnLsps.{install, retire}
use Rattle.model_router.specs.Ageing.{less, aged, age_cell, age_one, wait_less}
use Rattle.model_router.specs.Pulls.{srm_due, sent, answered}
use Rattle.model_router.specs.Deeds.{Content, content_of, Hearing, Way, Still, Then, Hear, Let, Entry, Range, Install, Retire, Age, Own, Wait, Sends, Answers, Course, Goes, Next, Closes, Opens}
use Rattle.model_router.specs.ContentLaws.{SameKey, Comes, Tells}
use Rattle.model_router.specs.ReplyLaws.{WasHeld}
use Rattle.model_router.proofs.MapLemmas.{find-each}
use Rattle.model_router.proofs.BookLemmas.{choose, cells-after}
use Rattle.model_router.proofs.FloodLemmas.{each-row, each-snp}

-- ---- one cell

record CellTells (source : ℕ → Content → Type 0) (old new : Option Cell) : Type 0 where
  stays : rank_of new ≡ rank_of old → SameKey old new
  comes : Comes source old new

key-refl : (c : Option Cell) → SameKey c c
key-refl c = record { rank = refl; content = λ _. refl }

key-trans : (a b c : Option Cell) → SameKey a b → SameKey b c → SameKey a c
key-trans a b c f g = record { rank = g.rank ∙ f.rank; content = λ live. g.content live ∙ f.content (ap is_live (sym g.rank) ∙ live) }

comes-refl : (source : ℕ → Content → Type 0) (c : Option Cell) → Comes source c c
comes-refl source None = tt
comes-refl source (Some c) = λ live. inl (refl, refl)

comes-trans : (source : ℕ → Content → Type 0) (a b c : Option Cell) → Comes source a b → Comes source b c → Comes source a c
comes-trans source a b None f g = tt
comes-trans source a None (Some c) f g = λ live. ⊎_elim (λ h. absurd h) (λ s. inr s) (g live)
comes-trans source a (Some b) (Some c) f g = λ live. ⊎_elim (λ was. joined a was (f (ap is_live was.0 ∙ live))) (λ s. inr s) (g live)
  where
    joined : (a : Option Cell) → WasHeld (Some b) c → WasHeld a b ⊎ source b.rank (content_of b) → WasHeld a c ⊎ source c.rank (content_of c)
    joined None was (inl h) = absurd h
    joined (Some d) was (inl h) = inl (h.0 ∙ was.0, h.1 ∙ was.1)
    joined a was (inr s) = inr (subst₂ source was.0 was.1 s)

cell-same : (source : ℕ → Content → Type 0) (c : Option Cell) → CellTells source c c
cell-same source c = record { stays = λ _. key-refl c; comes = comes-refl source c }

-- rank and content stay
cell-level : (source : ℕ → Content → Type 0) (c d : Cell) → d.rank ≡ c.rank → content_of d ≡ content_of c → CellTells source (Some c) (Some d)
cell-level source c d e k = record { stays = λ _. record { rank = e; content = λ _. ap Some k }; comes = λ live. inl (sym e, sym k) }

-- what is dead tells nothing
cell-dead : (source : ℕ → Content → Type 0) (old new : Option Cell) → is_live (rank_of new) ≡ false → CellTells source old new
cell-dead source old new dead = record { stays = λ e. record { rank = e; content = λ live. absurd (cc) }; comes = dead-comes new dead }
  where
    dead-comes : (new : Option Cell) → is_live (rank_of new) ≡ false → Comes source old new
    dead-comes None dead = tt
    dead-comes (Some c) dead = λ live. absurd (cc)

-- something newer comes from a source
cell-new : (source : ℕ → Content → Type 0) (old : Option Cell) (c : Cell) → rank_of old < c.rank → source c.rank (content_of c) → CellTells source old (Some c)
cell-new source old c h s = record { stays = λ e. absurd (omega (arith, e, h)); comes = λ live. inr s }

if-held : (source : ℕ → Content → Type 0) (f : Cell → Cell) (old : Option Cell) → ((c : Cell) → CellTells source (Some c) (Some (f c))) → CellTells source old (option_map f old)
if-held source f None h = cell-same source None
if-held source f (Some c) h = h c

purge-dead : (number : ℕ) → is_live (purge_rank number) ≡ false
purge-dead number = grind (arith, nat_tests)

-- ---- a book

tells-refl : (source : ℕ → ℕ → Content → Type 0) (b : Book) → Tells source b b
tells-refl source b = record { counts = le_refl _; same = λ _ _ id. key-refl (cell_at b id); comes = λ id. comes-refl (source id) (cell_at b id) }

tells-trans : (source : ℕ → ℕ → Content → Type 0) (a b c : Book) → Tells source a b → Tells source b c → Tells source a c
tells-trans source a b c f g = record {
  counts = le_trans f.counts g.counts;
  same = λ e lt id.
      let mid : b.changes ≡ a.changes = let p = f.counts in let q = g.counts in omega (arith, p, q, e) in
      let end : c.changes ≡ b.changes = e ∙ sym mid in
      key-trans (cell_at a id) (cell_at b id) (cell_at c id) (f.same mid (let q = g.counts in omega (arith, q, lt)) id) (g.same end lt id);
  comes = λ id. comes-trans (source id) (cell_at a id) (cell_at b id) (cell_at c id) (f.comes id) (g.comes id);
}

count-grows : (n : ℕ) (t : Bool) → n ≤ (if t then n else risen n)
count-grows n true = le_refl n
count-grows n false = choose (λ (m : ℕ). n ≤ m) (nat_lt n (2 ^ 64 - 1)) (n + 1) n (λ _. omega arith) (λ _. le_refl n)

count-stays : (n : ℕ) (t : Bool) → (if t then n else risen n) ≡ n → n < 2 ^ 64 - 1 → t ≡ true
count-stays n true e lt = refl
count-stays n false e lt = absurd (let up : risen n ≡ n + 1 = grind (arith, nat_tests) in omega (arith, up, e))

changes-set : (b : Book) (id : ℕ) (c : Option Cell) → (set_cell b id c).changes ≡ (if rank_of c == rank_at b id then b.changes else risen b.changes)
unfolding set_cell
changes-set b id c = refl

set-tells : (source : ℕ → ℕ → Content → Type 0) (b : Book) (id : ℕ) (c : Option Cell) → CellTells (source id) (cell_at b id) c → Tells source b (set_cell b id c)
set-tells source b id c h = record {
  counts = subst (λ (n : ℕ). b.changes ≤ n) (sym (changes-set b id c)) (count-grows b.changes (rank_of c == rank_at b id));
  same = λ e lt x.
      let t : (rank_of c == rank_at b id) ≡ true = count-stays b.changes (rank_of c == rank_at b id) (sym (changes-set b id c) ∙ e) (subst (λ (n : ℕ). n < 2 ^ 64 - 1) e lt) in
      cells-after (λ y cell. SameKey (cell_at b y) cell) b id c (h.stays (grind (arith, nat_tests, t))) (λ y. key-refl (cell_at b y)) x;
  comes = λ x. cells-after (λ y cell. Comes (source y) (cell_at b y) cell) b id c h.comes (λ y. comes-refl (source y) (cell_at b y)) x;
}

each-tells : (source : ℕ → ℕ → Content → Type 0) (b t : Book) (f : ℕ → Cell → Cell) → t.cells ≡ each f b.cells → t.changes ≡ b.changes → ((id : ℕ) (c : Cell) → ((f id c).rank ≡ c.rank) × (content_of (f id c) ≡ content_of c)) → Tells source b t
each-tells source b t f e k h =
    let at : (id : ℕ) → CellTells (source id) (cell_at b id) (cell_at t id) =
    λ id. rw (e, find-each f b.cells id) (if-held (source id) (f id) (cell_at b id) (λ c. cell-level (source id) c (f id c) (h id c).0 (h id c).1)) in
    record {
      counts = omega (arith, k);
      same = λ _ _ id. (at id).stays (ranks id);
      comes = λ id. (at id).comes;
    }
  where
    ranks : (id : ℕ) → rank_of (cell_at t id) ≡ rank_of (cell_at b id)
    ranks id = ap (λ (m : List (ℕ × Cell)). rank_of (find m id)) e ∙ ap rank_of (find-each f b.cells id) ∙ map-rank (cell_at b id)
      where
        map-rank : (c : Option Cell) → rank_of (option_map (f id) c) ≡ rank_of c
        map-rank None = refl
        map-rank (Some c) = (h id c).0

-- ---- the deeds

hear_lsp-tells : (source : ℕ → ℕ → Content → Type 0) (b : Book) (place : ℕ) (w : Whose) (h : Heard) → source h.id h.rank (content_of (kept h)) → Tells source b (hear_lsp b place w h)
unfolding hear_lsp
hear_lsp-tells source b place w h src =
    let held = cell_at b h.id in
    set-tells source b h.id _ (each-row (λ row. CellTells (source h.id) held (lsp_row row b.opened b.p2p place held h)) w held h
    (λ _ _ _. cell-same (source h.id) held)
    (λ _ _. cell-dead (source h.id) held _ (purge-dead (number_of h.rank)))
    (λ _ _. cell-dead (source h.id) held None refl)
    (λ _ _. if-held (source h.id) _ held (λ c. cell-dead (source h.id) (Some c) _ (purge-dead (number_of c.rank))))
    (λ newer. cell-new (source h.id) held _ newer src)
    (λ _. if-held (source h.id) _ held (λ c. cell-level (source h.id) c _ refl refl))
    (λ _. if-held (source h.id) _ held (λ c. cell-level (source h.id) c _ refl refl)))

asked-tells : (source : ℕ → Content → Type 0) (full : Bool) (place : ℕ) (held : Option Cell) → CellTells source held (asked full place held)
asked-tells source full place (Some c) = cell-level source c _ refl refl
asked-tells source true place None = cell-same source None
asked-tells source false place None = cell-dead source None _ refl

hear_entry-tells : (source : ℕ → ℕ → Content → Type 0) (b : Book) (place : ℕ) (w : Whose) (h : SnpEntry) → Tells source b (hear_entry b place w h)
unfolding hear_entry
hear_entry-tells source b place w h =
    let held = cell_at b h.id in
    set-tells source b h.id _ (each-snp (λ row. CellTells (source h.id) held (snp_row row (is_full b) b.opened b.p2p place held)) w held h
    (cell-same (source h.id) held)
    (λ _ _ _. cell-same (source h.id) held)
    (λ _ _. if-held (source h.id) _ held (λ c. cell-dead (source h.id) (Some c) _ (purge-dead (number_of c.rank))))
    (λ _. if-held (source h.id) _ held (λ c. cell-level (source h.id) c _ refl refl))
    (λ _. if-held (source h.id) _ held (λ c. cell-level (source h.id) c _ refl refl))
    (λ _. if-held (source h.id) _ held (λ c. cell-level (source h.id) c _ refl refl))
    (asked-tells (source h.id) (is_full b) place held)
    (cell-same (source h.id) held))

-- a choice between a cell and what differs from it in flags alone
flags-only : (t : Bool) (c d : Cell) → (d.rank ≡ c.rank) × (content_of d ≡ content_of c) → ((if t then d else c).rank ≡ c.rank) × (content_of (if t then d else c) ≡ content_of c)
flags-only true c d h = h
flags-only false c d h = (refl, refl)

hear_range-tells : (source : ℕ → ℕ → Content → Type 0) (b : Book) (place start end : ℕ) (entries : List SnpEntry) → Tells source b (hear_range b place start end entries)
unfolding hear_range
hear_range-tells source b place start end entries = each-tells source b _ _ refl refl (λ id c. flags-only (is_missed start end entries id c) c (srm_on c place) (refl, refl))

wait_less-tells : (source : ℕ → ℕ → Content → Type 0) (b : Book) → Tells source b (wait_less b)
unfolding wait_less
wait_less-tells source b = each-tells source b _ _ refl refl (λ id c. (refl, refl))

sent-tells : (source : ℕ → ℕ → Content → Type 0) (b : Book) (place : ℕ) → Tells source b (sent b place)
unfolding sent
sent-tells source b place = each-tells source b _ _ refl refl (λ id c. flags-only (srm_due place c) c _ (choose (λ (d : Cell). (d.rank ≡ c.rank) × (content_of d ≡ content_of c)) (has b.p2p place) (srm_sent c place) (srm_off c place) (λ _. (refl, refl)) (λ _. (refl, refl))))

answered-tells : (source : ℕ → ℕ → Content → Type 0) (b : Book) (place : ℕ) → Tells source b (answered b place)
unfolding answered
answered-tells source b place = each-tells source b _ _ refl refl (λ id c. (refl, refl))

close-tells : (source : ℕ → ℕ → Content → Type 0) (b : Book) (place : ℕ) → Tells source b (close b place)
unfolding close
close-tells source b place = each-tells source b _ _ refl refl (λ id c. (refl, refl))

open_up-tells : (source : ℕ → ℕ → Content → Type 0) (b : Book) (place : ℕ) → Tells source b (open_up b place)
unfolding open_up
open_up-tells source b place = each-tells source b _ _ refl refl (λ id c. flags-only (has b.p2p place) c (marked c place) (flags-only (nat_lt 0 c.rank) c (srm_on c place) (refl, refl)))

install-tells : (source : ℕ → ℕ → Content → Type 0) (s : LevelState) (id : ℕ) (contents : Contents) (c : Cell) → rank_at s.book id < c.rank → source id c.rank (content_of c) → Tells source s.book (install s id contents c).book
unfolding install
install-tells source s id contents c h src = set-tells source s.book id _ (cell-new (source id) (cell_at s.book id) _ h src)

retire-tells : (source : ℕ → ℕ → Content → Type 0) (s : LevelState) (id : ℕ) (c : Cell) → is_live c.rank ≡ false → Tells source s.book (retire s id c).book
unfolding retire
retire-tells source s id c dead = set-tells source s.book id _ (cell-dead (source id) (cell_at s.book id) _ dead)

aged-tells : (source : ℕ → Content → Type 0) (opened : ℕ) (c : Cell) → CellTells source (Some c) (aged opened c)
aged-tells source opened c = choose (λ (d : Option Cell). CellTells source (Some c) d) (nat_le 2 c.left) (Some (less c)) _
    (λ _. cell-level source c (less c) refl refl)
    (λ _. choose (λ (d : Option Cell). CellTells source (Some c) d) (is_live c.rank) (Some (flagged (purged c) opened 0)) None (λ _. cell-dead source (Some c) _ (purge-dead (number_of c.rank))) (λ _. cell-dead source (Some c) None refl))

age_cell-tells : (source : ℕ → ℕ → Content → Type 0) (s : LevelState) (id : ℕ) (held : Option Cell) → cell_at s.book id ≡ held → Tells source s.book (age_cell s id held).book
age_cell-tells source s id None e = tells-refl source s.book
age_cell-tells source s id (Some c) e = set-tells source s.book id _ (rw e (aged-tells (source id) s.book.opened c))

age_one-tells : (source : ℕ → ℕ → Content → Type 0) (s : LevelState) (id : ℕ) → Tells source s.book (age_one s id).book
unfolding age_one
age_one-tells source s id = age_cell-tells source s id (cell_at s.book id) refl

pub way-tells : (heard : Hearing) (a b : LevelState) → Way heard a b → Tells heard.source a.book b.book
way-tells heard a b (Still s) = tells-refl heard.source s.book
way-tells heard a c (Then _ b _ f g) = tells-trans heard.source a.book b.book c.book (way-tells heard a b f) (way-tells heard b c g)
way-tells heard a b (Hear s place w h k named src good) = hear_lsp-tells heard.source s.book place w h src
way-tells heard a b (Let s id) = tells-refl heard.source s.book
way-tells heard a b (Entry s place w h k named good) = hear_entry-tells heard.source s.book place w h
way-tells heard a b (Range s place start end entries) = hear_range-tells heard.source s.book place start end entries
way-tells heard a b (Install s id contents cell k src good) = install-tells heard.source s id contents cell k src
way-tells heard a b (Retire s id cell k dead made good) = retire-tells heard.source s id cell dead
way-tells heard a b (Age s id) = age_one-tells heard.source s id
way-tells heard a b (Own s own) = tells-refl heard.source s.book
way-tells heard a b (Wait s) = wait_less-tells heard.source s.book
way-tells heard a b (Sends s place) = sent-tells heard.source s.book place
way-tells heard a b (Answers s place stirs) = answered-tells heard.source s.book place

pub course-tells : (heard : Hearing) (a b : LevelState) → Course heard a b → Tells heard.source a.book b.book
course-tells heard a b (Goes _ _ w) = way-tells heard a b w
course-tells heard a c (Next _ b _ f g) = tells-trans heard.source a.book b.book c.book (course-tells heard a b f) (course-tells heard b c g)
course-tells heard a b (Closes s place stirs) = close-tells heard.source s.book place
course-tells heard a b (Opens s place) = open_up-tells heard.source s.book place
