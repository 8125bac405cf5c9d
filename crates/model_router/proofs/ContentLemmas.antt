-- A fact of the key and content of each entry, which holds of new LSPs and of the purges of live ones, holds after each deed.
use Rattle.std.proofs.Common.{◌≡◌, ℕ, ◌<◌, nat_lt, nat_le, Bool, true, false, List, Option, Some, None, if◌then◌else◌, refl, sym, subst, arith}
use Rattle.std.proofs.lemmas.Bool.Decides.{nat_tests}
use Rattle.std.specs.Option.{option_map}
use Rattle.model_router.specs.declared.whose.Whose.{Whose}
use Rattle.model_router.specs.Maps.{find, each}
use Rattle.model_router.specs.Ranks.{number_of, is_purge, is_live, purge_rank}
use Rattle.model_router.specs.Sets.{has}
use Rattle.model_router.specs.Cells.{Cell, Heard, kept, purged, purge_of, flagged, srm_on, srm_off, srm_sent}
use Rattle.model_router.specs.Books.{Book, cell_at, rank_of, is_full, set_cell}
use Rattle.model_router.specs.LspTable.{lsp_case, lsp_row, hear_lsp}
use Rattle.model_router.specs.SnpTable.{SnpEntry, snp_case, snp_row, asked, is_missed, hear_entry, hear_range}
use Rattle.model_router.specs.Openings.{close, open_up}
use Rattle.model_router.specs.Routers.{Contents, LevelState}
use Rattle.model_router.specs.OwnLsps.{install, retire}
use Rattle.model_router.specs.Ageing.{aged, age_cell, age_one, wait_less}
use Rattle.model_router.specs.Pulls.{srm_due, sent, answered}
use Rattle.model_router.specs.Deeds.{Content, content_of, Hearing, IsMadeOf, OfHeld, OfNew, IsNew, Way, Still, Then, Hear, Let, Entry, Range, Install, Retire, Age, Own, Wait, Sends, Answers, Course, Goes, Next, Closes, Opens}
use Rattle.model_router.proofs.MapLemmas.{find-each}
use Rattle.model_router.proofs.BookLemmas.{choose, cells-after}
use Rattle.model_router.proofs.FloodLemmas.{each-row, each-snp}

module _ (Q : ℕ → ℕ → Content → Type 0) (buries : (id : ℕ) (c : Cell) → is_live c.rank ≡ true → Q id c.rank (content_of c) → Q id (purged c).rank (content_of (purged c))) where
  -- the fact of a cell with a key
  abbrev pub Fact : ℕ → Option Cell → Type 0
  Fact id None = Unit {0}
  Fact id (Some c) = 0 < c.rank → Q id c.rank (content_of c)

  some-live : (rank : ℕ) → is_live rank ≡ true → 0 < rank
  some-live rank live = grind (arith, nat_tests, live)

  live-whole : (rank : ℕ) → is_live rank ≡ true → is_purge rank ≡ false
  live-whole rank live = grind (arith, nat_tests, live)

  -- the purge of a live LSP that is heard
  new-purge : (h : Heard) → is_live h.rank ≡ true → Q h.id h.rank (content_of (kept h)) → Q h.id (purge_rank (number_of h.rank)) (content_of (purge_of (number_of h.rank) h.flags h.octets))
  new-purge h live q =
      let same : purged (kept h) ≡ purge_of (number_of h.rank) h.flags h.octets = rw (live-whole h.rank live) refl in
      subst (λ (c : Cell). Q h.id c.rank (content_of c)) same (buries h.id (kept h) live q)

  fact-map : (id : ℕ) (f : Cell → Cell) (held : Option Cell) → ((c : Cell) → held ≡ Some c → Fact id (Some c) → Fact id (Some (f c))) → Fact id held → Fact id (option_map f held)
  fact-map id f None k q = tt
  fact-map id f (Some c) k q = k c refl q

  bury : (id srm : ℕ) (c : Cell) → is_live c.rank ≡ true → Fact id (Some c) → Fact id (Some (flagged (purged c) srm 0))
  bury id srm c live q = λ _. buries id c live (q (some-live c.rank live))

  row-fact : (b : Book) (place : ℕ) (w : Whose) (h : Heard) → Q h.id h.rank (content_of (kept h)) → (held : Option Cell) → Fact h.id held → Fact h.id (lsp_row (lsp_case w held h) b.opened b.p2p place held h)
  row-fact b place w h src held q = each-row (λ row. Fact h.id (lsp_row row b.opened b.p2p place held h)) w held h
      (λ _ _ _. q)
      (λ _ live _. new-purge h live src)
      (λ _ _. tt)
      (λ same live. fact-map h.id _ held (λ c e k. let r : c.rank ≡ h.rank = subst (λ (o : Option Cell). rank_of o ≡ h.rank) e same in bury h.id b.opened c (rw r live) k) q)
      (λ _ _. src)
      (λ _. fact-map h.id _ held (λ c e k. k) q)
      (λ _. fact-map h.id _ held (λ c e k. k) q)

  asked-fact : (id : ℕ) (full : Bool) (place : ℕ) (held : Option Cell) → Fact id held → Fact id (asked full place held)
  asked-fact id full place (Some c) q = q
  asked-fact id true place None q = tt
  asked-fact id false place None q = λ some. absurd (omega (arith, some))

  entry-fact : (b : Book) (place : ℕ) (w : Whose) (h : SnpEntry) (held : Option Cell) → Fact h.id held → Fact h.id (snp_row (snp_case w held h) (is_full b) b.opened b.p2p place held)
  entry-fact b place w h held q = each-snp (λ row. Fact h.id (snp_row row (is_full b) b.opened b.p2p place held)) w held h
      q
      (λ _ _ _. q)
      (λ same live. fact-map h.id _ held (λ c e k. let r : c.rank ≡ h.rank = subst (λ (o : Option Cell). rank_of o ≡ h.rank) e same in bury h.id b.opened c (rw r live) k) q)
      (λ _. fact-map h.id _ held (λ c e k. k) q)
      (λ _. fact-map h.id _ held (λ c e k. k) q)
      (λ _. fact-map h.id _ held (λ c e k. k) q)
      (asked-fact h.id (is_full b) place held q)
      q

  -- ---- a book

  abbrev pub Facts : Book → Type 0
  Facts b = (id : ℕ) → Fact id (cell_at b id)

  set-fact : (b : Book) (id : ℕ) (c : Option Cell) → Fact id c → Facts b → Facts (set_cell b id c)
  set-fact b id c this others = cells-after (λ y cell. Fact y cell) b id c this others

  each-fact : (m : List (ℕ × Cell)) (f : ℕ → Cell → Cell) → ((id : ℕ) (c : Cell) → Fact id (Some c) → Fact id (Some (f id c))) → ((id : ℕ) → Fact id (find m id)) → (id : ℕ) → Fact id (find (each f m) id)
  each-fact m f k facts id = rw (find-each f m id) (fact-map id (f id) (find m id) (λ c _. k id c) (facts id))

  or-same : (id : ℕ) (t : Bool) (c d : Cell) → (Fact id (Some c) → Fact id (Some d)) → Fact id (Some c) → Fact id (Some (if t then d else c))
  or-same id true c d k q = k q
  or-same id false c d k q = q

  hear_lsp-fact : (b : Book) (place : ℕ) (w : Whose) (h : Heard) → Q h.id h.rank (content_of (kept h)) → Facts b → Facts (hear_lsp b place w h)
  unfolding hear_lsp
  hear_lsp-fact b place w h src facts = set-fact b h.id _ (row-fact b place w h src (cell_at b h.id) (facts h.id)) facts

  hear_entry-fact : (b : Book) (place : ℕ) (w : Whose) (h : SnpEntry) → Facts b → Facts (hear_entry b place w h)
  unfolding hear_entry
  hear_entry-fact b place w h facts = set-fact b h.id _ (entry-fact b place w h (cell_at b h.id) (facts h.id)) facts

  flags-facts : (b : Book) → Facts b → Facts (wait_less b) × ((place : ℕ) → Facts (sent b place)) × ((place : ℕ) → Facts (answered b place)) × ((place : ℕ) → Facts (close b place)) × ((place : ℕ) → Facts (open_up b place)) × ((place start end : ℕ) (entries : List SnpEntry) → Facts (hear_range b place start end entries))
  unfolding wait_less sent answered close open_up hear_range
  flags-facts b facts = (
    each-fact b.cells _ (λ id c q. q) facts,
    λ place. each-fact b.cells _ (λ id c q. or-same id (srm_due place c) c _ (λ k. choose (λ (d : Cell). Fact id (Some d)) (has b.p2p place) (srm_sent c place) (srm_off c place) (λ _. k) (λ _. k)) q) facts,
    λ place. each-fact b.cells _ (λ id c q. q) facts,
    λ place. each-fact b.cells _ (λ id c q. q) facts,
    λ place. each-fact b.cells _ (λ id c q. or-same id (has b.p2p place) c _ (λ k. or-same id (nat_lt 0 c.rank) c (srm_on c place) (λ m. m) k) q) facts,
    λ place start end entries. each-fact b.cells _ (λ id c q. or-same id (is_missed start end entries id c) c (srm_on c place) (λ m. m) q) facts,
  )

  aged-fact : (id opened : ℕ) (c : Cell) → Fact id (Some c) → Fact id (aged opened c)
  aged-fact id opened c q = choose (Fact id) (nat_le 2 c.left) _ _ (λ _. q)
      (λ _. choose (Fact id) (is_live c.rank) (Some (flagged (purged c) opened 0)) None (λ live. bury id opened c live q) (λ _. tt))

  age_cell-fact : (s : LevelState) (id : ℕ) (held : Option Cell) → cell_at s.book id ≡ held → Facts s.book → Facts (age_cell s id held).book
  age_cell-fact s id None e facts = facts
  age_cell-fact s id (Some c) e facts = set-fact s.book id _ (aged-fact id s.book.opened c (subst (Fact id) e (facts id))) facts

  age_one-fact : (s : LevelState) (id : ℕ) → Facts s.book → Facts (age_one s id).book
  unfolding age_one
  age_one-fact s id facts = age_cell-fact s id (cell_at s.book id) refl facts

  install-fact : (s : LevelState) (id : ℕ) (contents : Contents) (c : Cell) → Q id c.rank (content_of c) → Facts s.book → Facts (install s id contents c).book
  unfolding install
  install-fact s id contents c q facts = set-fact s.book id _ (λ _. q) facts

  retire-fact : (s : LevelState) (id : ℕ) (c : Cell) → Q id c.rank (content_of c) → Facts s.book → Facts (retire s id c).book
  unfolding retire
  retire-fact s id c q facts = set-fact s.book id _ (λ _. q) facts

  -- ---- ways

  module _ (heard : Hearing) (source : (id rank : ℕ) (content : Content) → heard.source id rank content → Q id rank content) (sane : heard.sane) where
    made-fact : (s : LevelState) (id : ℕ) (cell : Cell) → Facts s.book → IsMadeOf heard s id cell → Q id cell.rank (content_of cell)
    made-fact s id cell facts (OfHeld c e live same) =
        subst (λ (d : Cell). Q id d.rank (content_of d)) (sym same) (buries id c live (subst (Fact id) e (facts id) (some-live c.rank live)))
    made-fact s id cell facts (OfNew c src live same) =
        subst (λ (d : Cell). Q id d.rank (content_of d)) (sym same) (buries id c live (source id c.rank (content_of c) src))
    made-fact s id cell facts (IsNew src) = source id cell.rank (content_of cell) src

    way-facts : (a b : LevelState) → Way heard a b → Facts a.book → Facts b.book
    way-facts a b (Still s) facts = facts
    way-facts a c (Then _ b _ f g) facts = way-facts b c g (way-facts a b f facts)
    way-facts a b (Hear s place w h k named src good) facts = hear_lsp-fact s.book place w h (source h.id h.rank _ src) facts
    way-facts a b (Let s id) facts = facts
    way-facts a b (Entry s place w h k named good) facts = hear_entry-fact s.book place w h facts
    way-facts a b (Range s place start end entries) facts = (flags-facts s.book facts).5 place start end entries
    way-facts a b (Install s id contents cell k src good) facts = install-fact s id contents cell (source id cell.rank _ src) facts
    way-facts a b (Retire s id cell k dead made good) facts = retire-fact s id cell (made-fact s id cell facts (made sane)) facts
    way-facts a b (Age s id) facts = age_one-fact s id facts
    way-facts a b (Own s own) facts = facts
    way-facts a b (Wait s) facts = (flags-facts s.book facts).0
    way-facts a b (Sends s place) facts = (flags-facts s.book facts).1 place
    way-facts a b (Answers s place stirs) facts = (flags-facts s.book facts).2 place

    pub course-facts : (a b : LevelState) → Course heard a b → Facts a.book → Facts b.book
    course-facts a b (Goes _ _ w) facts = way-facts a b w facts
    course-facts a c (Next _ b _ f g) facts = course-facts b c g (course-facts a b f facts)
    course-facts a b (Closes s place stirs) facts = (flags-facts s.book facts).3 place
    course-facts a b (Opens s place) facts = (flags-facts s.book facts).4 place
