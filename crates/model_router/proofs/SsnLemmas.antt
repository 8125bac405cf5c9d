-- What a step does to SSN: from its deeds on one cell to both levels.
use Rattle.std.proofs.Common.{◌≡◌, ◌≢◌, ℕ, ◌<◌, ◌≤◌, ◌+◌, ◌*◌, nat_lt, nat_le, Bool, true, false, not, ◌&&◌, ◌||◌, ◌⊎◌, inl, inr, ⊎_elim, List, Option, Some, None, if◌then◌else◌, refl, sym, ap, ◌∙◌, subst, arith}
use Rattle.std.proofs.lemmas.Bool.Decides.{nat_tests}
use Rattle.std.specs.Option.{option_map}
use Rattle.model_router.specs.declared.whose.Whose.{Whose}
use Rattle.model_router.specs.Maps.{each}
use Rattle.model_router.specs.Ranks.{number_of, is_live}
use Rattle.model_router.specs.Sets.{has, with_one, without, only}
use Rattle.model_router.specs.Cells.{Cell, Heard, purged, purge_of, flagged, srm_sent, srm_off}
use Rattle.model_router.specs.Books.{Book, cell_at, rank_of, rank_at, ssn_of, ssn_at, is_full, set_cell}
use Rattle.model_router.specs.LspTable.{lsp_case, lsp_row, ssn_stored, hear_lsp}
use Rattle.model_router.specs.SnpTable.{SnpEntry, snp_case, snp_row, asked, is_missed, hear_entry, hear_range}
use Rattle.model_router.specs.LetGos.{lets_go}
use Rattle.model_router.specs.Routers.{Contents, LevelState}
use Rattle.model_router.specs.OwnLsps.{install, retire}
use Rattle.model_router.specs.Ageing.{aged, age_cell, age_one, wait_less}
use Rattle.model_router.specs.Pulls.{srm_due, sent, answered}
use Rattle.model_router.specs.Openings.{close, open_up}
use Rattle.model_router.specs.Deeds.{Hearing, with_this, Way, Still, Then, Hear, Let, Entry, Range, Install, Retire, Age, Own, Wait, Sends, Answers}
use Rattle.model_router.proofs.MapLemmas.{find-each}
use Rattle.model_router.proofs.SetLemmas.{has-with_one, has-without, has-only, has-none}
use Rattle.model_router.proofs.BookLemmas.{choose, same-or, cells-after}
use Rattle.model_router.proofs.FloodLemmas.{each-row, each-snp, covers-more}
use Rattle.model_router.specs.Flooding.{Keeps}
use Rattle.model_router.proofs.WayLemmas.{way-keeps}

-- ---- one cell

-- what a change of a cell does to SSN: it rises only on a circuit that is named, and stays with the rank, unless the
-- circuit is named or pulled
record CellOwes (names stirs : ℕ → Type 0) (old new : Option Cell) : Type 0 where
  rises : (q : ℕ) → ssn_of new q ≡ true → (ssn_of old q ≡ true) ⊎ names q
  stays : (q : ℕ) → ssn_of old q ≡ true → rank_of new ≡ rank_of old → 0 < rank_of old → (ssn_of new q ≡ true) ⊎ (names q ⊎ stirs q)

owes-same : (names stirs : ℕ → Type 0) (c : Option Cell) → CellOwes names stirs c c
owes-same names stirs c = record { rises = λ q e. inl e; stays = λ q e r s. inl e }

owes-level : (names stirs : ℕ → Type 0) (old new : Cell) → new.ssn ≡ old.ssn → CellOwes names stirs (Some old) (Some new)
owes-level names stirs old new e = record {
  rises = λ q k. inl (subst (λ (n : ℕ). has n q ≡ true) e k);
  stays = λ q k r s. inl (subst (λ (n : ℕ). has n q ≡ true) (sym e) k);
}

none-owes : (q : ℕ) {A : Type 0} → has 0 q ≡ true → A
none-owes q k = absurd (let n = has-none q in cc)

-- another rank, and SSN clear
owes-clear : (names stirs : ℕ → Type 0) (old : Option Cell) (new : Cell) → new.ssn ≡ 0 → new.rank ≢ rank_of old → CellOwes names stirs old (Some new)
owes-clear names stirs old new e other = record {
  rises = λ q k. none-owes q (subst (λ (n : ℕ). has n q ≡ true) e k);
  stays = λ q k r s. absurd (other r);
}

owes-erased : (names stirs : ℕ → Type 0) (old : Option Cell) → CellOwes names stirs old None
owes-erased names stirs old = record {
  rises = λ q k. absurd (cc);
  stays = λ q k r s. absurd (let e : 0 ≡ rank_of old = r in omega (arith, e, s));
}

-- SSN set on one circuit more, which is named
owes-on : (names stirs : ℕ → Type 0) (place : ℕ) (old new : Cell) → names place → new.ssn ≡ with_one old.ssn place → CellOwes names stirs (Some old) (Some new)
owes-on names stirs place old new named e = record {
  rises = λ q k. one-more q (subst (λ (n : ℕ). has n q ≡ true) e k);
  stays = λ q k r s. inl (subst (λ (n : ℕ). has n q ≡ true) (sym e) (covers-more old.ssn place q k));
}
  where
    one-more : (q : ℕ) → has (with_one old.ssn place) q ≡ true → (has old.ssn q ≡ true) ⊎ names q
    one-more q k = same-or (λ (t : Bool). (t || has old.ssn q) ≡ true → (has old.ssn q ≡ true) ⊎ names q) place q (λ same _. inr (subst names same named)) (λ _ h. inl h) (sym (has-with_one old.ssn place q) ∙ k)

-- SSN clear on one circuit, which is named or pulled
owes-off : (names stirs : ℕ → Type 0) (place : ℕ) (old new : Cell) → names place ⊎ stirs place → new.ssn ≡ without old.ssn place → CellOwes names stirs (Some old) (Some new)
owes-off names stirs place old new why e = record {
  rises = λ q k. inl (fewer q (subst (λ (n : ℕ). has n q ≡ true) e k));
  stays = λ q k r s. others q k;
}
  where
    fewer : (q : ℕ) → has (without old.ssn place) q ≡ true → has old.ssn q ≡ true
    fewer q k = same-or (λ (t : Bool). (not t && has old.ssn q) ≡ true → has old.ssn q ≡ true) place q (λ _ h. absurd (cc)) (λ _ h. h) (sym (has-without old.ssn place q) ∙ k)

    others : (q : ℕ) → has old.ssn q ≡ true → (has new.ssn q ≡ true) ⊎ (names q ⊎ stirs q)
    others q k = same-or (λ (t : Bool). (not t && has old.ssn q) ≡ has new.ssn q → (has new.ssn q ≡ true) ⊎ (names q ⊎ stirs q)) place q
        (λ same _. inr (subst (λ (n : ℕ). names n ⊎ stirs n) same why)) (λ _ h. inl (sym h ∙ k)) (sym (has-without old.ssn place q) ∙ ap (λ (n : ℕ). has n q) (sym e))

-- a change of what is held, where anything is
owes-map : (names stirs : ℕ → Type 0) (f : Cell → Cell) (old : Option Cell) → ((c : Cell) → old ≡ Some c → CellOwes names stirs (Some c) (Some (f c))) → CellOwes names stirs old (option_map f old)
owes-map names stirs f None h = owes-same names stirs None
owes-map names stirs f (Some c) h = h c refl

-- ---- the tables

sole-ssn : (names : ℕ → Type 0) (place q : ℕ) → names place → has (with_one 0 place) q ≡ true → names q
sole-ssn names place q named k = same-or (λ (t : Bool). (t || has 0 q) ≡ true → names q) place q (λ same _. subst names same named) (λ _ h. none-owes q h) (sym (has-with_one 0 place q) ∙ k)

-- what is stored has SSN on the circuit heard on alone
stored-ssn : (names : ℕ → Type 0) (p2p place : ℕ) (held : Option Cell) (q : ℕ) → names place → has (ssn_stored p2p place held) q ≡ true → names q
stored-ssn names p2p place held q named k = by-held held k
  where
    lone : (s : ℕ) → has (only s place) q ≡ true → names q
    lone s k = same-or (λ (t : Bool). (t && has s q) ≡ true → names q) place q (λ same _. subst names same named) (λ _ h. absurd (cc)) (sym (has-only s place q) ∙ k)

    by-held : (held : Option Cell) → has (ssn_stored p2p place held) q ≡ true → names q
    by-held None k = choose (λ (n : ℕ). has n q ≡ true → names q) (has p2p place) (with_one 0 place) 0 (λ _. sole-ssn names place q named) (λ _ h. none-owes q h) k
    by-held (Some c) k = choose (λ (n : ℕ). has n q ≡ true → names q) (has p2p place) (with_one 0 place) (only c.ssn place) (λ _. sole-ssn names place q named) (λ _. lone c.ssn) k

purge-above : (rank held : ℕ) → is_live rank ≡ true → held ≤ rank → 2 * number_of rank + 1 ≢ held
purge-above rank held live le e = absurd (let k : rank < 2 * number_of rank + 1 = grind (arith, nat_tests, live) in omega (arith, k, le, e))

row-owes : (names stirs : ℕ → Type 0) (b : Book) (place : ℕ) (w : Whose) (h : Heard) → names place → (held : Option Cell) → CellOwes names stirs held (lsp_row (lsp_case w held h) b.opened b.p2p place held h)
row-owes names stirs b place w h named held = each-row (λ row. CellOwes names stirs held (lsp_row row b.opened b.p2p place held h)) w held h
    (λ _ _ _. owes-same names stirs held)
    (λ newer live. owes-clear names stirs held (flagged (purge_of (number_of h.rank) h.flags h.octets) b.opened 0) refl (purge-above h.rank (rank_of held) live (omega (arith, newer))))
    (λ _ _. owes-erased names stirs held)
    (λ same live. owes-map names stirs _ held (λ c e. let r : c.rank ≡ h.rank = subst (λ (o : Option Cell). rank_of o ≡ h.rank) e same in owes-clear names stirs (Some c) (flagged (purged c) b.opened 0) refl (purge-above c.rank c.rank (rw r live) (omega arith))))
    (λ newer. record {
      rises = λ q k. inr (stored-ssn names b.p2p place held q named k);
      stays = λ q k r s. absurd (let e : h.rank ≡ rank_of held = r in omega (arith, newer, e));
    })
    (λ _. owes-map names stirs _ held (λ c e. choose (λ (n : ℕ). CellOwes names stirs (Some c) (Some (record (srm_off c place) { ssn = n }))) (has b.p2p place) (with_one c.ssn place) c.ssn (λ _. owes-on names stirs place c _ named refl) (λ _. owes-level names stirs c _ refl)))
    (λ _. owes-map names stirs _ held (λ c e. owes-off names stirs place c _ (inl named) refl))

asked-owes : (names stirs : ℕ → Type 0) (full : Bool) (place : ℕ) → names place → (held : Option Cell) → CellOwes names stirs held (asked full place held)
asked-owes names stirs full place named (Some c) = owes-on names stirs place c _ named refl
asked-owes names stirs true place named None = owes-same names stirs None
asked-owes names stirs false place named None = record {
  rises = λ q k. inr (sole-ssn names place q named k);
  stays = λ q k r s. absurd (cc);
}

entry-owes : (names stirs : ℕ → Type 0) (b : Book) (place : ℕ) (w : Whose) (h : SnpEntry) → names place → (held : Option Cell) → CellOwes names stirs held (snp_row (snp_case w held h) (is_full b) b.opened b.p2p place held)
entry-owes names stirs b place w h named held = each-snp (λ row. CellOwes names stirs held (snp_row row (is_full b) b.opened b.p2p place held)) w held h
    (owes-same names stirs held)
    (λ _ _ _. owes-same names stirs held)
    (λ same live. owes-map names stirs _ held (λ c e. let r : c.rank ≡ h.rank = subst (λ (o : Option Cell). rank_of o ≡ h.rank) e same in owes-clear names stirs (Some c) (flagged (purged c) b.opened 0) refl (purge-above c.rank c.rank (rw r live) (omega arith))))
    (λ _. owes-map names stirs _ held (λ c e. owes-level names stirs c _ refl))
    (λ _. owes-map names stirs _ held (λ c e. owes-off names stirs place c _ (inl named) refl))
    (λ _. owes-map names stirs _ held (λ c e. owes-on names stirs place c _ named refl))
    (asked-owes names stirs (is_full b) place named held)
    (owes-same names stirs held)

-- ---- a book

record Owes (names : ℕ → ℕ → Type 0) (stirs : ℕ → Type 0) (old new : Book) : Type 0 where
  at : (id : ℕ) → CellOwes (λ (q : ℕ). names q id) stirs (cell_at old id) (cell_at new id)

set-owes : (names : ℕ → ℕ → Type 0) (stirs : ℕ → Type 0) (b : Book) (id : ℕ) (c : Option Cell) → CellOwes (λ (q : ℕ). names q id) stirs (cell_at b id) c → Owes names stirs b (set_cell b id c)
set-owes names stirs b id c h = record { at = cells-after (λ y cell. CellOwes (λ (q : ℕ). names q y) stirs (cell_at b y) cell) b id c h (λ y. owes-same (λ (q : ℕ). names q y) stirs (cell_at b y)) }

each-owes : (names : ℕ → ℕ → Type 0) (stirs : ℕ → Type 0) (b t : Book) (f : ℕ → Cell → Cell) → t.cells ≡ each f b.cells → ((id : ℕ) (c : Cell) → CellOwes (λ (q : ℕ). names q id) stirs (Some c) (Some (f id c))) → Owes names stirs b t
each-owes names stirs b t f e h = record { at = λ id. rw (e, find-each f b.cells id) (owes-map (λ (q : ℕ). names q id) stirs (f id) (cell_at b id) (λ c _. h id c)) }

same-ssn : (t : Bool) (c d : Cell) → d.ssn ≡ c.ssn → (if t then d else c).ssn ≡ c.ssn
same-ssn true c d e = e
same-ssn false c d e = refl

hear_lsp-owes : (names : ℕ → ℕ → Type 0) (stirs : ℕ → Type 0) (b : Book) (place : ℕ) (w : Whose) (h : Heard) → names place h.id → Owes names stirs b (hear_lsp b place w h)
unfolding hear_lsp
hear_lsp-owes names stirs b place w h named = set-owes names stirs b h.id _ (row-owes (λ (q : ℕ). names q h.id) stirs b place w h named (cell_at b h.id))

hear_entry-owes : (names : ℕ → ℕ → Type 0) (stirs : ℕ → Type 0) (b : Book) (place : ℕ) (w : Whose) (h : SnpEntry) → names place h.id → Owes names stirs b (hear_entry b place w h)
unfolding hear_entry
hear_entry-owes names stirs b place w h named = set-owes names stirs b h.id _ (entry-owes (λ (q : ℕ). names q h.id) stirs b place w h named (cell_at b h.id))

hear_range-owes : (names : ℕ → ℕ → Type 0) (stirs : ℕ → Type 0) (b : Book) (place start end : ℕ) (entries : List SnpEntry) → Owes names stirs b (hear_range b place start end entries)
unfolding hear_range
hear_range-owes names stirs b place start end entries = each-owes names stirs b _ _ refl (λ id c. owes-level _ stirs c _ (same-ssn (is_missed start end entries id c) c _ refl))

wait_less-owes : (names : ℕ → ℕ → Type 0) (stirs : ℕ → Type 0) (b : Book) → Owes names stirs b (wait_less b)
unfolding wait_less
wait_less-owes names stirs b = each-owes names stirs b _ _ refl (λ id c. owes-level _ stirs c _ refl)

sent-owes : (names : ℕ → ℕ → Type 0) (stirs : ℕ → Type 0) (b : Book) (place : ℕ) → Owes names stirs b (sent b place)
unfolding sent
sent-owes names stirs b place = each-owes names stirs b _ _ refl (λ id c. owes-level _ stirs c _ (same-ssn (srm_due place c) c _ (choose (λ (d : Cell). d.ssn ≡ c.ssn) (has b.p2p place) (srm_sent c place) (srm_off c place) (λ _. refl) (λ _. refl))))

answered-owes : (names : ℕ → ℕ → Type 0) (stirs : ℕ → Type 0) (b : Book) (place : ℕ) → stirs place → Owes names stirs b (answered b place)
unfolding answered
answered-owes names stirs b place pulled = each-owes names stirs b _ _ refl (λ id c. owes-off _ stirs place c _ (inr pulled) refl)

install-owes : (names : ℕ → ℕ → Type 0) (stirs : ℕ → Type 0) (s : LevelState) (id : ℕ) (contents : Contents) (c : Cell) → rank_at s.book id < c.rank → Owes names stirs s.book (install s id contents c).book
unfolding install
install-owes names stirs s id contents c above = set-owes names stirs s.book id _ (owes-clear _ stirs (cell_at s.book id) _ refl (λ e. absurd (let k : c.rank ≡ rank_at s.book id = e in omega (arith, above, k))))

retire-owes : (names : ℕ → ℕ → Type 0) (stirs : ℕ → Type 0) (s : LevelState) (id : ℕ) (c : Cell) → rank_at s.book id < c.rank → Owes names stirs s.book (retire s id c).book
unfolding retire
retire-owes names stirs s id c above = set-owes names stirs s.book id _ (owes-clear _ stirs (cell_at s.book id) _ refl (λ e. absurd (let k : c.rank ≡ rank_at s.book id = e in omega (arith, above, k))))

aged-owes : (names stirs : ℕ → Type 0) (opened : ℕ) (c : Cell) → CellOwes names stirs (Some c) (aged opened c)
aged-owes names stirs opened c = choose (CellOwes names stirs (Some c)) (nat_le 2 c.left) _ _ (λ _. owes-level names stirs c _ refl)
    (λ _. choose (CellOwes names stirs (Some c)) (is_live c.rank) (Some (flagged (purged c) opened 0)) None (λ live. owes-clear names stirs (Some c) _ refl (purge-above c.rank c.rank live (omega arith))) (λ _. owes-erased names stirs (Some c)))

age_cell-owes : (names : ℕ → ℕ → Type 0) (stirs : ℕ → Type 0) (s : LevelState) (id : ℕ) (held : Option Cell) → cell_at s.book id ≡ held → Owes names stirs s.book (age_cell s id held).book
age_cell-owes names stirs s id None e = record { at = λ y. owes-same _ stirs (cell_at s.book y) }
age_cell-owes names stirs s id (Some c) e = set-owes names stirs s.book id _ (rw e (aged-owes _ stirs s.book.opened c))

age_one-owes : (names : ℕ → ℕ → Type 0) (stirs : ℕ → Type 0) (s : LevelState) (id : ℕ) → Owes names stirs s.book (age_one s id).book
unfolding age_one
age_one-owes names stirs s id = age_cell-owes names stirs s id (cell_at s.book id) refl

-- ---- ways

book-same : (names : ℕ → ℕ → Type 0) (stirs : ℕ → Type 0) (b : Book) → Owes names stirs b b
book-same names stirs b = record { at = λ id. owes-same _ stirs (cell_at b id) }

-- what a way does: the same, where the LSP ID isn't let go
pub record WayOwes (heard : Hearing) (a b : LevelState) : Type 0 where
  pub rises : (id q : ℕ) → ssn_at b.book id q ≡ true → (ssn_at a.book id q ≡ true) ⊎ heard.names q id
  pub stays : (id q : ℕ) → lets_go b.gone id ≡ false → ssn_at a.book id q ≡ true → rank_at b.book id ≡ rank_at a.book id → 0 < rank_at a.book id → (ssn_at b.book id q ≡ true) ⊎ (heard.names q id ⊎ heard.stirs q)

of-book : (heard : Hearing) (a b : LevelState) → Owes heard.names heard.stirs a.book b.book → WayOwes heard a b
of-book heard a b o = record { rises = λ id q k. (o.at id).rises q k; stays = λ id q g k r s. (o.at id).stays q k r s }

pub way-then : (heard : Hearing) (a b c : LevelState) → Keeps heard.rank a b → Keeps heard.rank b c → WayOwes heard a b → WayOwes heard b c → WayOwes heard a c
way-then heard a b c wf wg f g = record {
  rises = λ id q k. ⊎_elim (λ m. f.rises id q m) (λ n. inr n) (g.rises id q k);
  stays = λ id q gone k r s.
      let gb : lets_go b.gone id ≡ false = still-kept (lets_go b.gone id) (lets_go c.gone id) (wg.grows id) gone in
      let one : rank_at a.book id ≤ rank_at b.book id = wf.floods.rank id gb in
      let two : rank_at b.book id ≤ rank_at c.book id = wg.floods.rank id gone in
      let mid : rank_at b.book id ≡ rank_at a.book id = omega (arith, one, two, r) in
      let last : rank_at c.book id ≡ rank_at b.book id = omega (arith, one, two, r) in
      ⊎_elim (λ m. g.stays id q gone m last (omega (arith, mid, s))) (λ n. inr n) (f.stays id q gb k mid s);
}
  where
    still-kept : (x y : Bool) → (x ≡ true → y ≡ true) → y ≡ false → x ≡ false
    still-kept true y h e = absurd (let k = h refl in cc)
    still-kept false y h e = refl

pub way-owes : (heard : Hearing) (a b : LevelState) → Way heard a b → WayOwes heard a b
way-owes heard a b (Still s) = of-book heard s s (book-same _ _ s.book)
way-owes heard a c (Then _ b _ f g) = way-then heard a b c (way-keeps heard a b f) (way-keeps heard b c g) (way-owes heard a b f) (way-owes heard b c g)
way-owes heard a b (Hear s place w h k named src good) = of-book heard s _ (hear_lsp-owes heard.names heard.stirs s.book place w h named)
way-owes heard a b (Let s id) = of-book heard s _ (book-same _ _ s.book)
way-owes heard a b (Entry s place w h k named good) = of-book heard s _ (hear_entry-owes heard.names heard.stirs s.book place w h named)
way-owes heard a b (Range s place start end entries) = of-book heard s _ (hear_range-owes heard.names heard.stirs s.book place start end entries)
way-owes heard a b (Install s id contents cell k src good) = of-book heard s _ (install-owes heard.names heard.stirs s id contents cell k)
way-owes heard a b (Retire s id cell k dead made good) = of-book heard s _ (retire-owes heard.names heard.stirs s id cell k)
way-owes heard a b (Age s id) = of-book heard s _ (age_one-owes heard.names heard.stirs s id)
way-owes heard a b (Own s own) = of-book heard s _ (book-same _ _ s.book)
way-owes heard a b (Wait s) = of-book heard s _ (wait_less-owes heard.names heard.stirs s.book)
way-owes heard a b (Sends s place) = of-book heard s _ (sent-owes heard.names heard.stirs s.book place)
way-owes heard a b (Answers s place stirs) = of-book heard s _ (answered-owes heard.names heard.stirs s.book place stirs)

-- ---- openings and closings

pub off-owes : (heard : Hearing) (s : LevelState) (place : ℕ) → heard.stirs place → WayOwes heard s (with_this s (close s.book place))
unfolding close
off-owes heard s place stirred = of-book heard s _ (each-owes heard.names heard.stirs s.book _ _ refl (λ id c. owes-off _ heard.stirs place c _ (inr stirred) refl))

pub level-owes : (heard : Hearing) (s : LevelState) (place : ℕ) → WayOwes heard s (with_this s (open_up s.book place))
unfolding open_up
level-owes heard s place = of-book heard s _ (each-owes heard.names heard.stirs s.book _ _ refl (λ id c. owes-level _ heard.stirs c _ (same-ssn (has s.book.p2p place) c _ (same-ssn (nat_lt 0 c.rank) c _ refl))))
