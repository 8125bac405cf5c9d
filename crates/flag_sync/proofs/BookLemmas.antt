-- What a call does to entries and rows, as what it does to the book of the definitions.
use Rattle.std.proofs.Common.{◌≡◌, Bool, true, false, if◌then◌else◌, ℕ, ◌+◌, ◌-◌, ◌*◌, ◌/◌, ◌^◌, ◌<◌, eqb, nat_lt, inl, inr, List, [], ◌∷◌, length, Option, Some, None, IsSome, is_some, refl, sym, ap, ap₂, ◌∙◌, subst, arith}
use Rattle.std.proofs.lemmas.Bool.Decides.{nat_tests}
use Rattle.std.specs.Option.{option_map}
use Rattle.isis_base.specs.declared.identifiers.LspId.{LspId}
use Rattle.isis_base.specs.declared.key.Key.{Key}
use Rattle.isis_base.specs.Identifiers.{lsp_number}
use Rattle.isis_base.specs.Keys.{rank}
use Rattle.model_router.specs.Maps as cells
use Rattle.model_router.specs.Sets.{has, only}
use Rattle.model_router.specs.Waits.{no_waits}
use Rattle.model_router.specs.Cells.{Cell, flagged, purged, header_of, ssn_on, empty_cell}
use Rattle.model_router.specs.Books.{Book, cell_at, rank_of, rank_at, checksum_of, srm_of, srm_at, ssn_of, ssn_at, is_full, risen, set_cell}
use Rattle.model_router.specs.LspTable.{ssn_stored}
use Rattle.model_router.specs.SnpTable.{asked}
use Rattle.lsp_store.specs.declared.entry.Entry.{Entry}
use Rattle.lsp_store.specs.Maps.{find, put, erase, change_at, change_all, RisesFrom}
use Rattle.lsp_store.specs.Databases.{Database, key_of, count_after, with_entry, without_entry, with_change}
use Rattle.flag_sync.specs.declared.deed.Deed.{Deed}
use Rattle.flag_sync.specs.declared.deed.SrmDeed.{SrmDeed}
use Rattle.flag_sync.specs.declared.deed.SrmDeed.TheVariants as srm
use Rattle.flag_sync.specs.declared.deed.SsnDeed.{SsnDeed}
use Rattle.flag_sync.specs.declared.deed.SsnDeed.TheVariants as ssn
use Rattle.flag_sync.specs.declared.flag_row.FlagRow.{FlagRow}
use Rattle.flag_sync.specs.FlagRows.{cell_of, srm_done, ssn_done, done}
use Rattle.flag_sync.specs.Deeds.{srm_cell, ssn_cell, deed_cell}
use Rattle.flag_sync.specs.declared.known.Known.{Known}
use Rattle.flag_sync.specs.Known.{Knows}
use Rattle.flag_sync.specs.Entries.{HasHeader, AllHaveHeaders, purged_entry}
use Rattle.flag_sync.specs.BookStates.{BookState, cells_of, book_of, AreBeside}
use Rattle.flag_sync.proofs.CellLemmas.{pair_up, find-cells, rank-cells, length-cells, both-or-none, absent-erase, put-cells, erase-cells, change-cells, same-change, find-change, absent-change, found-header, each-cells}

-- a deed on a row is the deed on the cell
deed-srm : (deed : SrmDeed) (place : ℕ) (entry : Entry) (row : FlagRow) → cell_of entry (srm_done deed place row) ≡ srm_cell deed place (cell_of entry row)
deed-srm srm.Keep place entry row = refl
deed-srm srm.Set place entry row = refl
deed-srm srm.Clear place entry row = refl
deed-srm srm.Wait place entry row = refl

deed-ssn : (deed : SsnDeed) (place : ℕ) (entry : Entry) (row : FlagRow) → cell_of entry (ssn_done deed place row) ≡ ssn_cell deed place (cell_of entry row)
deed-ssn ssn.Keep place entry row = refl
deed-ssn ssn.Set place entry row = refl
deed-ssn ssn.Clear place entry row = refl

pub deed-cells : (deed : Deed) (entry : Entry) (row : FlagRow) → cell_of entry (done deed row) ≡ deed_cell deed (cell_of entry row)
deed-cells deed entry row = deed-ssn deed.ssn deed.place entry (srm_done deed.srm deed.place row) ∙ ap (ssn_cell deed.ssn deed.place) (deed-srm deed.srm deed.place entry row)

-- the count of changes, as both sides write it
count-same : (changes x y held : ℕ) → held ≡ x → (if eqb x y then changes else risen changes) ≡ (if eqb y held then changes else risen changes)
count-same changes x y held e = grind (arith, nat_tests, e)

absent-with : (f : Entry → Entry) (d : Database) (n : ℕ) → find d.entries n ≡ None → with_change d n f ≡ d
absent-with f d n e =
    let same = absent-change f d.entries n e in
    let count = count-stays d.changes (rank (key_of (find d.entries n))) in
    ap₂ (λ (es : List (LspId × Entry)) (k : ℕ). let x : Database = record { entries = es; spare = d.spare; changes = k } in x) same
    (ap (λ (es : List (LspId × Entry)). count_after d.changes (key_of (find d.entries n)) (key_of (find es n))) same ∙ count)
  where
    count-stays : (changes x : ℕ) → (if eqb x x then changes else (if nat_lt changes (2 ^ 64 - 1) then changes + 1 else changes)) ≡ changes
    count-stays changes x = grind (arith, nat_tests)

-- the purge of an entry with a key
purge-key : (key : Key) → 2 * key.number + 1 ≡ 2 * (rank (Some key) / 2) + 1
purge-key key = marked key.number key.purged
  where
    marked : (n : ℕ) (p : Bool) → 2 * n + 1 ≡ 2 * ((2 * n + (if p then 1 else 0)) / 2) + 1
    marked n true = omega arith
    marked n false = omega arith

purge-cell : (entry : Entry) (row : FlagRow) (opened : ℕ) → 0 < rank entry.key → HasHeader entry.key entry.octets → cell_of (purged_entry entry) (record { srm = opened; ssn = 0; waits = 0 ∷ 0 ∷ 0 ∷ [] }) ≡ flagged (purged (cell_of entry row)) opened 0
purge-cell entry row opened some head = cases entry.key refl some head
  where
    cases : (key : Option Key) → entry.key ≡ key → 0 < rank key → HasHeader key entry.octets → cell_of (purged_entry entry) (record { srm = opened; ssn = 0; waits = 0 ∷ 0 ∷ 0 ∷ [] }) ≡ flagged (purged (cell_of entry row)) opened 0
    cases None e some head = absurd (omega (arith, some))
    cases (Some key) e some head =
        let long : nat_lt (length entry.octets) 27 ≡ false = grind (arith, nat_tests, head) in
        let r = purge-key key in
        rw (long, e) (ap (λ (k : ℕ). let c : Cell = record { rank = k; checksum = 0; flags = entry.flags; left = 60; octets = header_of entry.octets; srm = opened; ssn = 0; waits = no_waits } in c) r)

module _ (s : BookState) (b : AreBeside s.store.entries s.rows) (up : RisesFrom 0 s.store.entries) where
  abbrev with_parts : List (ℕ × Cell) → ℕ → Book
  with_parts cs k = record { cells = cs; opened = s.opened; p2p = s.points; changes = k }

  pub held : (n : ℕ) → cell_at (book_of s) n ≡ pair_up (find s.store.entries n) (find s.rows n)
  held n = find-cells s.store.entries s.rows n b

  pub book-put : (id : LspId) (entry : Entry) (row : FlagRow) → book_of (record s { store = with_entry s.store id entry; rows = put s.rows id row }) ≡ set_cell (book_of s) (lsp_number id) (Some (cell_of entry row))
  unfolding set_cell
  book-put id entry row =
      ap₂ with_parts (put-cells s.store.entries s.rows id entry row b)
      (count-same s.store.changes (rank (key_of (find s.store.entries (lsp_number id)))) (rank entry.key) (rank_at (book_of s) (lsp_number id)) (rank-cells s.store.entries s.rows (lsp_number id) b))

  pub book-erase : (n : ℕ) → book_of (record s { store = without_entry s.store n; rows = erase s.rows n }) ≡ set_cell (book_of s) n None
  unfolding set_cell
  book-erase n =
      ap₂ with_parts (erase-cells s.store.entries s.rows n 0 b up)
      (count-same s.store.changes (rank (key_of (find s.store.entries n))) 0 (rank_at (book_of s) n) (rank-cells s.store.entries s.rows n b))

  pub book-change : (f : Entry → Entry) (g : FlagRow → FlagRow) (n : ℕ) (entry : Entry) (row : FlagRow) → find s.store.entries n ≡ Some entry → find s.rows n ≡ Some row → book_of (record s { store = with_change s.store n f; rows = change_at g s.rows n }) ≡ set_cell (book_of s) n (Some (cell_of (f entry) (g row)))
  unfolding set_cell
  book-change f g n entry row e h =
      ap₂ with_parts (change-cells f g s.store.entries s.rows n 0 entry row b up e h)
      (ap (λ (o : Option Entry). count_after s.store.changes (key_of (find s.store.entries n)) (key_of o)) (find-change f s.store.entries n entry e)
      ∙ count-same s.store.changes (rank (key_of (find s.store.entries n))) (rank (f entry).key) (rank_at (book_of s) n) (rank-cells s.store.entries s.rows n b))

  pub book-rows : (g : FlagRow → FlagRow) (n : ℕ) (entry : Entry) (row : FlagRow) → find s.store.entries n ≡ Some entry → find s.rows n ≡ Some row → book_of (record s { rows = change_at g s.rows n }) ≡ set_cell (book_of s) n (Some (cell_of entry (g row)))
  unfolding set_cell
  book-rows g n entry row e h =
      ap₂ with_parts (ap (λ (es : List (LspId × Entry)). cells_of es (change_at g s.rows n)) (sym (same-change s.store.entries n)) ∙ change-cells (λ v. v) g s.store.entries s.rows n 0 entry row b up e h)
      (stays (rank entry.key) (rank_at (book_of s) n) (rank-cells s.store.entries s.rows n b ∙ ap (λ (o : Option Entry). rank (key_of o)) e))
    where
      stays : (y z : ℕ) → z ≡ y → s.store.changes ≡ (if eqb y z then s.store.changes else risen s.store.changes)
      stays y z q = grind (arith, nat_tests, q)

  pub book-none : (n : ℕ) → find s.store.entries n ≡ None → find s.rows n ≡ None → book_of s ≡ set_cell (book_of s) n None
  unfolding set_cell
  book-none n e h =
      ap₂ with_parts (sym (ap₂ cells_of (absent-erase s.store.entries n e) (absent-erase s.rows n h)) ∙ erase-cells s.store.entries s.rows n 0 b up)
      (stays (rank_at (book_of s) n) (rank-cells s.store.entries s.rows n b ∙ ap (λ (o : Option Entry). rank (key_of o)) e))
    where
      stays : (z : ℕ) → z ≡ 0 → s.store.changes ≡ (if eqb 0 z then s.store.changes else risen s.store.changes)
      stays z q = grind (arith, nat_tests, q)

  -- a deed on a row that may be there
  pub book-deed : (deed : Deed) (n : ℕ) → book_of (record s { rows = change_at (done deed) s.rows n }) ≡ set_cell (book_of s) n (option_map (deed_cell deed) (cell_at (book_of s) n))
  book-deed deed n = elim (both-or-none s.store.entries s.rows n b) [
    | inl h ↦
        let none : cell_at (book_of s) n ≡ None = held n ∙ ap₂ pair_up h.0 h.1 in
        ap (λ (rs : List (LspId × FlagRow)). book_of (record s { rows = rs })) (absent-change (done deed) s.rows n h.1)
        ∙ book-none n h.0 h.1 ∙ ap (λ (c : Option Cell). set_cell (book_of s) n (option_map (deed_cell deed) c)) (sym none)
    | inr h ↦
        let some : cell_at (book_of s) n ≡ Some (cell_of h.0 h.1) = held n ∙ ap₂ pair_up h.2 h.3 in
        book-rows (done deed) n h.0 h.1 h.2 h.3 ∙ ap (λ (c : Cell). set_cell (book_of s) n (Some c)) (deed-cells deed h.0 h.1)
        ∙ ap (λ (c : Option Cell). set_cell (book_of s) n (option_map (deed_cell deed) c)) (sym some)
  ]

  -- a change of an entry that may be there
  pub book-entries : (f : Entry → Entry) (g : Cell → Cell) (n : ℕ) → ((entry : Entry) (row : FlagRow) → cell_of (f entry) row ≡ g (cell_of entry row)) → book_of (record s { store = with_change s.store n f }) ≡ set_cell (book_of s) n (option_map g (cell_at (book_of s) n))
  book-entries f g n same = elim (both-or-none s.store.entries s.rows n b) [
    | inl h ↦
        let none : cell_at (book_of s) n ≡ None = held n ∙ ap₂ pair_up h.0 h.1 in
        ap (λ (d : Database). book_of (record s { store = d })) (absent-with f s.store n h.0)
        ∙ book-none n h.0 h.1 ∙ ap (λ (c : Option Cell). set_cell (book_of s) n (option_map g c)) (sym none)
    | inr h ↦
        let some : cell_at (book_of s) n ≡ Some (cell_of h.0 h.1) = held n ∙ ap₂ pair_up h.2 h.3 in
        ap (λ (rs : List (LspId × FlagRow)). book_of (record s { store = with_change s.store n f; rows = rs })) (sym (same-change s.rows n))
        ∙ book-change f (λ v. v) n h.0 h.1 h.2 h.3 ∙ ap (λ (c : Cell). set_cell (book_of s) n (Some c)) (same h.0 h.1)
        ∙ ap (λ (c : Option Cell). set_cell (book_of s) n (option_map g c)) (sym some)
  ]

  -- an entry with a key becomes its purge
  pub book-purge : AllHaveHeaders s.store.entries → (n : ℕ) → 0 < rank_at (book_of s) n → book_of (record s { store = with_change s.store n purged_entry; rows = change_at (λ _. record { srm = s.opened; ssn = 0; waits = 0 ∷ 0 ∷ 0 ∷ [] }) s.rows n }) ≡ set_cell (book_of s) n (option_map (λ (cell : Cell). flagged (purged cell) s.opened 0) (cell_at (book_of s) n))
  book-purge headers n key = elim (both-or-none s.store.entries s.rows n b) [
    | inl h ↦
        let rank : rank_at (book_of s) n ≡ 0 = ap rank_of (held n ∙ ap₂ pair_up h.0 h.1) in
        absurd (omega (arith, rank, key))
    | inr h ↦
        let cell : cell_at (book_of s) n ≡ Some (cell_of h.0 h.1) = held n ∙ ap₂ pair_up h.2 h.3 in
        let some : 0 < rank h.0.key = subst (λ (c : Option Cell). 0 < rank_of c) cell key in
        book-change purged_entry (λ _. record { srm = s.opened; ssn = 0; waits = 0 ∷ 0 ∷ 0 ∷ [] }) n h.0 h.1 h.2 h.3
        ∙ ap (λ (c : Cell). set_cell (book_of s) n (Some c)) (purge-cell h.0 h.1 s.opened some (found-header s.store.entries n h.0 headers h.2))
        ∙ ap (λ (c : Option Cell). set_cell (book_of s) n (option_map (λ (k : Cell). flagged (purged k) s.opened 0) c)) (sym cell)
  ]

  -- flags that are asked for
  pub srm-found : (n place : ℕ) (row : FlagRow) → find s.rows n ≡ Some row → srm_at (book_of s) n place ≡ has row.srm place
  srm-found n place row e = elim (both-or-none s.store.entries s.rows n b) [
    | inl h ↦ absurd (let f = sym h.1 ∙ e in grind (arith, f))
    | inr h ↦ ap (λ (c : Option Cell). srm_of c place) (held n ∙ ap₂ pair_up h.2 e)
  ]

  pub srm-none : (n place : ℕ) → find s.rows n ≡ None → srm_at (book_of s) n place ≡ false
  srm-none n place e = elim (both-or-none s.store.entries s.rows n b) [
    | inl h ↦ ap (λ (c : Option Cell). srm_of c place) (held n ∙ ap₂ pair_up h.0 e)
    | inr h ↦ absurd (let f = sym h.3 ∙ e in grind (arith, f))
  ]

  pub ssn-found : (n place : ℕ) (row : FlagRow) → find s.rows n ≡ Some row → ssn_at (book_of s) n place ≡ has row.ssn place
  ssn-found n place row e = elim (both-or-none s.store.entries s.rows n b) [
    | inl h ↦ absurd (let f = sym h.1 ∙ e in grind (arith, f))
    | inr h ↦ ap (λ (c : Option Cell). ssn_of c place) (held n ∙ ap₂ pair_up h.2 e)
  ]

  pub ssn-none : (n place : ℕ) → find s.rows n ≡ None → ssn_at (book_of s) n place ≡ false
  ssn-none n place e = elim (both-or-none s.store.entries s.rows n b) [
    | inl h ↦ ap (λ (c : Option Cell). ssn_of c place) (held n ∙ ap₂ pair_up h.0 e)
    | inr h ↦ absurd (let f = sym h.3 ∙ e in grind (arith, f))
  ]

  pub knows-found : (n : ℕ) (entry : Entry) (known : Known) → find s.store.entries n ≡ Some entry → known.key ≡ entry.key → known.checksum ≡ entry.checksum → Knows known (cell_at (book_of s) n)
  knows-found n entry known e k l = elim (both-or-none s.store.entries s.rows n b) [
    | inl h ↦ absurd (let f = sym h.0 ∙ e in grind (arith, f))
    | inr h ↦
        let cell : cell_at (book_of s) n ≡ Some (cell_of entry h.1) = held n ∙ ap₂ pair_up e h.3 in
        record { key = ap rank_of cell ∙ ap rank (sym k); sum = ap checksum_of cell ∙ sym l }
  ]

  pub knows-none : (n : ℕ) (known : Known) → find s.store.entries n ≡ None → known.key ≡ None → known.checksum ≡ 0 → Knows known (cell_at (book_of s) n)
  knows-none n known e k l = elim (both-or-none s.store.entries s.rows n b) [
    | inl h ↦
        let cell : cell_at (book_of s) n ≡ None = held n ∙ ap₂ pair_up h.0 h.1 in
        record { key = ap rank_of cell ∙ ap rank (sym k); sum = ap checksum_of cell ∙ sym l }
    | inr h ↦ absurd (let f = sym h.2 ∙ e in grind (arith, f))
  ]

  -- nothing changes
  pub book-stays : (n : ℕ) → book_of s ≡ set_cell (book_of s) n (cell_at (book_of s) n)
  book-stays n = elim (both-or-none s.store.entries s.rows n b) [
    | inl h ↦
        let none : cell_at (book_of s) n ≡ None = held n ∙ ap₂ pair_up h.0 h.1 in
        book-none n h.0 h.1 ∙ ap (set_cell (book_of s) n) (sym none)
    | inr h ↦
        let some : cell_at (book_of s) n ≡ Some (cell_of h.0 h.1) = held n ∙ ap₂ pair_up h.2 h.3 in
        ap (λ (rs : List (LspId × FlagRow)). book_of (record s { rows = rs })) (sym (same-change s.rows n))
        ∙ book-rows (λ v. v) n h.0 h.1 h.2 h.3 ∙ ap (set_cell (book_of s) n) (sym some)
  ]

  -- SSN behind a newer LSP, where it isn't on a point-to-point circuit
  pub stored-found : (n place : ℕ) (row : FlagRow) → find s.rows n ≡ Some row → has s.points place ≡ false → only row.ssn place ≡ ssn_stored s.points place (cell_at (book_of s) n)
  stored-found n place row e p = elim (both-or-none s.store.entries s.rows n b) [
    | inl h ↦ absurd (let f = sym h.1 ∙ e in grind (arith, f))
    | inr h ↦
        let cell : cell_at (book_of s) n ≡ Some (cell_of h.0 row) = held n ∙ ap₂ pair_up h.2 e in
        rw (cell, p) refl
  ]

  pub stored-none : (n place : ℕ) → find s.rows n ≡ None → has s.points place ≡ false → 0 ≡ ssn_stored s.points place (cell_at (book_of s) n)
  stored-none n place e p = elim (both-or-none s.store.entries s.rows n b) [
    | inl h ↦
        let cell : cell_at (book_of s) n ≡ None = held n ∙ ap₂ pair_up h.0 h.1 in
        rw (cell, p) refl
    | inr h ↦ absurd (let f = sym h.3 ∙ e in grind (arith, f))
  ]

  -- an LSP ID that is asked for
  pub full-is : is_full (book_of s) ≡ eqb (length s.store.entries) 65536
  full-is = ap (λ (k : ℕ). eqb k 65536) (length-cells s.store.entries s.rows b)

  -- whether there is an entry
  pub held-some : (n : ℕ) → is_some (find s.store.entries n) ≡ is_some (cell_at (book_of s) n)
  held-some n = elim (both-or-none s.store.entries s.rows n b) [
    | inl h ↦ ap is_some h.0 ∙ sym (ap is_some (held n ∙ ap₂ pair_up h.0 h.1))
    | inr h ↦ ap is_some h.2 ∙ sym (ap is_some (held n ∙ ap₂ pair_up h.2 h.3))
  ]

  -- where an entry finds room
  pub held-found : (n : ℕ) → IsSome (cell_at (book_of s) n) → find s.store.entries n ≡ None → ⊥
  held-found n some none =
      let cell : cell_at (book_of s) n ≡ None = held n ∙ ap (λ (o : Option Entry). pair_up o (find s.rows n)) none in
      let h = subst (λ (o : Option Cell). IsSome o) cell some in
      absurd (grind (arith, h))

  pub asked-found : (n place : ℕ) (entry : Entry) → find s.store.entries n ≡ Some entry → option_map (λ (c : Cell). ssn_on c place) (cell_at (book_of s) n) ≡ asked (is_full (book_of s)) place (cell_at (book_of s) n)
  asked-found n place entry e = elim (both-or-none s.store.entries s.rows n b) [
    | inl h ↦ absurd (let f = sym h.0 ∙ e in grind (arith, f))
    | inr h ↦
        let cell : cell_at (book_of s) n ≡ Some (cell_of h.0 h.1) = held n ∙ ap₂ pair_up h.2 h.3 in
        rw cell refl
  ]

  pub asked-full : (n place : ℕ) → find s.store.entries n ≡ None → length s.store.entries ≡ 65536 → cell_at (book_of s) n ≡ asked (is_full (book_of s)) place (cell_at (book_of s) n)
  asked-full n place e full = elim (both-or-none s.store.entries s.rows n b) [
    | inl h ↦
        let cell : cell_at (book_of s) n ≡ None = held n ∙ ap₂ pair_up h.0 h.1 in
        let yes : is_full (book_of s) ≡ true = full-is ∙ grind (arith, nat_tests, full) in
        rw (cell, yes) refl
    | inr h ↦ absurd (let f = sym h.2 ∙ e in grind (arith, f))
  ]

  pub asked-new : (n place : ℕ) → find s.store.entries n ≡ None → length s.store.entries < 65536 → Some (ssn_on empty_cell place) ≡ asked (is_full (book_of s)) place (cell_at (book_of s) n)
  asked-new n place e less = elim (both-or-none s.store.entries s.rows n b) [
    | inl h ↦
        let cell : cell_at (book_of s) n ≡ None = held n ∙ ap₂ pair_up h.0 h.1 in
        let no : is_full (book_of s) ≡ false = full-is ∙ grind (arith, nat_tests, less) in
        rw (cell, no) refl
    | inr h ↦ absurd (let f = sym h.2 ∙ e in grind (arith, f))
  ]

  -- all rows
  pub book-all : (g : FlagRow → FlagRow) (f : Cell → Cell) → ((entry : Entry) (row : FlagRow) → cell_of entry (g row) ≡ f (cell_of entry row)) → book_of (record s { rows = change_all g s.rows }) ≡ record (book_of s) { cells = cells.each (λ (_ : ℕ) (cell : Cell). f cell) (book_of s).cells }
  book-all g f same = ap (λ (cs : List (ℕ × Cell)). with_parts cs s.store.changes) (each-cells g f same s.store.entries s.rows)
