-- What the deeds on one level's book keep of each cell's flags.
use Rattle.std.proofs.Common.{◌≡◌, ℕ, ◌==◌, Bool, true, false, ◌&&◌, ◌||◌, nat_lt, nat_le, List, Option, Some, None, if◌then◌else◌, refl, sym, ap, ◌∙◌}
use Rattle.std.proofs.Common.{subst}
use Rattle.std.specs.Option.{option_map}
use Rattle.model_router.specs.declared.whose.Whose.{Whose}
use Rattle.model_router.specs.declared.lsp_case.LspCase.{LspCase}
use Rattle.model_router.specs.declared.lsp_case.LspCase.TheVariants as lsp
use Rattle.model_router.specs.declared.snp_case.SnpCase.{SnpCase}
use Rattle.model_router.specs.declared.snp_case.SnpCase.TheVariants as snp
use Rattle.model_router.specs.Maps.{find, each}
use Rattle.model_router.specs.Ranks.{is_live}
use Rattle.model_router.specs.Sets.{has, with_one, without, only}
use Rattle.model_router.specs.Waits.{Waits, wait, no_waits, due_at, five_at, fallen}
use Rattle.model_router.specs.Cells.{Cell, Heard, purged, flagged, srm_on, srm_off, srm_sent}
use Rattle.model_router.specs.Books.{Book, cell_at, is_full, set_cell}
use Rattle.model_router.specs.LspTable.{ssn_stored, lsp_row, met, hear_lsp}
use Rattle.model_router.specs.SnpTable.{SnpEntry, snp_case, asked, snp_row, hear_entry, is_missed, hear_range}
use Rattle.model_router.specs.Openings.{close, marked, open_up, set_open}
use Rattle.model_router.specs.Ageing.{wait_less, less, aged}
use Rattle.model_router.specs.Pulls.{srm_due, sent, answered}
use Rattle.model_router.proofs.MapLemmas.{find-each}
use Rattle.model_router.proofs.SetLemmas.{has-with_one, has-only, has-none}
use Rattle.model_router.proofs.BookLemmas.{choose, same-or, cells-after, opened-set_cell}

-- What holds of the open circuits, SRM, SSN and the waits of a cell, with all that deeds on one cell have to keep of it.
pub record Rule : Type 1 where
  pub holds : ℕ → ℕ → ℕ → Waits → Type 0
  pub flooded : (opened : ℕ) → holds opened opened 0 no_waits
  pub stored : (opened place ssn : ℕ) → has opened place ≡ true → ((q : ℕ) → has ssn q ≡ true → place ≡ q) → holds opened (without opened place) ssn no_waits
  pub empty : (opened : ℕ) → holds opened 0 0 no_waits
  pub srm_set : (opened srm ssn : ℕ) (w : Waits) (place : ℕ) → has opened place ≡ true → holds opened srm ssn w
      → holds opened (with_one srm place) ssn (due_at w place)
  pub srm_cleared : (opened srm ssn : ℕ) (w : Waits) (place : ℕ) → holds opened srm ssn w → holds opened (without srm place) ssn (due_at w place)
  pub ssn_set : (opened srm ssn : ℕ) (w : Waits) (place : ℕ) → has opened place ≡ true → holds opened srm ssn w → holds opened srm (with_one ssn place) w
  pub ssn_cleared : (opened srm ssn : ℕ) (w : Waits) (place : ℕ) → holds opened srm ssn w → holds opened srm (without ssn place) w
  pub sends : (opened srm ssn : ℕ) (w : Waits) (place : ℕ) → has srm place ≡ true → holds opened srm ssn w → holds opened srm ssn (five_at w place)
  pub falls : (opened srm ssn : ℕ) (w : Waits) → holds opened srm ssn w → holds opened srm ssn (fallen w)
  pub closes : (opened srm ssn : ℕ) (w : Waits) (place : ℕ) → holds opened srm ssn w
      → holds (without opened place) (without srm place) (without ssn place) (due_at w place)
  pub opens : (opened srm ssn : ℕ) (w : Waits) (place : ℕ) → holds opened srm ssn w → holds (with_one opened place) srm ssn w

-- ---- one cell

-- a rule holds of a cell
abbrev pub Cells : Rule → ℕ → Cell → Type 0
Cells rule opened cell = rule.holds opened cell.srm cell.ssn cell.waits

-- a rule holds of what is held of an LSP ID
abbrev pub Fits : Rule → ℕ → Option Cell → Type 0
Fits rule opened None = Unit {0}
Fits rule opened (Some cell) = Cells rule opened cell

-- a change of what is held, where anything is
fits-map : (rule : Rule) (opened after : ℕ) (f : Cell → Cell) (held : Option Cell) → ((c : Cell) → Cells rule opened c → Cells rule after (f c))
    → Fits rule opened held → Fits rule after (option_map f held)
fits-map rule opened after f None h k = tt
fits-map rule opened after f (Some c) h k = h c k

-- ---- the tables

none-of : (q : ℕ) {A : Type 0} → has 0 q ≡ true → A
none-of q k = absurd (let n = has-none q in cc)

-- what is stored has SSN on the circuit heard on at most
stored-ssn : (p2p place : ℕ) (held : Option Cell) (q : ℕ) → has (ssn_stored p2p place held) q ≡ true → place ≡ q
stored-ssn p2p place held q k = by-held held k
  where
    sole : has (with_one 0 place) q ≡ true → place ≡ q
    sole k = same-or (λ (t : Bool). (t || has 0 q) ≡ true → place ≡ q) place q (λ same _. same) (λ _ h. none-of q h) (sym (has-with_one 0 place q) ∙ k)

    lone : (s : ℕ) → has (only s place) q ≡ true → place ≡ q
    lone s k = same-or (λ (t : Bool). (t && has s q) ≡ true → place ≡ q) place q (λ same _. same) (λ _ h. absurd (cc)) (sym (has-only s place q) ∙ k)

    by-held : (held : Option Cell) → has (ssn_stored p2p place held) q ≡ true → place ≡ q
    by-held None k = choose (λ (n : ℕ). has n q ≡ true → place ≡ q) (has p2p place) (with_one 0 place) 0 (λ _. sole) (λ _ h. none-of q h) k
    by-held (Some c) k = choose (λ (n : ℕ). has n q ≡ true → place ≡ q) (has p2p place) (with_one 0 place) (only c.ssn place) (λ _. sole) (λ _. lone c.ssn) k

-- SRM set and SSN clear on one circuit
older-fits : (rule : Rule) (opened place : ℕ) → has opened place ≡ true → (c : Cell) → Cells rule opened c
    → rule.holds opened (with_one c.srm place) (without c.ssn place) (due_at c.waits place)
older-fits rule opened place o c k =
    rule.ssn_cleared opened (with_one c.srm place) c.ssn (due_at c.waits place) place (rule.srm_set opened c.srm c.ssn c.waits place o k)

row-fits : (rule : Rule) (row : LspCase) (opened p2p place : ℕ) (held : Option Cell) (h : Heard) → has opened place ≡ true → Fits rule opened held
    → Fits rule opened (lsp_row row opened p2p place held h)
row-fits rule lsp.Outbid opened p2p place held h o k = k
row-fits rule lsp.PurgedOwn opened p2p place held h o k = rule.flooded opened
row-fits rule lsp.AckPurge opened p2p place held h o k = tt
row-fits rule lsp.Confused opened p2p place held h o k = fits-map rule opened opened _ held (λ c _. rule.flooded opened) k
row-fits rule lsp.Stored opened p2p place held h o k = rule.stored opened place (ssn_stored p2p place held) o (stored-ssn p2p place held)
row-fits rule lsp.Same opened p2p place held h o k = fits-map rule opened opened _ held (λ c m.
    let off : rule.holds opened (without c.srm place) c.ssn (due_at c.waits place) = rule.srm_cleared opened c.srm c.ssn c.waits place m in
    choose (λ (n : ℕ). rule.holds opened (without c.srm place) n (due_at c.waits place)) (has p2p place) (with_one c.ssn place) c.ssn
    (λ _. rule.ssn_set opened (without c.srm place) c.ssn (due_at c.waits place) place o off) (λ _. off)) k
row-fits rule lsp.Older opened p2p place held h o k = fits-map rule opened opened _ held (λ c m. older-fits rule opened place o c m) k

-- SRM is clear on a point-to-point circuit
freed-fits : (rule : Rule) (opened srm ssn : ℕ) (w : Waits) (place : ℕ) (t : Bool) → rule.holds opened srm ssn w
    → rule.holds opened (if t then without srm place else srm) ssn (if t then due_at w place else w)
freed-fits rule opened srm ssn w place true k = rule.srm_cleared opened srm ssn w place k
freed-fits rule opened srm ssn w place false k = k

asked-fits : (rule : Rule) (full : Bool) (opened place : ℕ) (held : Option Cell) → has opened place ≡ true → Fits rule opened held
    → Fits rule opened (asked full place held)
asked-fits rule full opened place (Some c) o k = rule.ssn_set opened c.srm c.ssn c.waits place o k
asked-fits rule true opened place None o k = tt
asked-fits rule false opened place None o k = rule.ssn_set opened 0 0 no_waits place o (rule.empty opened)

entry-fits : (rule : Rule) (row : SnpCase) (full : Bool) (opened p2p place : ℕ) (held : Option Cell) → has opened place ≡ true → Fits rule opened held
    → Fits rule opened (snp_row row full opened p2p place held)
entry-fits rule snp.Nothing full opened p2p place held o k = k
entry-fits rule snp.Outbid full opened p2p place held o k = k
entry-fits rule snp.Confused full opened p2p place held o k = fits-map rule opened opened _ held (λ c _. rule.flooded opened) k
entry-fits rule snp.Same full opened p2p place held o k =
    fits-map rule opened opened _ held (λ c m. freed-fits rule opened c.srm c.ssn c.waits place (has p2p place) m) k
entry-fits rule snp.Older full opened p2p place held o k = fits-map rule opened opened _ held (λ c m. older-fits rule opened place o c m) k
entry-fits rule snp.Newer full opened p2p place held o k =
    fits-map rule opened opened _ held
    (λ c m. rule.ssn_set opened _ c.ssn _ place o (freed-fits rule opened c.srm c.ssn c.waits place (has p2p place) m)) k
entry-fits rule snp.Asked full opened p2p place held o k = asked-fits rule full opened place held o k
entry-fits rule snp.Unasked full opened p2p place held o k = k

-- ---- a book

-- a book has these open circuits, and a rule holds of all its cells
pub record Held (rule : Rule) (opened : ℕ) (b : Book) : Type 0 where
  pub same : b.opened ≡ opened
  pub on : (id : ℕ) → Fits rule opened (cell_at b id)

-- a rule holds of all cells of a book
abbrev pub Whole : Rule → Book → Type 0
Whole rule b = Held rule b.opened b

pub whole : (rule : Rule) (opened : ℕ) (b : Book) → Held rule opened b → Whole rule b
whole rule opened b h = record { same = refl; on = λ id. subst (λ (n : ℕ). Fits rule n (cell_at b id)) (sym h.same) (h.on id) }

pub set-held : (rule : Rule) (opened : ℕ) (b : Book) (id : ℕ) (c : Option Cell) → Held rule opened b → Fits rule opened c → Held rule opened (set_cell b id c)
set-held rule opened b id c h k =
    record { same = opened-set_cell b id c ∙ h.same; on = cells-after (λ (y : ℕ) (cell : Option Cell). Fits rule opened cell) b id c k h.on }

-- a new LSP or a purge, with SRM on all open circuits
pub flooded-held : (rule : Rule) (opened : ℕ) (b : Book) (id : ℕ) (c : Cell) → Held rule opened b
    → Held rule opened (set_cell b id (Some (flagged c b.opened 0)))
flooded-held rule opened b id c h = set-held rule opened b id _ h (subst (λ (n : ℕ). rule.holds opened n 0 no_waits) (sym h.same) (rule.flooded opened))

-- each cell is changed by itself
each-held : (rule : Rule) (opened after : ℕ) (b t : Book) (f : ℕ → Cell → Cell) → t.opened ≡ after → t.cells ≡ each f b.cells
    → ((id : ℕ) (c : Cell) → Cells rule opened c → Cells rule after (f id c)) → Held rule opened b → Held rule after t
each-held rule opened after b t f same e k h = record { same = same; on = each-on }
  where
    found : (id : ℕ) → cell_at t id ≡ option_map (f id) (cell_at b id)
    found id = ap (λ (m : List (ℕ × Cell)). find m id) e ∙ find-each f b.cells id

    each-on : (id : ℕ) → Fits rule after (cell_at t id)
    each-on id = subst (λ (c : Option Cell). Fits rule after c) (sym (found id)) (fits-map rule opened after (f id) (cell_at b id) (k id) (h.on id))

pub hear_lsp-held : (rule : Rule) (opened : ℕ) (b : Book) (place : ℕ) (w : Whose) (h : Heard) → has opened place ≡ true → Held rule opened b
    → Held rule opened (hear_lsp b place w h)
unfolding hear_lsp
hear_lsp-held rule opened b place w h o k =
    let row = met b w h in
    let held = cell_at b h.id in
    set-held rule opened b h.id _ k
    (subst (λ (n : ℕ). Fits rule opened (lsp_row row n b.p2p place held h)) (sym k.same) (row-fits rule row opened b.p2p place held h o (k.on h.id)))

pub hear_entry-held : (rule : Rule) (opened : ℕ) (b : Book) (place : ℕ) (w : Whose) (h : SnpEntry) → has opened place ≡ true → Held rule opened b
    → Held rule opened (hear_entry b place w h)
unfolding hear_entry
hear_entry-held rule opened b place w h o k =
    let held = cell_at b h.id in
    let row = snp_case w held h in
    set-held rule opened b h.id _ k
    (subst (λ (n : ℕ). Fits rule opened (snp_row row (is_full b) n b.p2p place held)) (sym k.same)
    (entry-fits rule row (is_full b) opened b.p2p place held o (k.on h.id)))

pub hear_range-held : (rule : Rule) (opened : ℕ) (b : Book) (place start end : ℕ) (entries : List SnpEntry) → has opened place ≡ true → Held rule opened b
    → Held rule opened (hear_range b place start end entries)
unfolding hear_range
hear_range-held rule opened b place start end entries o k = each-held rule opened opened b _ _ k.same refl (λ id c m.
    choose (λ (d : Cell). Cells rule opened d) (is_missed start end entries id c) (srm_on c place) c
    (λ _. rule.srm_set opened c.srm c.ssn c.waits place o m) (λ _. m)) k

pub wait_less-held : (rule : Rule) (opened : ℕ) (b : Book) → Held rule opened b → Held rule opened (wait_less b)
unfolding wait_less
wait_less-held rule opened b k = each-held rule opened opened b _ _ k.same refl (λ id c m. rule.falls opened c.srm c.ssn c.waits m) k

first-of : (a b : Bool) → (a && b) ≡ true → a ≡ true
first-of true b e = refl
first-of false b e = e

pub sent-held : (rule : Rule) (opened : ℕ) (b : Book) (place : ℕ) → Held rule opened b → Held rule opened (sent b place)
unfolding sent
sent-held rule opened b place k = each-held rule opened opened b _ _ k.same refl (λ id c m.
    choose (λ (d : Cell). Cells rule opened d) (srm_due place c) (if has b.p2p place then srm_sent c place else srm_off c place) c
    (λ due. choose (λ (d : Cell). Cells rule opened d) (has b.p2p place) (srm_sent c place) (srm_off c place)
    (λ _. rule.sends opened c.srm c.ssn c.waits place (first-of (has c.srm place) (wait c.waits place == 0) due) m)
    (λ _. rule.srm_cleared opened c.srm c.ssn c.waits place m))
    (λ _. m)) k

pub answered-held : (rule : Rule) (opened : ℕ) (b : Book) (place : ℕ) → Held rule opened b → Held rule opened (answered b place)
unfolding answered
answered-held rule opened b place k = each-held rule opened opened b _ _ k.same refl (λ id c m. rule.ssn_cleared opened c.srm c.ssn c.waits place m) k

aged-fits : (rule : Rule) (opened : ℕ) (c : Cell) → Cells rule opened c → Fits rule opened (aged opened c)
aged-fits rule opened c k =
    choose (λ (d : Option Cell). Fits rule opened d) (nat_le 2 c.left) (Some (less c))
    (if is_live c.rank then Some (flagged (purged c) opened 0) else None) (λ _. k)
    (λ _. choose (λ (d : Option Cell). Fits rule opened d) (is_live c.rank) (Some (flagged (purged c) opened 0)) None (λ _. rule.flooded opened) (λ _. tt))

pub aged-held : (rule : Rule) (opened : ℕ) (b : Book) (id : ℕ) (c : Cell) → Cells rule opened c → Held rule opened b
    → Held rule opened (set_cell b id (aged b.opened c))
aged-held rule opened b id c m k = set-held rule opened b id _ k (subst (λ (n : ℕ). Fits rule opened (aged n c)) (sym k.same) (aged-fits rule opened c m))

-- ---- openings and closings

pub close-whole : (rule : Rule) (b : Book) (place : ℕ) → Whole rule b → Whole rule (close b place)
unfolding close
close-whole rule b place k = each-held rule b.opened (without b.opened place) b _ _ refl refl (λ id c m. rule.closes b.opened c.srm c.ssn c.waits place m) k

on-itself : (set place : ℕ) → has (with_one set place) place ≡ true
on-itself set place = has-with_one set place place ∙ same-or (λ (t : Bool). (t || has set place) ≡ true) place place (λ _. refl) (λ n. absurd (n refl))

marked-fits : (rule : Rule) (opened place : ℕ) (c : Cell) → has opened place ≡ true → Cells rule opened c → Cells rule opened (marked c place)
marked-fits rule opened place c o k =
    choose (λ (d : Cell). Cells rule opened d) (nat_lt 0 c.rank) (srm_on c place) c
    (λ _. rule.srm_set opened c.srm c.ssn c.waits place o k) (λ _. k)

pub open_up-whole : (rule : Rule) (b : Book) (place : ℕ) → Whole rule b → Whole rule (open_up b place)
unfolding open_up
open_up-whole rule b place k = each-held rule b.opened (with_one b.opened place) b _ _ refl refl (λ id c m.
    let now : Cells rule (with_one b.opened place) c = rule.opens b.opened c.srm c.ssn c.waits place m in
    choose (λ (d : Cell). Cells rule (with_one b.opened place) d) (has b.p2p place) (marked c place) c
    (λ _. marked-fits rule (with_one b.opened place) place c (on-itself b.opened place) now) (λ _. now)) k

pub set_open-whole : (rule : Rule) (b : Book) (place : ℕ) (up : Bool) → Whole rule b → Whole rule (set_open b place up)
set_open-whole rule b place up k =
    choose (λ (t : Book). Whole rule t) up (if has b.opened place then b else open_up b place) (if has b.opened place then close b place else b)
    (λ _. choose (λ (t : Book). Whole rule t) (has b.opened place) b (open_up b place) (λ _. k) (λ _. open_up-whole rule b place k))
    (λ _. choose (λ (t : Book). Whole rule t) (has b.opened place) (close b place) b (λ _. close-whole rule b place k) (λ _. k))
