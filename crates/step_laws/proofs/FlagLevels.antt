-- What the parts of a step on one level keep of each cell's flags.
use Rattle.std.proofs.Common.{◌≡◌, ℕ, ◌+◌, ◌==◌, true, List, [], ◌∷◌, Option, Some, None}
use Rattle.isis_base.specs.declared.level.Level.{Level}
use Rattle.model_router.specs.declared.whose.Whose.{Whose}
use Rattle.model_router.specs.declared.lsp_case.LspCase.{LspCase}
use Rattle.model_router.specs.declared.lsp_case.LspCase.TheVariants as lsp
use Rattle.model_router.specs.declared.snp_case.SnpCase.{SnpCase}
use Rattle.model_router.specs.declared.snp_case.SnpCase.TheVariants as snp
use Rattle.model_router.specs.Maps.{find, erase}
use Rattle.model_router.specs.Ranks.{number_of, is_live}
use Rattle.model_router.specs.Sets.{has}
use Rattle.model_router.specs.Cells.{Cell, Heard, purged}
use Rattle.model_router.specs.Books.{cell_at, is_full}
use Rattle.model_router.specs.LspTable.{met}
use Rattle.model_router.specs.SnpTable.{SnpEntry, snp_case}
use Rattle.model_router.specs.Routers.{Contents, Issued, LevelState, Router}
use Rattle.model_router.specs.Givens.{Given}
use Rattle.model_router.specs.OwnLsps.{Next, Wait, Number, Exhaust, next, last_number, issue_cell, install, retire, retire_held, do_next, look, look_all}
use Rattle.model_router.specs.OwnLsps.{withdraw_one, withdraw_all, renew, outbid}
use Rattle.model_router.specs.Takes.{Scene, whose_of, answer_of, answer, last_purge, lsp_taken, take_lsp, held_purge, entry_taken, take_entry, take_entries}
use Rattle.model_router.specs.Takes.{take_range, take_snp}
use Rattle.model_router.specs.Ageing.{age_cell, age_one, age_all, age}
use Rattle.model_router.proofs.BookLemmas.{choose}
use Rattle.step_laws.proofs.FlagLemmas.{Rule, Fits, Held, flooded-held, hear_lsp-held, hear_entry-held, hear_range-held, aged-held}

-- ---- own LSPs

install-held : (rule : Rule) (opened : ℕ) (s : LevelState) (id : ℕ) (contents : Contents) (c : Cell) → Held rule opened s.book
    → Held rule opened (install s id contents c).book
unfolding install
install-held rule opened s id contents c k = flooded-held rule opened s.book id c k

retire-held : (rule : Rule) (opened : ℕ) (s : LevelState) (id : ℕ) (c : Cell) → Held rule opened s.book → Held rule opened (retire s id c).book
unfolding retire
retire-held rule opened s id c k = flooded-held rule opened s.book id c k

retire_held-held : (rule : Rule) (opened : ℕ) (s : LevelState) (id : ℕ) (held : Option Cell) → Held rule opened s.book
    → Held rule opened (retire_held s id held).book
retire_held-held rule opened s id None k = k
retire_held-held rule opened s id (Some c) k =
    choose (λ (t : LevelState). Held rule opened t.book) (is_live c.rank) (retire s id (purged c)) (record s { own = erase s.own id })
    (λ _. retire-held rule opened s id (purged c) k) (λ _. k)

outbid-held : (rule : Rule) (opened : ℕ) (given : Given) (r : Router) (level : Level) (s : LevelState) (id above : ℕ) (contents : Contents) (last : Cell)
    → Held rule opened s.book → Held rule opened (outbid given r level s id above contents last).book
unfolding outbid
outbid-held rule opened given r level s id above contents last k =
    choose (λ (t : LevelState). Held rule opened t.book) (above == last_number) (retire s id last)
    (install s id contents (issue_cell given r level id (above + 1) contents))
    (λ _. retire-held rule opened s id last k) (λ _. install-held rule opened s id contents _ k)

answer-held : (rule : Rule) (opened : ℕ) (scene : Scene) (s : LevelState) (id above : ℕ) (last : Cell) → Held rule opened s.book
    → Held rule opened (answer scene s id above last).book
answer-held rule opened scene s id above last k = outbid-held rule opened scene.given scene.router scene.level s id above (answer_of scene id) last k

-- ---- an LSP

lsp_taken-held : (rule : Rule) (opened : ℕ) (scene : Scene) (s : LevelState) (place : ℕ) (w : Whose) (h : Heard) (row : LspCase) → has opened place ≡ true
    → Held rule opened s.book → Held rule opened (lsp_taken scene s place w h row).book
lsp_taken-held rule opened scene s place w h lsp.Outbid o k = answer-held rule opened scene s h.id (number_of h.rank) (last_purge (cell_at s.book h.id) h) k
lsp_taken-held rule opened scene s place w h lsp.PurgedOwn o k = hear_lsp-held rule opened s.book place w h o k
lsp_taken-held rule opened scene s place w h lsp.AckPurge o k = hear_lsp-held rule opened s.book place w h o k
lsp_taken-held rule opened scene s place w h lsp.Confused o k = hear_lsp-held rule opened s.book place w h o k
lsp_taken-held rule opened scene s place w h lsp.Stored o k = hear_lsp-held rule opened s.book place w h o k
lsp_taken-held rule opened scene s place w h lsp.Same o k = hear_lsp-held rule opened s.book place w h o k
lsp_taken-held rule opened scene s place w h lsp.Older o k = hear_lsp-held rule opened s.book place w h o k

pub take_lsp-held : (rule : Rule) (opened : ℕ) (scene : Scene) (s : LevelState) (place : ℕ) (w : Whose) (h : Heard) → has opened place ≡ true
    → Held rule opened s.book → Held rule opened (take_lsp scene s place w h).book
unfolding take_lsp
take_lsp-held rule opened scene s place w h o k = lsp_taken-held rule opened scene s place w h (met s.book w h) o k

-- ---- an SNP

entry_taken-held : (rule : Rule) (opened : ℕ) (scene : Scene) (s : LevelState) (place : ℕ) (w : Whose) (h : SnpEntry) (row : SnpCase)
    → has opened place ≡ true → Held rule opened s.book → Held rule opened (entry_taken scene s place w h row).book
entry_taken-held rule opened scene s place w h snp.Nothing o k = hear_entry-held rule opened s.book place w h o k
entry_taken-held rule opened scene s place w h snp.Outbid o k = answer-held rule opened scene s h.id (number_of h.rank) (held_purge (cell_at s.book h.id)) k
entry_taken-held rule opened scene s place w h snp.Confused o k = hear_entry-held rule opened s.book place w h o k
entry_taken-held rule opened scene s place w h snp.Same o k = hear_entry-held rule opened s.book place w h o k
entry_taken-held rule opened scene s place w h snp.Older o k = hear_entry-held rule opened s.book place w h o k
entry_taken-held rule opened scene s place w h snp.Newer o k = hear_entry-held rule opened s.book place w h o k
entry_taken-held rule opened scene s place w h snp.Asked o k = hear_entry-held rule opened s.book place w h o k
entry_taken-held rule opened scene s place w h snp.Unasked o k = hear_entry-held rule opened s.book place w h o k

take_entry-held : (rule : Rule) (opened : ℕ) (scene : Scene) (s : LevelState) (system place : ℕ) (h : SnpEntry) → has opened place ≡ true
    → Held rule opened s.book → Held rule opened (take_entry scene s system place h).book
unfolding take_entry
take_entry-held rule opened scene s system place h o k =
    let w = whose_of system s h.id in entry_taken-held rule opened scene s place w h (snp_case w (cell_at s.book h.id) h) o k

take_entries-held : (rule : Rule) (opened : ℕ) (scene : Scene) (s : LevelState) (system place : ℕ) (entries : List SnpEntry) → has opened place ≡ true
    → Held rule opened s.book → Held rule opened (take_entries scene s system place entries).book
take_entries-held rule opened scene s system place [] o k = k
take_entries-held rule opened scene s system place (h ∷ entries) o k =
    take_entries-held rule opened scene (take_entry scene s system place h) system place entries o (take_entry-held rule opened scene s system place h o k)

take_range-held : (rule : Rule) (opened : ℕ) (s : LevelState) (place : ℕ) (range : Option (ℕ × ℕ)) (entries : List SnpEntry) → has opened place ≡ true
    → Held rule opened s.book → Held rule opened (take_range s place range entries).book
take_range-held rule opened s place None entries o k = k
take_range-held rule opened s place (Some range) entries o k = hear_range-held rule opened s.book place range.0 range.1 entries o k

pub take_snp-held : (rule : Rule) (opened : ℕ) (scene : Scene) (s : LevelState) (system place : ℕ) (range : Option (ℕ × ℕ)) (entries : List SnpEntry)
    → has opened place ≡ true → Held rule opened s.book → Held rule opened (take_snp scene s system place range entries).book
unfolding take_snp
take_snp-held rule opened scene s system place range entries o k =
    take_range-held rule opened (take_entries scene s system place entries) place range entries o
    (take_entries-held rule opened scene s system place entries o k)

-- ---- a second of the entries

age_cell-held : (rule : Rule) (opened : ℕ) (s : LevelState) (id : ℕ) (held : Option Cell) → Fits rule opened held → Held rule opened s.book
    → Held rule opened (age_cell s id held).book
age_cell-held rule opened s id None m k = k
age_cell-held rule opened s id (Some c) m k = aged-held rule opened s.book id c m k

age_one-held : (rule : Rule) (opened : ℕ) (s : LevelState) (id : ℕ) → Held rule opened s.book → Held rule opened (age_one s id).book
unfolding age_one
age_one-held rule opened s id k = age_cell-held rule opened s id (cell_at s.book id) (k.on id) k

age_all-held : (rule : Rule) (opened : ℕ) (s : LevelState) (cells : List (ℕ × Cell)) → Held rule opened s.book → Held rule opened (age_all s cells).book
age_all-held rule opened s [] k = k
age_all-held rule opened s (pair ∷ cells) k = age_all-held rule opened (age_one s pair.0) cells (age_one-held rule opened s pair.0 k)

pub age-held : (rule : Rule) (opened : ℕ) (s : LevelState) → Held rule opened s.book → Held rule opened (age s).book
unfolding age
age-held rule opened s k = age_all-held rule opened s s.book.cells k

-- ---- own LSPs are followed

do_next-held : (rule : Rule) (opened : ℕ) (given : Given) (r : Router) (level : Level) (id : ℕ) (contents : Contents) (s : LevelState) (n : Next)
    → Held rule opened s.book → Held rule opened (do_next given r level id contents s n).book
do_next-held rule opened given r level id contents s Wait k = k
do_next-held rule opened given r level id contents s (Number n) k = install-held rule opened s id contents _ k
do_next-held rule opened given r level id contents s Exhaust k = retire_held-held rule opened s id (cell_at s.book id) k

look-held : (rule : Rule) (opened : ℕ) (given : Given) (r : Router) (level : Level) (s : LevelState) (want : ℕ × Contents) → Held rule opened s.book
    → Held rule opened (look given r level s want).book
unfolding look
look-held rule opened given r level s want k =
    do_next-held rule opened given r level want.0 want.1 s (next (is_full s.book) (find s.own want.0) (cell_at s.book want.0) want.1) k

look_all-held : (rule : Rule) (opened : ℕ) (given : Given) (r : Router) (level : Level) (s : LevelState) (wants : List (ℕ × Contents))
    → Held rule opened s.book → Held rule opened (look_all given r level s wants).book
look_all-held rule opened given r level s [] k = k
look_all-held rule opened given r level s (want ∷ wants) k =
    look_all-held rule opened given r level (look given r level s want) wants (look-held rule opened given r level s want k)

withdraw_one-held : (rule : Rule) (opened : ℕ) (s : LevelState) (id : ℕ) (want : Option Contents) → Held rule opened s.book
    → Held rule opened (withdraw_one s id want).book
withdraw_one-held rule opened s id (Some _) k = k
withdraw_one-held rule opened s id None k = retire_held-held rule opened s id (cell_at s.book id) k

withdraw_all-held : (rule : Rule) (opened : ℕ) (s : LevelState) (wants : List (ℕ × Contents)) (own : List (ℕ × Issued)) → Held rule opened s.book
    → Held rule opened (withdraw_all s wants own).book
withdraw_all-held rule opened s wants [] k = k
withdraw_all-held rule opened s wants (pair ∷ own) k =
    let want = find wants pair.0 in withdraw_all-held rule opened (withdraw_one s pair.0 want) wants own (withdraw_one-held rule opened s pair.0 want k)

pub renew-held : (rule : Rule) (opened : ℕ) (given : Given) (r : Router) (level : Level) (s : LevelState) (wants : List (ℕ × Contents))
    → Held rule opened s.book → Held rule opened (renew given r level s wants).book
renew-held rule opened given r level s wants k =
    let after = look_all given r level s wants in withdraw_all-held rule opened after wants after.own (look_all-held rule opened given r level s wants k)
