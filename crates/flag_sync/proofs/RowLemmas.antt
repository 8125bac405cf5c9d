-- Which row of a table is met, by what is known of what is held.
use Rattle.std.proofs.Common.{◌≡◌, ◌==◌, ◌&&◌, Bool, true, false, if◌then◌else◌, ℕ, ◌<◌, nat_lt, Option, Some, refl, ap, arith}
use Rattle.std.proofs.lemmas.Bool.Decides.{nat_tests}
use Rattle.isis_base.specs.declared.entry.LspEntry.{LspEntry}
use Rattle.isis_base.specs.Keys.{entry_rank}
use Rattle.model_router.specs.declared.whose.Whose.{Whose}
use Rattle.model_router.specs.declared.whose.Whose.TheVariants as whose
use Rattle.model_router.specs.declared.lsp_case.LspCase.{LspCase}
use Rattle.model_router.specs.declared.lsp_case.LspCase.TheVariants as lsp
use Rattle.model_router.specs.declared.snp_case.SnpCase.{SnpCase}
use Rattle.model_router.specs.declared.snp_case.SnpCase.TheVariants as snp
use Rattle.model_router.specs.Ranks.{is_live}
use Rattle.model_router.specs.Cells.{Cell, Heard}
use Rattle.model_router.specs.Books.{Book, cell_at, rank_of, is_full, set_cell}
use Rattle.model_router.specs.LspTable.{lsp_case, lsp_row, met, hear_lsp, differs, is_issued}
use Rattle.model_router.specs.SnpTable.{SnpEntry, snp_case, snp_row, sets_flag, hear_entry}
use Rattle.model_router.proofs.FloodLemmas.{each-row, each-snp}
use Rattle.flag_sync.specs.declared.known.Known.{Known}
use Rattle.flag_sync.specs.Known.{Knows, known_cell}

pub lsp-known : (w : Whose) (known : Known) (held : Option Cell) (h : Heard) → Knows known held → lsp_case w (Some (known_cell known)) h ≡ lsp_case w held h
unfolding lsp_case
lsp-known w known held h k = rw (k.key, k.sum) refl

pub snp-known : (w : Whose) (known : Known) (held : Option Cell) (h : SnpEntry) → Knows known held → snp_case w (Some (known_cell known)) h ≡ snp_case w held h
unfolding snp_case
snp-known w known held h k = rw (k.key, k.sum) refl

-- a key is held that an LSP is confused with
pub confused-held : (w : Whose) (held : Option Cell) (h : Heard) → 0 < h.rank → lsp_case w held h ≡ lsp.Confused → 0 < rank_of held
confused-held w held h some = each-row (λ row. row ≡ lsp.Confused → 0 < rank_of held) w held h (λ _ _ _ e. cc) (λ _ _ e. cc) (λ _ _ e. cc) (λ same _ _. omega (arith, same, some)) (λ _ e. cc) (λ _ e. cc) (λ _ e. cc)

live-some : (rank : ℕ) → is_live rank ≡ true → 0 < rank
live-some rank e = grind (arith, nat_tests, e)

pub snp-confused-held : (w : Whose) (held : Option Cell) (h : SnpEntry) → snp_case w held h ≡ snp.Confused → 0 < rank_of held
snp-confused-held w held h = each-snp (λ row. row ≡ snp.Confused → 0 < rank_of held) w held h (λ e. cc) (λ _ _ _ e. cc) (λ same live _. let some = live-some h.rank live in omega (arith, same, some)) (λ _ e. cc) (λ _ e. cc) (λ _ e. cc) (λ e. cc) (λ e. cc)

pub rank-some : (e : LspEntry) → 0 < e.number → 0 < entry_rank e
rank-some e some = grind (arith, nat_tests, some)

-- a book after what its row does
pub hear-met : (book : Book) (place : ℕ) (w : Whose) (h : Heard) (row : LspCase) → row ≡ met book w h → set_cell book h.id (lsp_row row book.opened book.p2p place (cell_at book h.id) h) ≡ hear_lsp book place w h
unfolding hear_lsp
hear-met book place w h row e = ap (λ (r : LspCase). set_cell book h.id (lsp_row r book.opened book.p2p place (cell_at book h.id) h)) e

pub entry-met : (book : Book) (place : ℕ) (w : Whose) (h : SnpEntry) (row : SnpCase) → row ≡ snp_case w (cell_at book h.id) h → set_cell book h.id (snp_row row (is_full book) book.opened book.p2p place (cell_at book h.id)) ≡ hear_entry book place w h
unfolding hear_entry
entry-met book place w h row e = ap (λ (r : SnpCase). set_cell book h.id (snp_row r (is_full book) book.opened book.p2p place (cell_at book h.id))) e

-- a row sets a flag or not, whosever the LSP is
flags-any : (a t u : Bool) (x : SnpCase) → sets_flag (if a then snp.Nothing else (if t && false then snp.Outbid else (if t then snp.Confused else x))) ≡ sets_flag (if a then snp.Nothing else (if t && u then snp.Outbid else (if t then snp.Confused else x)))
flags-any true t u x = refl
flags-any false true true x = refl
flags-any false true false x = refl
flags-any false false u x = refl

pub flags-same : (w : Whose) (held : Option Cell) (h : SnpEntry) → sets_flag (snp_case whose.Other held h) ≡ sets_flag (snp_case w held h)
unfolding snp_case
flags-same w held h =
    flags-any (h.rank == 0 && rank_of held == 0) (differs held h.rank h.checksum) (is_issued w)
    (if rank_of held == h.rank then snp.Same
    else (if nat_lt h.rank (rank_of held) then snp.Older
    else (if nat_lt 0 (rank_of held) then snp.Newer
    else (if nat_lt 0 h.lifetime && nat_lt 0 h.checksum then snp.Asked
    else snp.Unasked))))
