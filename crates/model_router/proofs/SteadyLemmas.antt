-- Parts that hear, issue, age, send or answer leave the open circuits as they are.
use Rattle.std.proofs.Common.{◌≡◌, ℕ, List, Option, Some, None, refl}
use Rattle.model_router.specs.declared.whose.Whose.{Whose}
use Rattle.model_router.specs.Cells.{Cell, Heard}
use Rattle.model_router.specs.Books.{Book, cell_at}
use Rattle.model_router.specs.LspTable.{hear_lsp}
use Rattle.model_router.specs.SnpTable.{SnpEntry, hear_entry, hear_range}
use Rattle.model_router.specs.Routers.{Contents, LevelState}
use Rattle.model_router.specs.OwnLsps.{install, retire}
use Rattle.model_router.specs.Ageing.{age_cell, age_one, wait_less}
use Rattle.model_router.specs.Pulls.{sent, answered}
use Rattle.model_router.proofs.BookLemmas.{opened-set_cell}

pub hear_lsp-opened : (b : Book) (place : ℕ) (w : Whose) (h : Heard) → (hear_lsp b place w h).opened ≡ b.opened
unfolding hear_lsp
hear_lsp-opened b place w h = opened-set_cell b h.id _

pub hear_entry-opened : (b : Book) (place : ℕ) (w : Whose) (h : SnpEntry) → (hear_entry b place w h).opened ≡ b.opened
unfolding hear_entry
hear_entry-opened b place w h = opened-set_cell b h.id _

pub hear_range-opened : (b : Book) (place start end : ℕ) (entries : List SnpEntry) → (hear_range b place start end entries).opened ≡ b.opened
unfolding hear_range
hear_range-opened b place start end entries = refl

pub install-opened : (s : LevelState) (id : ℕ) (contents : Contents) (c : Cell) → (install s id contents c).book.opened ≡ s.book.opened
unfolding install
install-opened s id contents c = opened-set_cell s.book id _

pub retire-opened : (s : LevelState) (id : ℕ) (c : Cell) → (retire s id c).book.opened ≡ s.book.opened
unfolding retire
retire-opened s id c = opened-set_cell s.book id _

age_cell-opened : (s : LevelState) (id : ℕ) (c : Option Cell) → (age_cell s id c).book.opened ≡ s.book.opened
age_cell-opened s id None = refl
age_cell-opened s id (Some c) = opened-set_cell s.book id _

pub age_one-opened : (s : LevelState) (id : ℕ) → (age_one s id).book.opened ≡ s.book.opened
unfolding age_one
age_one-opened s id = age_cell-opened s id (cell_at s.book id)

pub wait_less-opened : (b : Book) → (wait_less b).opened ≡ b.opened
unfolding wait_less
wait_less-opened b = refl

pub sent-opened : (b : Book) (place : ℕ) → (sent b place).opened ≡ b.opened
unfolding sent
sent-opened b place = refl

pub answered-opened : (b : Book) (place : ℕ) → (answered b place).opened ≡ b.opened
unfolding answered
answered-opened b place = refl
