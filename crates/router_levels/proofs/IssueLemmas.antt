-- Own LSPs issued and purged, as the router's model has it.
use Rattle.std.proofs.Common.{◌≡◌, ℕ, ◌+◌, ◌<◌, ◌≤◌, ◌==◌, false, true, List, Option, Some, None, refl, ap, arith}
use Rattle.std.proofs.lemmas.Bool.Decides.{nat_tests}
use Rattle.std.specs.Option.{option_map}
use Rattle.model_router.specs.Maps.{put, erase}
use Rattle.model_router.specs.Cells.{Cell, flagged, purged}
use Rattle.model_router.specs.Books.{Book, cell_at, rank_of, rank_at, set_cell}
use Rattle.model_router.specs.Routers.{Contents, Issued, LevelState, Router}
use Rattle.model_router.specs.Takes.{held_purge}
use Rattle.isis_base.specs.declared.level.Level.{Level}
use Rattle.model_router.specs.Givens.{Given}
use Rattle.model_router.specs.OwnLsps.{install, retire, issue_cell, outbid}

purge-is : (held : Option Cell) (opened : ℕ) → 0 < rank_of held → option_map (λ (cell : Cell). flagged (purged cell) opened 0) held ≡ Some (flagged (held_purge held) opened 0)
purge-is None opened some = absurd (omega (arith, some))
purge-is (Some cell) opened some = refl

pub retire-is : (state : LevelState) (n : ℕ) → 0 < rank_at state.book n → record state { book = set_cell state.book n (option_map (λ (cell : Cell). flagged (purged cell) state.book.opened 0) (cell_at state.book n)); own = erase state.own n } ≡ retire state n (held_purge (cell_at state.book n))
unfolding retire
retire-is state n some = ap (λ (c : Option Cell). let s : LevelState = record state { book = set_cell state.book n c; own = erase state.own n } in s) (purge-is (cell_at state.book n) state.book.opened some)

pub install-is : (state : LevelState) (n : ℕ) (contents : Contents) (cell : Cell) (book : Book) (own : List (ℕ × Issued)) → book ≡ set_cell state.book n (Some (flagged cell state.book.opened 0)) → own ≡ put state.own n (record { contents = contents; age = 0 }) → record state { book = book; own = own } ≡ install state n contents cell
unfolding install
install-is state n contents cell book own e f = rw (e, f) refl

pub retire-parts : (state : LevelState) (n : ℕ) (purge : Cell) (book : Book) (own : List (ℕ × Issued)) → book ≡ set_cell state.book n (Some (flagged purge state.book.opened 0)) → own ≡ erase state.own n → record state { book = book; own = own } ≡ retire state n purge
unfolding retire
retire-parts state n purge book own e f = rw (e, f) refl

-- ---- what is outbid

pub outbid-issue : (given : Given) (r : Router) (level : Level) (state : LevelState) (id above : ℕ) (contents : Contents) (last : Cell) → above + 1 < 4294967296 → install state id contents (issue_cell given r level id (above + 1) contents) ≡ outbid given r level state id above contents last
unfolding outbid
outbid-issue given r level state id above contents last less =
    let no : (above == 4294967295) ≡ false = grind (arith, nat_tests, less) in
    rw no refl

pub outbid-retire : (given : Given) (r : Router) (level : Level) (state : LevelState) (id above : ℕ) (contents : Contents) (last : Cell) → above < 4294967296 → 4294967296 ≤ above + 1 → retire state id last ≡ outbid given r level state id above contents last
unfolding outbid
outbid-retire given r level state id above contents last small most =
    let yes : (above == 4294967295) ≡ true = grind (arith, nat_tests, small, most) in
    rw yes refl
