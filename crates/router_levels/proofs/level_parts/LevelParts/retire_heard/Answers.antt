use Rattle.std.proofs.Common.{◌≡◌, ◌<◌, Some, nat_lt, false, subst, sym, ap, ◌∙◌, arith}
use Rattle.std.proofs.lemmas.Bool.Decides.{nat_tests}
use Rattle.isis_base.specs.Keys.{rank}
use Rattle.model_router.specs.Cells.{Cell, flagged}
use Rattle.model_router.specs.Books.{cell_at, rank_of, rank_at, set_cell}
use Rattle.model_router.specs.OwnLsps.{retire}
use Rattle.model_router.specs.Takes.{last_purge}
use Rattle.flag_sync.specs.Heard.{heard_of}
use Rattle.flag_sync.specs.BookStates.{book_of}
use Rattle.flag_sync.proofs.RowLemmas.{rank-some}
use Rattle.router_levels.specs.Views.{LevelView, state_of}
use Rattle.router_levels.proofs.IssueLemmas.{retire-parts}
use Rattle.router_levels.proofs.TakeLemmas.{last-heard, last-held}
use Rattle.router_levels.proofs.level_parts.LevelParts.retire_heard.Goals as goal

pub returns-in-Ok-clause-state : goal.returns-in-Ok-clause-state
returns-in-Ok-clause-state c =
    let h = heard_of c.args.lsp.now in
    let t : LevelView = record { book = c.self.inside.book; own = c.self.inside.own; gone = c.self.inside.gone } in
    let after : LevelView = record { book = c.keep_purge.new.self; own = c.drop_id.new.self; gone = c.self.inside.gone } in
    let held = cell_at (book_of t.book) h.id in
    let newer : rank_of held < h.rank = (let a = c.in-Older.ensures in let b = c.key.ensures in let d = c.key-2.ensures.rank in omega (arith, a, b, d)) in
    let book = c.in-Ok.ensures.book 0 ∙ ap (λ (k : Cell). set_cell (book_of t.book) h.id (Some (flagged k t.book.opened 0))) (sym (last-heard held h newer)) in
    subst (λ (v : LevelView). state_of after ≡ retire (state_of v) h.id (last_purge (cell_at (state_of v).book h.id) h)) c.self.view_is
    (retire-parts (state_of t) h.id (last_purge held h) (book_of c.keep_purge.new.self) c.drop_id.new.self.issued book c.drop_id.ensures.issued)

pub returns-in-Newer-clause-state : goal.returns-in-Newer-clause-state
returns-in-Newer-clause-state c =
    let h = heard_of c.args.lsp.now in
    let s = state_of c.args.self.now in
    let held : rank c.key.result ≡ rank_of (cell_at s.book h.id) = c.key.ensures ∙ ap (λ (v : LevelView). rank_at (book_of v.book) h.id) c.self.view_is in
    let old : nat_lt (rank_of (cell_at s.book h.id)) h.rank ≡ false = (let a = c.in-Newer.ensures in let d = c.key-2.ensures.rank in grind (arith, nat_tests, a, held, d)) in
    c.retire-in-Newer.ensures.state ∙ ap (retire s h.id) (sym (last-held (cell_at s.book h.id) h (rank-some c.args.lsp.now.entry c.requires.number) old))

pub returns-in-Same-clause-state : goal.returns-in-Same-clause-state
returns-in-Same-clause-state c =
    let h = heard_of c.args.lsp.now in
    let s = state_of c.args.self.now in
    let held : rank c.key.result ≡ rank_of (cell_at s.book h.id) = c.key.ensures ∙ ap (λ (v : LevelView). rank_at (book_of v.book) h.id) c.self.view_is in
    let old : nat_lt (rank_of (cell_at s.book h.id)) h.rank ≡ false = (let a = c.in-Same.ensures in let d = c.key-2.ensures.rank in grind (arith, nat_tests, a, held, d)) in
    c.retire.ensures.state ∙ ap (retire s h.id) (sym (last-held (cell_at s.book h.id) h (rank-some c.args.lsp.now.entry c.requires.number) old))
