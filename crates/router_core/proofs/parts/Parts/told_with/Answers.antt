use Rattle.std.proofs.Common.{◌≡◌, ◌∙◌, true, sym, ap, subst}
use Rattle.std.specs.List.{AllByRecursion}
use Rattle.isis_base.specs.Identifiers.{IsId}
use Rattle.isis_base.specs.declared.identifiers.LspId.{LspId}
use Rattle.lsp_store.specs.Maps.{RisesFrom}
use Rattle.lsp_store.specs.Databases.{Database}
use Rattle.lsp_store.specs.declared.entry.Entry.{Entry}
use Rattle.model_router.specs.Both.{at}
use Rattle.model_router.specs.Routers.{LevelState, book_of, level_of}
use Rattle.flag_sync.specs.BookStates as sync
use Rattle.router_levels.specs.Views.{state_of}
use Rattle.router_core.proofs.MovedLemmas.{put-tells}
use Rattle.router_core.proofs.RouteLemmas.{beside-long, unrun-outlook}
use Rattle.router_core.proofs.parts.Parts.told_with.Goals as goal

-- src/told.rt
pub returns : goal.returns
returns c =
    let r = c.args.self.now in
    let l = c.args.level in
    let id = c.args.id in
    let state : state_of c.level.result.now ≡ level_of r l = c.level.ensures.state in
    let v = c.book-book.result.now in
    let of_book : sync.book_of v ≡ book_of r l = ap sync.book_of c.book-book.ensures ∙ ap (λ (s : LevelState). s.book) state in
    let runs : at r.config.runs l ≡ true = sym c.runs.ensures ∙ c.if-not-runs.false in
    let ids = subst (λ (d : Database). AllByRecursion (λ (p : LspId × Entry). IsId p.0) d.entries) c.store-store.ensures c.len-entries.ensures.ids in
    let rises = subst (λ (d : Database). RisesFrom 0 d.entries) c.store-store.ensures c.len-entries.ensures.rises in
    λ t w. put-tells r t l runs id c.args.entry w v of_book (beside-long v.store.entries c.flag_pages-rows.result.now.entries v.rows c.flag_pages-rows.ensures.rows c.flag_pages-rows.ensures.beside) c.lsp_id_law.ensures ids rises

-- src/told.rt
pub returns-then-not-runs : goal.returns-then-not-runs
returns-then-not-runs c =
    let r = c.args.self.now in
    λ t w. unrun-outlook r t c.args.level w.config (sym c.runs.ensures ∙ c.if-not-runs.true) w.other
