use Rattle.std.proofs.Common.{◌≡◌, ◌∙◌, ◌-◌, None, ap, subst, arith}
use Rattle.std.specs.List.{AllByRecursion}
use Rattle.isis_base.specs.declared.identifiers.LspId.{LspId}
use Rattle.isis_base.specs.Identifiers.{IsId, lsp_number}
use Rattle.model_router.specs.Places.{nth}
use Rattle.model_router.specs.Receiving.{lsp_drop}
use Rattle.model_router.specs.Routers.{Circuit, LevelState, book_of, level_of}
use Rattle.lsp_store.specs.declared.entry.Entry.{Entry}
use Rattle.lsp_store.specs.Databases.{Database}
use Rattle.lsp_store.specs.Maps.{RisesFrom, find}
use Rattle.flag_sync.specs.BookStates as sync
use Rattle.flag_sync.specs.Heard.{heard_of}
use Rattle.router_desk.specs.Opening.{envelope_of}
use Rattle.router_levels.specs.Views.{state_of}
use Rattle.router_core.specs.Refreshes.{IsRefresh}
use Rattle.router_core.proofs.IdleLemmas.{from-some}
use Rattle.router_core.proofs.OpenLemmas.{there}
use Rattle.router_core.proofs.RefreshLemmas.{outlook-same}
use Rattle.router_core.proofs.RouteLemmas.{beside-long}
use Rattle.router_core.proofs.parts.Parts.is_refresh.Goals as goal

-- src/refresh.rt
pub returns : goal.returns
returns c =
    let r = c.args.self.now in
    let place = c.args.circuit - 1 in
    let l = c.args.from.0 in
    let from = envelope_of c.args.from.1 in
    let heard = c.args.lsp.now in
    let low = c.requires.there.0 in
    let high = c.requires.there.1 in
    let is = there r.circuits place (omega (arith, low, high)) in
    let kept : lsp_drop r place is.0 l from (heard_of heard) ≡ None =
    from-some (λ (x : Circuit). lsp_drop r place x l from (heard_of heard) ≡ None) (nth r.circuits place) is.0 is.1 c.requires.kept in
    let state : state_of c.level.result.now ≡ level_of r l = c.level.ensures.state in
    let v = c.book-book.result.now in
    let of_book : sync.book_of v ≡ book_of r l = ap sync.book_of c.book-book.ensures ∙ ap (λ (s : LevelState). s.book) state in
    let ids = subst (λ (d : Database). AllByRecursion (λ (p : LspId × Entry). IsId p.0) d.entries) c.store-store.ensures c.len-entries.ensures.ids in
    let rises = subst (λ (d : Database). RisesFrom 0 d.entries) c.store-store.ensures c.len-entries.ensures.rises in
    λ held.
    outlook-same r place l from heard is.0 v c.args.row is.1 kept c.requires.row (c.is_stored.ensures c.if-not-is_stored.false) of_book (beside-long v.store.entries c.flag_pages-rows.result.now.entries v.rows c.flag_pages-rows.ensures.rows c.flag_pages-rows.ensures.beside) c.lsp_id_law.ensures ids rises
    (subst (λ (d : Database). IsRefresh (find d.entries (lsp_number heard.entry.id)) heard) c.store-store.ensures (c.is_held.ensures held))
