use Rattle.std.proofs.Common.{◌≡◌, ◌∙◌, Bool, map, sym, ap, subst}
use Rattle.std.specs.List.{AllByRecursion}
use Rattle.isis_base.specs.Identifiers.{IsId}
use Rattle.isis_base.specs.declared.identifiers.LspId.{LspId}
use Rattle.lsp_store.specs.Databases.{Database}
use Rattle.lsp_store.specs.Maps.{RisesFrom}
use Rattle.lsp_store.specs.declared.entry.Entry.{Entry}
use Rattle.model_router.specs.OwnLsps.{renew}
use Rattle.model_router.specs.Routers.{LevelState, book_of, level_of}
use Rattle.flag_sync.specs.BookStates as sync
use Rattle.router_routes.specs.Told.{told_by}
use Rattle.router_wanted.specs.Views.{wanted_of}
use Rattle.router_core.specs.Asides.{IsShown}
use Rattle.router_core.specs.Givens.{given}
use Rattle.router_core.specs.Seconds.{level_later}
use Rattle.router_core.specs.Shifts.{IsShifted}
use Rattle.router_core.proofs.NodesLemmas.{shown-in}
use Rattle.router_core.proofs.RenewalLemmas.{later-ahead, renewed-moved}
use Rattle.router_core.proofs.RouteLemmas.{beside-long}
use Rattle.router_core.proofs.SettledLemmas.{aged, own-is}
use Rattle.router_core.proofs.ShiftLemmas.{clash}
use Rattle.router_core.proofs.parts.Parts.movers_by.Goals as goal

-- src/renewing.rt
pub returns-then-not-runs : goal.returns-then-not-runs
returns-then-not-runs c _ circuits of-old of-new runs = clash (sym runs ∙ sym c.runs.ensures ∙ c.if-not-runs.true)

-- src/renewing.rt
pub returns-in-Ok : goal.returns-in-Ok
returns-in-Ok c _ circuits of-old of-new =
    let r = c.args.self.now in
    let l = c.args.level in
    let v = c.book-book.result.now in
    let held = c.store-store.result.now.entries in
    let of_book : sync.book_of v ≡ book_of r l = ap sync.book_of c.book-book.ensures ∙ ap (λ (s : LevelState). s.book) c.level-on.ensures.state in
    let long = beside-long v.store.entries c.flag_pages-rows.result.now.entries v.rows c.flag_pages-rows.ensures.rows c.flag_pages-rows.ensures.beside in
    let ids = c.len-entries.ensures.ids in
    let rises = c.len-entries.ensures.rises in
    let own = own-is c.level-on.result.now c.own.result.now (level_of r l) c.own.ensures c.level-on.ensures.state in
    let shown : IsShown r l held = subst (λ (d : Database). IsShown r l d.entries) (sym c.store-store.ensures)
    (shown-in r l v of_book long (subst (λ (d : Database). AllByRecursion (λ (p : LspId × Entry). IsId p.0) d.entries) c.store-store.ensures ids) (subst (λ (d : Database). RisesFrom 0 d.entries) c.store-store.ensures rises) of-old) in
    let s = renew given r l (level_later (level_of r l) l circuits) (map wanted_of c.args.wanted.now) in
    let ahead = later-ahead r l v held c.second.new.self.issued circuits c.in_ok-movers.movers.nodes.items c.in_ok-movers.movers.aside.entries (ap (λ (d : Database). d.entries) c.store-store.ensures) of_book long ids rises of-old
    (c.second.ensures.issued ∙ ap aged (c.in_ok-later.ensures ∙ own)) (c.in_ok-movers.ensures r l shown) in
    let seen = c.in-Ok.ensures (level_later (level_of r l) l circuits) shown ahead in
    let moved = renewed-moved r l c.tell_renewed.new.movers.nodes.items c.tell_renewed.new.movers.aside.entries held s seen of-new shown c.len-told.ensures.ids c.len-told.ensures.rises in
    subst (λ (b : Bool). IsShifted c.if_any.result b (told_by (book_of r l).cells) (told_by s.book.cells)) (sym (sym c.runs.ensures ∙ c.if-not-runs.false))
    (c.if_any.ensures (told_by (book_of r l).cells) (told_by s.book.cells) seen.sees.rises moved)
