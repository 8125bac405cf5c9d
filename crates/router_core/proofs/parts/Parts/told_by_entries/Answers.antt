use Rattle.std.proofs.Common.{◌≡◌, ◌∙◌, List, sym, ap, subst}
use Rattle.std.specs.List.{AllByRecursion}
use Rattle.isis_base.specs.Identifiers.{IsId}
use Rattle.isis_base.specs.declared.identifiers.LspId.{LspId}
use Rattle.isis_base.specs.declared.identifiers.NodeId.{NodeId}
use Rattle.lsp_store.specs.Databases.{Database}
use Rattle.lsp_store.specs.Maps.{RisesFrom}
use Rattle.lsp_store.specs.declared.entry.Entry.{Entry}
use Rattle.model_router.specs.Receiving.{scene_of}
use Rattle.model_router.specs.Routers.{LevelState, book_of, level_of, with_level}
use Rattle.model_router.specs.Takes.{take_entries, take_snp}
use Rattle.flag_sync.specs.BookStates as sync
use Rattle.flag_sync.specs.Heard.{entries_of}
use Rattle.router_levels.specs.Views.{state_of}
use Rattle.router_routes.specs.Outlooks.{outlook_of}
use Rattle.router_routes.specs.Told.{told_in}
use Rattle.router_core.specs.Asides.{IsCovered, IsHeldAside, IsShown}
use Rattle.router_core.specs.Givens.{given}
use Rattle.router_core.proofs.AsideLemmas.{snp-aside}
use Rattle.router_core.proofs.NodesLemmas.{all-covered, aside-moved, level-config, level-other, moved-in, shown-in}
use Rattle.router_core.proofs.RouteLemmas.{beside-long, unrun-outlook}
use Rattle.router_core.proofs.parts.Parts.told_by_entries.Goals as goal

-- src/snp_told.rt
pub returns-then-not-runs : goal.returns-then-not-runs
returns-then-not-runs c place range =
    let r = c.args.self.now in
    let l = c.args.level in
    let s = take_snp (scene_of given r l) (level_of r l) r.config.system place range (entries_of c.args.entries.now) in
    unrun-outlook r _ l (level-config r l s) (sym c.runs.ensures ∙ c.if-not-runs.true) (level-other r l s)

-- src/snp_told.rt
pub aside_after-requires-clause-shown : goal.aside_after-requires-clause-shown
aside_after-requires-clause-shown c =
    let r = c.args.self.now in
    let l = c.args.level in
    let state : state_of c.level.result.now ≡ level_of r l = c.level.ensures.state in
    let v = c.book-book.result.now in
    let of_book : sync.book_of v ≡ book_of r l = ap sync.book_of c.book-book.ensures ∙ ap (λ (s : LevelState). s.book) state in
    let ids = subst (λ (d : Database). AllByRecursion (λ (p : LspId × Entry). IsId p.0) d.entries) c.store-store.ensures c.len-entries.ensures.ids in
    let rises = subst (λ (d : Database). RisesFrom 0 d.entries) c.store-store.ensures c.len-entries.ensures.rises in
    subst (λ (d : Database). IsShown r l d.entries) (sym c.store-store.ensures)
    (shown-in r l v of_book (beside-long v.store.entries c.flag_pages-rows.result.now.entries v.rows c.flag_pages-rows.ensures.rows c.flag_pages-rows.ensures.beside) ids rises (c.requires.reached.speaking.sorted.on l))

-- src/snp_told.rt
pub aside_after-requires-clause-covered : goal.aside_after-requires-clause-covered
aside_after-requires-clause-covered c =
    subst (λ (nodes : List NodeId). AllByRecursion (IsCovered c.args.self.now c.args.level nodes) c.args.entries.now) (sym c.deref.ensures.value)
    (all-covered c.args.self.now c.args.level c.in_ok-nodes.nodes.items c.store-store.result.now.entries c.args.entries.now (aside_after-requires-clause-shown c) c.in_ok-nodes.ensures.covered)

-- src/snp_told.rt
pub returns-in-Ok : goal.returns-in-Ok
returns-in-Ok c place range =
    let r = c.args.self.now in
    let l = c.args.level in
    let nodes = c.in_ok-nodes.nodes.items in
    let told = c.in-Ok.aside.entries in
    let entries = entries_of c.args.entries.now in
    let after = take_entries (scene_of given r l) (level_of r l) r.config.system place entries in
    let s = take_snp (scene_of given r l) (level_of r l) r.config.system place range entries in
    let held = snp-aside r l nodes told place range entries (subst (λ (ns : List NodeId). IsHeldAside r l ns after told) c.deref.ensures.value (c.in-Ok.ensures place)) in
    let state : state_of c.level.result.now ≡ level_of r l = c.level.ensures.state in
    let v = c.book-book.result.now in
    let of_book : sync.book_of v ≡ book_of r l = ap sync.book_of c.book-book.ensures ∙ ap (λ (s : LevelState). s.book) state in
    let ids = subst (λ (d : Database). AllByRecursion (λ (p : LspId × Entry). IsId p.0) d.entries) c.store-store.ensures c.len-entries.ensures.ids in
    let rises = subst (λ (d : Database). RisesFrom 0 d.entries) c.store-store.ensures c.len-entries.ensures.rises in
    let shown = subst (λ (d : Database). IsShown r l d.entries) (sym c.store-store.ensures)
    (shown-in r l v of_book (beside-long v.store.entries c.flag_pages-rows.result.now.entries v.rows c.flag_pages-rows.ensures.rows c.flag_pages-rows.ensures.beside) ids rises (c.requires.reached.speaking.sorted.on l)) in
    c.told_at.ensures (outlook_of r) (outlook_of (with_level r l s))
    (moved-in r l s nodes (told_in told) (sym c.runs.ensures ∙ c.if-not-runs.false) c.in_ok-nodes.ensures.rises
    (aside-moved r l nodes s told c.store-store.result.now.entries held shown c.len-told.ensures.ids c.len-told.ensures.rises))
