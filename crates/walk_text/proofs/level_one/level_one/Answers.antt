use Rattle.walk_text.proofs.LevelLemmas.{runs-one, none-told, book-told, book-view}
use Rattle.walk_text.proofs.level_one.level_one.Goals as goal

pub returns-clause-told : goal.returns-clause-told
returns-clause-told c =
    let r = c.args.router.now in
    book-told r c.database-book.result.now c.store-store.result.now c.flag_pages-rows.result.now.entries
    (runs-one r.config.runs.one r.config.runs.two c.facts.ensures.speaking.sender.some c.requires) c.database-book.ensures c.store-store.ensures c.flag_pages-rows.ensures.rows c.flag_pages-rows.ensures.beside c.len-count.ensures.ids

pub returns-clause-view : goal.returns-clause-view
returns-clause-view c =
    book-view c.args.router.now c.database-book.result.now c.store-store.result.now c.flag_pages-rows.result.now.entries
    c.database-book.ensures c.store-store.ensures c.flag_pages-rows.ensures.rows c.flag_pages-rows.ensures.beside

pub returns-clause-two : goal.returns-clause-two
returns-clause-two c = none-told c.args.router.now c.requires
